-- What a record that is added does to the layers.
use Rattle.std.proofs.Common.{◌≡◌, ◌≢◌, ◌≤◌, ◌<◌, ◌+◌, ◌*◌, ◌==◌, ℕ, Bool, true, false, cond, if◌then◌else◌, List, [], ◌∷◌, ◌++◌, length, take, drop, map, refl, sym, ap, subst, ◌∙◌, arith, length-append, append_assoc, append-nil, take_all}
use Rattle.std.specs.Prelude.{not, Option, Some, None, Result, Ok, Err, OnOk, IsTrue, is_ok, flat_map}
use Rattle.std.specs.List.{AllByRecursion, sum_by}
use Rattle.std.proofs.lemmas.Bool.Decides.{nat_tests}
use Rattle.std.proofs.lemmas.Grind.{flat_map-append}
use Rattle.std.proofs.lemmas.List.{map-append, take-append-drop}
use Rattle.std.proofs.lemmas.List.Sums.{fold-append, sum_by-append, sum_by-cons}
use Rattle.dfs_host.specs.Host.{HostState, OnlyReads, Told, bytes_of, now}
use Rattle.dfs_host.specs.declared.fault.Fault.{Fault}
use Rattle.dfs_host.proofs.Moments.{nothing_done, reads_nothing}
use Rattle.dfs_record.specs.declared.Record.{Record}
use Rattle.dfs_record.specs.declared.Key.{Key}
use Rattle.dfs_record.specs.declared.Value.{Value}
use Rattle.dfs_record.specs.declared.Value.TheVariants.{Del, Put}
use Rattle.dfs_record.specs.Delta.{Delta, delta, last_value, records_of, with_record}
use Rattle.dfs_record.specs.KeyMap.{empty, get}
use Rattle.dfs_record.specs.Namespace.{Namespace, after_record, after_records}
use Rattle.dfs_record.proofs.Replays.{after-append, delta-records_of, effect, get-after_records, replay_as_delta}
use Rattle.dfs_buffer.specs.Buffer.{Buffered, StandsFor, after_put, counted}
use Rattle.dfs_table.specs.declared.run.Run.{Run}
use Rattle.dfs_table.specs.Cut.{IsCut}
use Rattle.dfs_table.specs.Stored.{IsStored, IsTableOf, run_records}
use Rattle.dfs_table.specs.Writer.{table_len}
use Rattle.dfs_table.proofs.Stays.{all_append, all_weaker, run_stays, tables_stay}
use Rattle.dfs_view.specs.declared.layers.Layers.{Layers}
use Rattle.dfs_view.specs.Layers.{AreFit, AreStored, LiesIn, Stand, StandFor, entry_left, layers_map, own_runs, records_on, run_count, runs_of}
use Rattle.dfs_view.specs.Lists.{Layered, add_all, closed_by, flushed}
use Rattle.dfs_view.specs.View.{Closes, GoesOn, GrowsByRuns, IsClosed, Pair, Parts, ViewFollows, WorksOn, pair_of, runs_len}
use Rattle.dfs_view.proofs.Parts.{records_in_file}

pub on_ok : {T E P Q : Type 0} (result : Result T E) → OnOk result P → (P → Q) → OnOk result Q
on_ok (Ok x) p f = f p
on_ok (Err e) p f = tt

-- ---- the map with one record more

pub added_map : (below : List Record) (d : Delta) (r : Record) → after_records empty (below ++ records_of (with_record d r)) ≡ after_record (after_records empty (below ++ records_of d)) r
added_map below d r =
    let m : Namespace = after_records empty below in
    let one : delta (records_of d ++ r ∷ []) ≡ with_record d r = fold-append with_record empty (records_of d) (r ∷ []) ∙ ap (λ x. with_record x r) (delta-records_of d) in
    after-append empty below (records_of (with_record d r))
    ∙ ap (λ x. after_records m (records_of x)) (sym one)
    ∙ replay_as_delta m (records_of d ++ r ∷ [])
    ∙ after-append m (records_of d) (r ∷ [])
    ∙ ap (λ n. after_record n r) (sym (after-append empty below (records_of d)))

pub put_map : (host : HostState) (layers : Layers) (b : Buffered) (r : Record) → b ≡ after_put layers.buffer r → layers_map host (record layers { buffer = b }) ≡ after_record (layers_map host layers) r
put_map host layers b r is =
    let below = flat_map (λ (x : ℕ × Run). records_on host x.1) (runs_of layers) in
    ap (λ (x : Buffered). after_records empty (below ++ records_of x.held)) is ∙ added_map below layers.buffer.held r

-- ---- a record that stays in the open layer

pub put_failed : (host : HostState) (layers : Layers) (b : Buffered) (r : Record) → layers.log.refused ≡ 0
    → GoesOn (record { host = host; layers = layers; live = true }) (record { host = host; layers = record layers { buffer = b }; live = false }) (r ∷ [])
put_failed host layers b r none = record {
  later = omega arith;
  only = record { tells = refl; say_faults = refl; content = λ tells. nothing_done host (λ bytes may. tt) };
  reads = refl;
  limit = refl;
  basis = refl;
  file = refl;
  log_limit = refl;
  more = [];
  runs = sym (append-nil (own_runs layers));
  more_own = tt;
  more_cut = λ tells. tt;
  counted = omega arith;
  growth = omega (arith, none);
  wrote = λ live. absurd (cc live);
  past = λ over. absurd (omega (arith, over, none));
  added = λ tells live. absurd (cc live);
  bytes = λ tells. take_all _ _ (omega arith);
}

not_full : (n limit : ℕ) → counted n < limit → limit ≤ 65536 → (n == limit) ≡ false
not_full n limit lt most = grind (arith, nat_tests)

is_full : (n m limit : ℕ) → n ≡ m + 1 → counted m < limit → limit ≤ counted n → limit ≤ 65536 → (n == limit) ≡ true
is_full n m limit next lt ge most = grind (arith, nat_tests)

module _ (host : HostState) (layers : Layers) (b : Buffered) (r : Record) (is : b ≡ after_put layers.buffer r) (none : layers.log.refused ≡ 0) (most : layers.limit ≤ 65536)
    (stands_more : (rs : List Record) → StandsFor layers.buffer rs → StandsFor b (rs ++ r ∷ [])) where
  made_more : b.made ≤ layers.buffer.made + 1
  made_more = omega (arith, ap (λ (x : Buffered). x.made) is)

  pub put_goes_on : b.made < layers.limit → GoesOn (record { host = host; layers = layers; live = true }) (record { host = host; layers = record layers { buffer = b }; live = true }) (r ∷ [])
  put_goes_on room = record {
    later = omega arith;
    only = record { tells = refl; say_faults = refl; content = λ tells. nothing_done host (λ bytes may. tt) };
    reads = refl;
    limit = refl;
    basis = refl;
    file = refl;
    log_limit = refl;
    more = [];
    runs = sym (append-nil (own_runs layers));
    more_own = tt;
    more_cut = λ tells. tt;
    counted = omega (arith, made_more);
    growth = omega (arith, none, made_more);
    wrote = λ live. omega arith;
    past = λ over. absurd (omega (arith, over, none));
    added = λ tells live l stands.
        let stood = stands_more l.open_ stands.open_ in
        let open_still : (length (l.open_ ++ r ∷ []) == layers.limit) ≡ false = not_full (length (l.open_ ++ r ∷ [])) layers.limit (subst (λ n. n < layers.limit) stood.made room) most in
        subst (StandFor host (record layers { buffer = b }))
        (sym (ap (λ c. if c then record { closed = l.closed ++ (l.open_ ++ r ∷ []) ∷ []; open_ = [] } else record { closed = l.closed; open_ = l.open_ ++ r ∷ [] }) open_still))
        (record { closed = stands.closed; open_ = stood });
    bytes = λ tells. take_all _ _ (omega arith);
  }

-- ---- a layer that closes

paired : {A : Type 0} (g : A → Run) (n : ℕ) (xs : List A) → map {B = ℕ × Run} (λ x. (n, g x)) xs ≡ map {B = ℕ × Run} (λ (r : Run). (n, r)) (map g xs)
paired g n [] = refl
paired g n (x ∷ xs) = ap (λ l. (n, g x) ∷ l) (paired g n xs)

-- each file has what it had, and maybe more behind it
record Grows (old new : List ℕ) : Type 0 where
  behind : List ℕ
  is : new ≡ old ++ behind

module _ (host after : HostState) (old new : Layers) {T E : Type 0} {result : Result T E} (closes : Closes host after old new result) (tells : IsTrue host.tells) (stand : Stand host old) where
  grows : (n : ℕ) → Grows (bytes_of host n) (bytes_of after n)
  grows n = by (n == old.log.file) refl
    where
      by : (b : Bool) → (n == old.log.file) ≡ b → Grows (bytes_of host n) (bytes_of after n)
      by true e =
          let same : n ≡ old.log.file = grind (arith, nat_tests) in
          subst (λ m. Grows (bytes_of host m) (bytes_of after m)) (sym same)
          (record {
            behind = drop old.log.len (bytes_of after old.log.file);
            is = sym (take-append-drop old.log.len (bytes_of after old.log.file)) ∙ ap (λ l. l ++ drop old.log.len (bytes_of after old.log.file)) (closes.before tells);
          })
      by false e =
          let yes : (old.log.file == old.log.file) ≡ true = grind (arith, nat_tests) in
          let other : n ≢ old.log.file = λ same. absurd (cc (yes, e, same)) in
          record { behind = []; is = ap (λ (f : _). f.bytes) ((closes.only.content tells).others n other) ∙ sym (append-nil (bytes_of host n)) }

  lies_still : (n : ℕ) (run : Run) → LiesIn host n run → LiesIn after n run
  lies_still n run lies =
      let g = grows n in
      record { each = subst (λ l. AllByRecursion (IsTableOf l) run.tables) (sym g.is) (tables_stay (bytes_of host n) g.behind run.tables lies.each); inside = lies.inside }

  records_still : (n : ℕ) (run : Run) → LiesIn host n run → records_on after run ≡ records_on host run
  records_still n run lies =
      let g = grows n in
      records_in_file after n run.tables lies.inside ∙ ap (λ l. run_records l run.tables) g.is ∙ run_stays (bytes_of host n) g.behind run.tables lies.each ∙ sym (records_in_file host n run.tables lies.inside)

  all_lie : (rs : List (ℕ × Run)) → AllByRecursion (λ (r : ℕ × Run). LiesIn host r.0 r.1) rs → AllByRecursion (λ (r : ℕ × Run). LiesIn after r.0 r.1) rs
  all_lie rs = all_weaker (λ (r : ℕ × Run). LiesIn host r.0 r.1) (λ (r : ℕ × Run). LiesIn after r.0 r.1) rs (λ r. lies_still r.0 r.1)

  all_records : (rs : List (ℕ × Run)) → AllByRecursion (λ (r : ℕ × Run). LiesIn host r.0 r.1) rs → flat_map (λ (r : ℕ × Run). records_on after r.1) rs ≡ flat_map (λ (r : ℕ × Run). records_on host r.1) rs
  all_records [] each = refl
  all_records (r ∷ rs) each = λ i. records_still r.0 r.1 each.0 i ++ all_records rs each.1 i

  module _ (closed : IsClosed host after old new) where
    runs_more : runs_of new ≡ runs_of old ++ (old.log.file, closed.run) ∷ []
    runs_more =
        ap (λ l. map (λ c. (c.value.listed.job, c.value.run.value)) new.basis.items ++ l) (paired (λ r. r.value) new.log.file new.runs.items)
        ∙ (λ i. map (λ c. (c.value.listed.job, c.value.run.value)) (closes.basis i) ++ map (λ (r : Run). (closes.file i, r)) (closed.runs i))
        ∙ ap (λ l. map (λ c. (c.value.listed.job, c.value.run.value)) old.basis.items ++ l) (map-append (λ (r : Run). (old.log.file, r)) (own_runs old) (closed.run ∷ []))
        ∙ sym (append_assoc (map (λ c. (c.value.listed.job, c.value.run.value)) old.basis.items) (map (λ (r : Run). (old.log.file, r)) (own_runs old)) ((old.log.file, closed.run) ∷ []))
        ∙ ap (λ l. (map (λ c. (c.value.listed.job, c.value.run.value)) old.basis.items ++ l) ++ (old.log.file, closed.run) ∷ []) (sym (paired (λ r. r.value) old.log.file old.runs.items))

    run_lies : LiesIn after old.log.file closed.run
    run_lies = record { each = (closed.stored tells).each; inside = closed.own.inside }

    pub closed_stand : Stand after new
    closed_stand = record {
      log = closed.log tells;
      runs = subst (AllByRecursion (λ (r : ℕ × Run). LiesIn after r.0 r.1)) (sym runs_more) (all_append (λ (r : ℕ × Run). LiesIn after r.0 r.1) (runs_of old) ((old.log.file, closed.run) ∷ []) (all_lie (runs_of old) stand.runs) (run_lies, tt));
    }

    pub closed_map : layers_map after new ≡ layers_map host old
    closed_map =
        let own : records_on after closed.run ≡ records_of old.buffer.held = records_in_file after old.log.file closed.run.tables closed.own.inside ∙ (closed.stored tells).records in
        (λ i. after_records empty (flat_map (λ (r : ℕ × Run). records_on after r.1) (runs_more i) ++ records_of (closed.emptied i).held))
        ∙ ap (after_records empty)
        (append-nil (flat_map (λ (r : ℕ × Run). records_on after r.1) (runs_of old ++ (old.log.file, closed.run) ∷ []))
        ∙ flat_map-append (λ (r : ℕ × Run). records_on after r.1) (runs_of old) ((old.log.file, closed.run) ∷ [])
        ∙ (λ i. all_records (runs_of old) stand.runs i ++ (append-nil (records_on after closed.run) ∙ own) i))

    still_stored : (file more : List ℕ) (rs : List Run) (ls : List (List Record)) → AreStored file rs ls → AreStored (file ++ more) rs ls
    still_stored file more [] [] stored = tt
    still_stored file more [] (l ∷ ls) stored = absurd stored
    still_stored file more (r ∷ rs) [] stored = absurd stored
    still_stored file more (r ∷ rs) (l ∷ ls) stored = (
      record { each = tables_stay file more r.tables stored.0.each; records = run_stays file more r.tables stored.0.each ∙ stored.0.records },
      still_stored file more rs ls stored.1,
    )

    one_stored : (file : List ℕ) (rs : List Run) (ls : List (List Record)) (run : Run) (l : List Record) → AreStored file rs ls → IsStored file run (delta l) → AreStored file (rs ++ run ∷ []) (ls ++ l ∷ [])
    one_stored file [] [] run l stored last = (last, tt)
    one_stored file [] (m ∷ ls) run l stored last = absurd stored
    one_stored file (r ∷ rs) [] run l stored last = absurd stored
    one_stored file (r ∷ rs) (m ∷ ls) run l stored last = (stored.0, one_stored file rs ls run l stored.1 last)

    pub closed_stores : (ls : List (List Record)) (l : List Record) → AreStored (bytes_of host old.log.file) (own_runs old) ls → StandsFor old.buffer l → AreStored (bytes_of after new.log.file) (own_runs new) (ls ++ l ∷ [])
    closed_stores ls l stored stands =
        let g = grows old.log.file in
        let kept : AreStored (bytes_of after old.log.file) (own_runs old) ls = subst (λ f. AreStored f (own_runs old) ls) (sym g.is) (still_stored (bytes_of host old.log.file) g.behind (own_runs old) ls stored) in
        let last : IsStored (bytes_of after old.log.file) closed.run (delta l) = subst (IsStored (bytes_of after old.log.file) closed.run) stands.held (closed.stored tells) in
        subst (λ n. AreStored (bytes_of after n) (own_runs new) (ls ++ l ∷ [])) (sym closes.file)
        (subst (λ rs. AreStored (bytes_of after old.log.file) rs (ls ++ l ∷ [])) (sym closed.runs) (one_stored (bytes_of after old.log.file) (own_runs old) ls closed.run l kept last))

-- the open layer closes with these records, which the buffer has
pub record ClosesWith (b : Buffered) (l later : Layered) : Type 0 where
  pub records : List Record
  pub stood : StandsFor b records
  pub is : later ≡ record { closed = l.closed ++ records ∷ []; open_ = [] }

-- The open layer closes with what the buffer then has, so many records more than before.
module _ (host after : HostState) (old new : Layers) (b : Buffered) (count : ℕ) (becomes : Layered → Layered) (made : b.made ≤ old.buffer.made + count) (later : now host ≤ now after) (stand : Told host (Stand host old))
    (closes_with : (l : Layered) → StandFor host old l → ClosesWith b l (becomes l)) where
  mid_stand : IsTrue host.tells → Stand host (record old { buffer = b })
  mid_stand tells = let s = stand tells in record { log = s.log; runs = s.runs }

  kept : {A : Type 0} {result : Result A Fault} → Closes host after (record old { buffer = b }) new result
      → Told host (take (length (bytes_of host old.log.file)) (bytes_of after old.log.file) ≡ bytes_of host old.log.file)
  kept closes = λ tells. ap (λ n. take n (bytes_of after old.log.file)) (stand tells).log.len ∙ closes.before tells

  pub closing_works : {A : Type 0} (result : Result A Fault) → Closes host after (record old { buffer = b }) new result → after.reads ≡ host.reads
      → WorksOn (record { host = host; layers = old; live = true }) (record { host = after; layers = new; live = is_ok result }) count becomes
  closing_works (Err e) closes reads = record {
    later = later;
    only = closes.only;
    reads = reads;
    limit = closes.limit;
    basis = closes.basis;
    file = closes.file;
    log_limit = closes.log_limit;
    more = [];
    runs = closes.same_runs ∙ sym (append-nil (own_runs old));
    more_own = tt;
    more_cut = λ tells. tt;
    counted = omega (arith, ap (λ rs. sum_by run_count rs) closes.same_runs);
    growth = omega (arith, closes.growth, made);
    wrote = λ live. absurd (cc live);
    past = closes.past;
    added = λ tells live. absurd (cc live);
    bytes = kept closes;
  }
  closing_works (Ok x) closes reads =
      let closed = closes.closed in
      record {
        later = later;
        only = closes.only;
        reads = reads;
        limit = closes.limit;
        basis = closes.basis;
        file = closes.file;
        log_limit = closes.log_limit;
        more = closed.run ∷ [];
        runs = closed.runs;
        more_own = (closed.own, tt);
        more_cut = λ tells. let stored = closed.stored tells in (record { each = stored.each; cut = subst (λ rs. IsCut rs closed.run.tables) (sym stored.records) closed.cut }, tt);
        counted = omega (
          arith,
          ap (λ rs. sum_by run_count rs) closed.runs,
          sum_by-append run_count (own_runs old) (closed.run ∷ []),
          sum_by-cons run_count closed.run [],
          closed.count,
          made,
          ap (λ (y : Buffered). y.made) closed.emptied,
        );
        growth = omega (arith, closes.growth, made, ap (λ (y : Buffered). y.made) closed.emptied);
        wrote = λ live. omega (arith, closed.wrote, sum_by-cons (λ (x : Run). sum_by table_len x.tables) closed.run []);
        past = closes.past;
        added = λ tells live l stands.
            let with = closes_with l stands in
            subst (StandFor after new) (sym with.is)
            (record {
              closed = closed_stores host after (record old { buffer = b }) new closes tells (mid_stand tells) closed l.closed with.records stands.closed with.stood;
              open_ = subst (λ (y : Buffered). StandsFor y []) (sym closed.emptied) (record { held = refl; made = refl });
            });
        bytes = kept closes;
      }

-- a record with which the open layer closes
pub closes_with_one : (host : HostState) (old : Layers) (b : Buffered) (r : Record) → old.buffer.made < old.limit → old.limit ≤ 65536 → old.limit ≤ b.made
    → ((rs : List Record) → StandsFor old.buffer rs → StandsFor b (rs ++ r ∷ [])) → (l : Layered) → StandFor host old l → ClosesWith b l (add_all old.limit l (r ∷ []))
closes_with_one host old b r room most full stands_more l stands =
    let stood = stands_more l.open_ stands.open_ in
    let here : (length (l.open_ ++ r ∷ []) == old.limit) ≡ true
    = is_full (length (l.open_ ++ r ∷ [])) (length l.open_) old.limit (omega (arith, length-append l.open_ (r ∷ []))) (subst (λ n. n < old.limit) stands.open_.made room) (subst (λ n. old.limit ≤ n) stood.made full) most in
    record {
      records = l.open_ ++ r ∷ [];
      stood = stood;
      is = ap (λ c. if c then record { closed = l.closed ++ (l.open_ ++ r ∷ []) ∷ []; open_ = [] } else record { closed = l.closed; open_ = l.open_ ++ r ∷ [] }) here;
    }

-- ---- closing where there is a record

flushed_some : (l : Layered) → 0 < length l.open_ → flushed l ≡ record { closed = l.closed ++ l.open_ ∷ []; open_ = [] }
flushed_some l some = by l.open_ some
  where
    by : (rs : List Record) → 0 < length rs → closed_by rs l ≡ record { closed = l.closed ++ rs ∷ []; open_ = [] }
    by [] some = absurd (omega (arith, some))
    by (r ∷ rs) some = refl

flushed_none : (l : Layered) → length l.open_ ≡ 0 → flushed l ≡ l
flushed_none l none = by l.open_ none
  where
    by : (rs : List Record) → length rs ≡ 0 → closed_by rs l ≡ l
    by [] none = refl
    by (r ∷ rs) none = absurd (omega (arith, none))

pub closes_with_all : (host : HostState) (old : Layers) → 0 < old.buffer.made → (l : Layered) → StandFor host old l → ClosesWith old.buffer l (flushed l)
closes_with_all host old some l stands = record { records = l.open_; stood = stands.open_; is = flushed_some l (omega (arith, some, stands.open_.made)) }

pub none_to_close : (host : HostState) (layers : Layers) → AreFit layers → layers.buffer.made ≡ 0
    → WorksOn (record { host = host; layers = layers; live = true }) (record { host = host; layers = layers; live = true }) 0 flushed
none_to_close host layers fit none = record {
  later = omega arith;
  only = record { tells = refl; say_faults = refl; content = λ tells. nothing_done host (λ bytes may. tt) };
  reads = refl;
  limit = refl;
  basis = refl;
  file = refl;
  log_limit = refl;
  more = [];
  runs = sym (append-nil (own_runs layers));
  more_own = tt;
  more_cut = λ tells. tt;
  counted = omega arith;
  growth = omega (arith, fit.none_refused);
  wrote = λ live. omega arith;
  past = λ over. absurd (omega (arith, over, fit.none_refused));
  added = λ tells live l stands. subst (StandFor host layers) (sym (flushed_none l (omega (arith, none, stands.open_.made)))) stands;
  bytes = λ tells. take_all _ _ (omega arith);
}

-- the log of a pair that goes on grew by its new runs alone
pub grows_by_runs : (p q : Pair) (count : ℕ) (becomes : Layered → Layered) → WorksOn p q count becomes → IsTrue q.live → GrowsByRuns p.layers q.layers
grows_by_runs p q count becomes works live = omega (arith, works.wrote live, ap runs_len works.runs, sum_by-append (λ (x : Run). sum_by table_len x.tables) (own_runs p.layers) works.more)

-- ---- looks

-- a look leaves all but whether the view is spent
pub looks : (v : Parts) (host : HostState) (s : Bool) → v.spent ≡ false → AreFit v.layers → host ≡ v.host → ViewFollows v (record v { host = host; spent = s }) []
looks v host s live fit same = record {
  same_host = refl;
  same_layers = refl;
  live = λ _. subst (λ h. GoesOn (pair_of v) (record { host = h; layers = v.layers; live = not s }) []) (sym same) (by s);
  room = λ fits. record { idle = same; log = refl };
  spent = λ spent. absurd (cc (live, spent));
}
  where
    all : (b : Bool) → 1100 * cond b v.layers.buffer.made 0 ≤ 1100 * v.layers.buffer.made
    all true = omega arith
    all false = omega arith

    by : (s : Bool) → GoesOn (pair_of v) (record { host = v.host; layers = v.layers; live = not s }) []
    by s = record {
      later = omega arith;
      only = record { tells = refl; say_faults = refl; content = λ tells. nothing_done v.host (λ bytes may. tt) };
      reads = refl;
      limit = refl;
      basis = refl;
      file = refl;
      log_limit = refl;
      more = [];
      runs = sym (append-nil (own_runs v.layers));
      more_own = tt;
      more_cut = λ tells. tt;
      counted = omega (arith, all (not s));
      growth = omega (arith, fit.none_refused, all (not s));
      wrote = λ live. omega arith;
      past = λ over. absurd (omega (arith, over, fit.none_refused));
      added = λ tells live l stands. stands;
      bytes = λ tells. take_all _ _ (omega arith);
    }

effects : (o : Option Value) → effect o None ≡ entry_left o
effects None = refl
effects (Some Del) = refl
effects (Some (Put x)) = refl

pub found_entry : (rs : List Record) (q : Key) (o : Option Value) (m : Namespace) → m ≡ after_records empty rs → o ≡ last_value q rs → entry_left o ≡ get m q
found_entry rs q o m is e = sym (ap (λ n. get n q) is ∙ get-after_records empty rs q ∙ ap (λ x. effect x None) (sym e) ∙ effects o)
