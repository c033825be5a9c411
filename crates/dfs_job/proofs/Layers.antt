-- The records of layers, whatever was closed, and what they leave.
use Rattle.std.proofs.Common.{length-append, ◌≡◌, ◌∙◌, ◌≤◌, ◌+◌, ◌==◌, ℕ, Bool, true, false, if◌then◌else◌, List, [], ◌∷◌, ◌++◌, length, refl, sym, ap, arith, append_assoc, append-nil}
use Rattle.std.specs.Prelude.{flat_map, fold}
use Rattle.std.specs.List.{AllByRecursion}
use Rattle.std.specs.declared.cmp.Ordering.{Ordering}
use Rattle.std.specs.declared.cmp.Ordering.TheVariants.{Less, Equal, Greater}
use Rattle.std.specs.FinMap.Entries.{put, by_order}
use Rattle.std.proofs.lemmas.Grind.{flat_map-append}
use Rattle.std.proofs.lemmas.List.Sums.{fold-append}
use Rattle.dfs_record.specs.declared.Key.{Key}
use Rattle.dfs_record.specs.declared.Record.{Record}
use Rattle.dfs_record.specs.declared.Value.{Value}
use Rattle.dfs_record.specs.Delta.{Delta, delta, or_else, records_of, with_record}
use Rattle.dfs_record.specs.Key.{key_cmp}
use Rattle.dfs_record.specs.KeyMap.{empty, get, len}
use Rattle.dfs_record.specs.Namespace.{Namespace, after_records, replay}
use Rattle.dfs_record.proofs.Maps.{same_map}
use Rattle.dfs_record.proofs.Replays.{after-append, get-delta, get-with_records, last_of_own, replay_as_delta}
use Rattle.dfs_change.specs.Identities.{AreFit, FitsJob}
use Rattle.dfs_change.proofs.Fits.{fit_with}
use Rattle.dfs_view.specs.Lists.{Layered, add_all, add_one, closed_by, flushed, joined}

joined-one : (limit : ℕ) (l : Layered) (r : Record) → joined (add_one limit l r) ≡ joined l ++ r ∷ []
joined-one limit l r = by (length (l.open_ ++ r ∷ []) == limit)
  where
    by : (b : Bool) → joined (if b then record { closed = l.closed ++ (l.open_ ++ r ∷ []) ∷ []; open_ = [] } else record { closed = l.closed; open_ = l.open_ ++ r ∷ [] }) ≡ joined l ++ r ∷ []
    by true =
        append-nil (flat_map (λ (rs : List Record). rs) (l.closed ++ (l.open_ ++ r ∷ []) ∷ []))
        ∙ flat_map-append (λ (rs : List Record). rs) l.closed ((l.open_ ++ r ∷ []) ∷ [])
        ∙ ap (λ x. flat_map (λ (rs : List Record). rs) l.closed ++ x) (append-nil (l.open_ ++ r ∷ []))
        ∙ sym (append_assoc (flat_map (λ (rs : List Record). rs) l.closed) l.open_ (r ∷ []))
    by false = sym (append_assoc (flat_map (λ (rs : List Record). rs) l.closed) l.open_ (r ∷ []))

pub joined-add : (limit : ℕ) (l : Layered) (rs : List Record) → joined (add_all limit l rs) ≡ joined l ++ rs
joined-add limit l [] = sym (append-nil (joined l))
joined-add limit l (r ∷ rs) = joined-add limit (add_one limit l r) rs ∙ ap (λ x. x ++ rs) (joined-one limit l r) ∙ append_assoc (joined l) (r ∷ []) rs

pub joined-flushed : (l : Layered) → joined (flushed l) ≡ joined l
joined-flushed l = by l.open_ refl
  where
    by : (rs : List Record) → l.open_ ≡ rs → joined (closed_by rs l) ≡ joined l
    by [] is = refl
    by (r ∷ rs) is =
        append-nil (flat_map (λ (x : List Record). x) (l.closed ++ (r ∷ rs) ∷ []))
        ∙ flat_map-append (λ (x : List Record). x) l.closed ((r ∷ rs) ∷ [])
        ∙ ap (λ x. flat_map (λ (y : List Record). y) l.closed ++ x) (append-nil (r ∷ rs) ∙ sym is)

-- a flush leaves the closed layers alone
pub flushed_closed : (l : Layered) → flat_map (λ (rs : List Record). rs) (flushed l).closed ≡ joined l
flushed_closed l = sym (ap (λ x. flat_map (λ (rs : List Record). rs) (flushed l).closed ++ x) (no_open l.open_) ∙ append-nil (flat_map (λ (rs : List Record). rs) (flushed l).closed)) ∙ joined-flushed l
  where
    no_open : (rs : List Record) → (flushed l).open_ ≡ []
    no_open rs = by l.open_ refl
      where
        by : (xs : List Record) → l.open_ ≡ xs → (closed_by xs l).open_ ≡ []
        by [] is = is
        by (x ∷ xs) is = refl

-- ---- how the closed layers grow

added_one : (limit : ℕ) (l : Layered) (r : Record) → (more : List (List Record)) × ((add_one limit l r).closed ≡ l.closed ++ more) × (length more + length (add_one limit l r).open_ ≤ length l.open_ + 1)
added_one limit l r = by (length (l.open_ ++ r ∷ []) == limit)
  where
    by : (b : Bool)
        → (more : List (List Record)) × ((if◌then◌else◌ {A = Layered} b (record { closed = l.closed ++ (l.open_ ++ r ∷ []) ∷ []; open_ = [] }) (record { closed = l.closed; open_ = l.open_ ++ r ∷ [] })).closed ≡ l.closed ++ more)
        × (length more + length (if◌then◌else◌ {A = Layered} b (record { closed = l.closed ++ (l.open_ ++ r ∷ []) ∷ []; open_ = [] }) (record { closed = l.closed; open_ = l.open_ ++ r ∷ [] })).open_ ≤ length l.open_ + 1)
    by true = ((l.open_ ++ r ∷ []) ∷ [], refl, omega arith)
    by false = ([], sym (append-nil l.closed), omega (arith, length-append l.open_ (r ∷ [])))

-- closed layers stay in front, and no more come than records
pub added_all : (limit : ℕ) (l : Layered) (rs : List Record) → (more : List (List Record)) × ((add_all limit l rs).closed ≡ l.closed ++ more) × (length more + length (add_all limit l rs).open_ ≤ length l.open_ + length rs)
added_all limit l [] = ([], sym (append-nil l.closed), omega arith)
added_all limit l (r ∷ rs) =
    let one = added_one limit l r in
    let all = added_all limit (add_one limit l r) rs in
    (one.0 ++ all.0, all.1 ∙ ap (λ x. x ++ all.0) one.1 ∙ append_assoc l.closed one.0 all.0, omega (arith, one.2, all.2, length-append one.0 all.0))

pub flushed_all : (l : Layered) → (more : List (List Record)) × ((flushed l).closed ≡ l.closed ++ more) × (length more + length (flushed l).open_ ≤ length l.open_)
flushed_all l = by l.open_ refl
  where
    by : (rs : List Record) → l.open_ ≡ rs → (more : List (List Record)) × ((closed_by rs l).closed ≡ l.closed ++ more) × (length more + length (closed_by rs l).open_ ≤ length l.open_)
    by [] is = ([], sym (append-nil l.closed), omega arith)
    by (r ∷ rs) is = ((r ∷ rs) ∷ [], refl, omega (arith, ap length is))

-- ---- what records leave

pub replay-more : (basis : List Delta) (rs ss : List Record) → replay basis (rs ++ ss) ≡ after_records (replay basis rs) ss
replay-more basis rs ss = ap (after_records empty) (sym (append_assoc (flat_map records_of basis) rs ss)) ∙ after-append empty (flat_map records_of basis ++ rs) ss

-- each layer leaves what its records leave
layers_leave : (m : Namespace) (ls : List (List Record)) → after_records m (flat_map (λ (rs : List Record). records_of (delta rs)) ls) ≡ after_records m (flat_map (λ (rs : List Record). rs) ls)
layers_leave m [] = refl
layers_leave m (rs ∷ ls) =
    after-append m (records_of (delta rs)) (flat_map (λ (x : List Record). records_of (delta x)) ls)
    ∙ layers_leave (after_records m (records_of (delta rs))) ls
    ∙ ap (λ n. after_records n (flat_map (λ (x : List Record). x) ls)) (replay_as_delta m rs)
    ∙ sym (after-append m rs (flat_map (λ (x : List Record). x) ls))

-- all of them, the open one last, leave what their joined records leave
pub all_leave : (basis : List Delta) (l : Layered)
    → after_records empty ((flat_map records_of basis ++ flat_map (λ (rs : List Record). records_of (delta rs)) l.closed) ++ records_of (delta l.open_)) ≡ replay basis (joined l)
all_leave basis l =
    let below = flat_map records_of basis in
    let closed = flat_map (λ (rs : List Record). records_of (delta rs)) l.closed in
    let plain = flat_map (λ (rs : List Record). rs) l.closed in
    after-append empty (below ++ closed) (records_of (delta l.open_))
    ∙ replay_as_delta (after_records empty (below ++ closed)) l.open_
    ∙ ap (λ m. after_records m l.open_) (after-append empty below closed ∙ layers_leave (after_records empty below) l.closed ∙ sym (after-append empty below plain))
    ∙ sym (after-append empty (below ++ plain) l.open_)
    ∙ ap (after_records empty) (append_assoc below plain l.open_)

-- ---- change sets

delta_again : (d : Delta) (rs : List Record) → fold with_record d (records_of (delta rs)) ≡ fold with_record d rs
delta_again d rs = same_map _ _ (λ q.
    get-with_records d (records_of (delta rs)) q ∙ ap (λ o. or_else o (get d q)) (last_of_own (delta rs) q ∙ get-delta rs q) ∙ sym (get-with_records d rs q))

pub deltas_from : (d : Delta) (ls : List (List Record)) → fold with_record d (flat_map (λ (rs : List Record). records_of (delta rs)) ls) ≡ fold with_record d (flat_map (λ (rs : List Record). rs) ls)
deltas_from d [] = refl
deltas_from d (rs ∷ ls) =
    fold-append with_record d (records_of (delta rs)) (flat_map (λ (x : List Record). records_of (delta x)) ls)
    ∙ deltas_from (fold with_record d (records_of (delta rs))) ls
    ∙ ap (λ e. fold with_record e (flat_map (λ (x : List Record). x) ls)) (delta_again d rs)
    ∙ sym (fold-append with_record d rs (flat_map (λ (x : List Record). x) ls))

-- the merged change set of layers is that of their joined records
pub deltas_joined : (ls : List (List Record)) → delta (flat_map (λ (rs : List Record). records_of (delta rs)) ls) ≡ delta (flat_map (λ (rs : List Record). rs) ls)
deltas_joined ls = deltas_from empty ls

fits_from : (job : ℕ) (d : Delta) (rs : List Record) → AreFit job d → AllByRecursion (FitsJob job) rs → AreFit job (fold with_record d rs)
fits_from job d [] fit all = fit
fits_from job d (r ∷ rs) fit all = fits_from job (with_record d r) rs (fit_with job d r fit all.0) all.1

-- records of a job leave a change set of it
pub delta_fits : (job : ℕ) (rs : List Record) → AllByRecursion (FitsJob job) rs → AreFit job (delta rs)
delta_fits job rs all = fits_from job empty rs tt all

put_len : (k : Key) (v : Value) (es : List (Key × Value)) → length (put key_cmp k v es) ≤ length es + 1
put_len k v [] = omega arith
put_len k v (e ∷ es) = by_case (key_cmp k e.0) (put_len k v es)
  where
    by_case : (o : Ordering) → length (put key_cmp k v es) ≤ length es + 1 → length (by_order o ((k, v) ∷ e ∷ es) ((e.0, v) ∷ es) (e ∷ put key_cmp k v es)) ≤ length (e ∷ es) + 1
    by_case Less rest = omega arith
    by_case Equal rest = omega arith
    by_case Greater rest = omega (arith, rest)

len_from : (d : Delta) (rs : List Record) → len (fold with_record d rs) ≤ len d + length rs
len_from d [] = omega arith
len_from d (r ∷ rs) = omega (arith, len_from (with_record d r) rs, put_len r.key r.value d.entries)

-- a change set has no more keys than there are records
pub delta_few : (rs : List Record) → len (delta rs) ≤ length rs
delta_few rs = omega (arith, len_from empty rs)
