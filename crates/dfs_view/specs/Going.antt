-- The two laws of a view.
use Rattle.std.specs.Prelude.{◌≡◌, ◌≤◌, ◌<◌, ◌+◌, ◌*◌, ◌⊎◌, ℕ, Bool, true, false, not, IsTrue, IsFalse, cond, List, [], ◌∷◌, ◌++◌, length, take, drop, refl}
use Rattle.std.specs.List.{AllByRecursion, sum_by}
use Rattle.std.proofs.Common.{sym, ◌∙◌, ap, subst, inl, inr, arith, length-append, append_assoc}
use Rattle.std.proofs.lemmas.List.{take_all, take-append-drop, take-take, length-take, append-nil}
use Rattle.std.proofs.lemmas.List.Sums.{sum_by-append}
use Rattle.dfs_host.specs.Host.{HostState, bytes_of, Only}
use Rattle.dfs_host.proofs.Moments.{nothing_done, only_goes_on, reads_nothing, reads_go_on}
use Rattle.dfs_record.specs.declared.Record.{Record}
use Rattle.dfs_table.specs.declared.run.Run.{Run}
use Rattle.dfs_table.specs.Cut.{IsCut}
use Rattle.dfs_table.specs.Stored.{IsTableOf, run_records}
use Rattle.dfs_table.specs.Writer.{table_len}
use Rattle.dfs_table.proofs.Stays.{all_append, all_weaker, run_stays, tables_stay}
use Rattle.dfs_view.specs.Lists.{Layered, add_one, add_all}
use Rattle.dfs_view.specs.Layers.{AreFit, StandFor, own_runs, run_count}
use Rattle.dfs_view.specs.View.{Pair, GoesOn, IsCutIn, IsOwnRun, LeavesLog, Parts, closed_count, pair_of, ViewFollows}

pub add_all-append : (limit : ℕ) (l : Layered) (rs ss : List Record) → add_all limit l (rs ++ ss) ≡ add_all limit (add_all limit l rs) ss
add_all-append limit l [] ss = refl
add_all-append limit l (r ∷ rs) ss = add_all-append limit (add_one limit l r) rs ss

take_kept : (a b c : List ℕ) → take (length a) b ≡ a → take (length b) c ≡ b → take (length a) c ≡ a
take_kept a b c first second =
    let le : length a ≤ length b = omega (arith, ap length first, length-take (length a) b) in
    sym (take-take (length a) (length b) c le) ∙ ap (take (length a)) second ∙ first

-- a run stays as its file grows
cut_stays : (host after : HostState) (file : ℕ) (run : Run) → take (length (bytes_of host file)) (bytes_of after file) ≡ bytes_of host file → IsCutIn host file run → IsCutIn after file run
cut_stays host after file run kept is =
    let old = bytes_of host file in
    let behind = drop (length old) (bytes_of after file) in
    let grown : bytes_of after file ≡ old ++ behind = sym (take-append-drop (length old) (bytes_of after file)) ∙ ap (λ l. l ++ behind) kept in
    record {
      each = subst (λ l. AllByRecursion (IsTableOf l) run.tables) (sym grown) (tables_stay old behind run.tables is.each);
      cut = subst (λ rs. IsCut rs run.tables) (sym (ap (λ l. run_records l run.tables) grown ∙ run_stays old behind run.tables is.each)) is.cut;
    }

pub goes_on_by_nothing : (p : Pair) → IsTrue p.live → p.layers.log.refused ≡ 0 → GoesOn p p []
goes_on_by_nothing p live none = record {
  later = omega arith;
  only = record { tells = refl; say_faults = refl; content = λ tells. nothing_done p.host (λ bytes may. tt) };
  reads = refl;
  limit = refl;
  basis = refl;
  file = refl;
  log_limit = refl;
  more = [];
  runs = sym (append-nil (own_runs p.layers));
  more_own = tt;
  more_cut = λ tells. tt;
  counted = rw live (omega arith);
  growth = rw (live, none) (omega arith);
  wrote = λ live. omega arith;
  past = λ over. absurd (omega (arith, over, none));
  added = λ tells live l stands. stands;
  bytes = λ tells. take_all _ _ (omega arith);
}

pub goes_on_on : (p q r : Pair) (rs ss : List Record) → IsTrue q.live → GoesOn p q rs → GoesOn q r ss → GoesOn p r (rs ++ ss)
goes_on_on p q r rs ss live first second =
    let file = p.layers.log.file in
    let then : Only file q.host r.host = subst (λ n. Only n q.host r.host) first.file second.only in
    let kept : IsTrue p.host.tells → take (length (bytes_of q.host file)) (bytes_of r.host file) ≡ bytes_of q.host file
    = λ tells. subst (λ n. take (length (bytes_of q.host n)) (bytes_of r.host n) ≡ bytes_of q.host n) first.file (second.bytes (first.only.tells ∙ tells)) in
    record {
      later = omega (arith, first.later, second.later);
      only = only_goes_on first.only then;
      reads = second.reads ∙ first.reads;
      limit = second.limit ∙ first.limit;
      basis = second.basis ∙ first.basis;
      file = second.file ∙ first.file;
      log_limit = second.log_limit ∙ first.log_limit;
      more = first.more ++ second.more;
      runs = second.runs ∙ ap (λ l. l ++ second.more) first.runs ∙ append_assoc (own_runs p.layers) first.more second.more;
      more_own = all_append (IsOwnRun file) first.more second.more first.more_own (subst (λ n. AllByRecursion (IsOwnRun n) second.more) first.file second.more_own);
      more_cut = λ tells.
          all_append (IsCutIn r.host file) first.more second.more
          (all_weaker (IsCutIn q.host file) (IsCutIn r.host file) first.more (λ run. cut_stays q.host r.host file run (kept tells)) (first.more_cut tells))
          (subst (λ n. AllByRecursion (IsCutIn r.host n) second.more) first.file (second.more_cut (first.only.tells ∙ tells)));
      counted =
          let one = subst (λ (b : Bool). closed_count q.layers + cond b q.layers.buffer.made 0 ≤ closed_count p.layers + (p.layers.buffer.made + length rs)) live first.counted in
          omega (arith, one, second.counted, length-append rs ss);
      growth =
          let one = subst (λ (b : Bool). q.layers.log.len + q.layers.log.refused + 1100 * cond b q.layers.buffer.made 0 ≤ p.layers.log.len + 1100 * (p.layers.buffer.made + length rs)) live first.growth in
          omega (arith, one, second.growth, length-append rs ss);
      wrote = λ later. omega (arith, first.wrote live, second.wrote later, sum_by-append (λ (x : Run). sum_by table_len x.tables) first.more second.more);
      past = λ over. let past = second.past over in omega (arith, past, first.log_limit);
      added = λ tells later l stands.
          subst (StandFor r.host r.layers) (ap (λ n. add_all n (add_all p.layers.limit l rs) ss) first.limit ∙ sym (add_all-append p.layers.limit l rs ss))
          (second.added (first.only.tells ∙ tells) later (add_all p.layers.limit l rs) (first.added tells live l stands));
      bytes = λ tells. take_kept _ _ _ (first.bytes tells) (kept tells);
    }

either : (b : Bool) → (b ≡ true) ⊎ (b ≡ false)
either true = inl refl
either false = inr refl

-- the open layer gets no more records than came in
made_grows : (p q : Pair) (rs : List Record) → IsTrue q.live → GoesOn p q rs → q.layers.buffer.made ≤ p.layers.buffer.made + length rs
made_grows p q rs live on =
    let one = subst (λ (b : Bool). closed_count q.layers + cond b q.layers.buffer.made 0 ≤ closed_count p.layers + (p.layers.buffer.made + length rs)) live on.counted in
    omega (arith, one, ap (λ l. sum_by run_count l) on.runs, sum_by-append run_count (own_runs p.layers) on.more)

-- what is followed by a view that is not spent is not spent
was_live : (v w : Parts) (rs : List Record) → IsFalse w.spent → ViewFollows v w rs → IsFalse v.spent
was_live v w rs still on = elim (either v.spent) [
  | inl spent ↦ absurd (cc (still, ap (λ (y : Parts). y.spent) (on.spent spent).same, spent))
  | inr live ↦ live
]

room_on : (v w x : Parts) (rs ss : List Record) → ViewFollows v w rs → ViewFollows w x ss → v.layers.buffer.made + length (rs ++ ss) < v.layers.limit
    → LeavesLog v.host x.host v.layers x.layers
room_on v w x rs ss first second fits =
    let one = first.room (omega (arith, fits, length-append rs ss)) in
    elim (either w.spent) [
      | inl spent ↦ subst (λ (y : Parts). LeavesLog v.host y.host v.layers y.layers) (sym (second.spent spent).same) one
      | inr still ↦
          let step = first.live (was_live v w rs still first) in
          let two = second.room (omega (arith, fits, length-append rs ss, made_grows (pair_of v) (pair_of w) rs (ap not still) step, step.limit)) in
          record { idle = two.idle ∙ one.idle; log = two.log ∙ one.log }
    ]

pub view_follows_itself : (v : Parts) → (IsFalse v.spent → AreFit v.layers) → ViewFollows v v []
view_follows_itself v fit = record {
  same_host = refl;
  same_layers = refl;
  live = λ live. goes_on_by_nothing (pair_of v) (ap not live) (fit live).none_refused;
  room = λ fits. record { idle = refl; log = refl };
  spent = λ spent. record { same = refl; none = refl };
}

pub view_follows_on : (v w x : Parts) (rs ss : List Record) → ViewFollows v w rs → ViewFollows w x ss → ViewFollows v x (rs ++ ss)
view_follows_on v w x rs ss first second = record {
  same_host = second.same_host ∙ first.same_host;
  same_layers = second.same_layers ∙ first.same_layers;
  live = λ live. elim (either w.spent) [
    | inl spent ↦
        let stays = second.spent spent in
        let all : rs ++ ss ≡ rs = ap (λ l. rs ++ l) stays.none ∙ append-nil rs in
        subst (λ (l : List Record). GoesOn (pair_of v) (pair_of x) l) (sym all)
        (subst (λ (y : Parts). GoesOn (pair_of v) (pair_of y) rs) (sym stays.same) (first.live live))
    | inr still ↦ goes_on_on (pair_of v) (pair_of w) (pair_of x) rs ss (ap not still) (first.live live) (second.live still)
  ];
  room = room_on v w x rs ss first second;
  spent = λ spent.
      let one = first.spent spent in
      let two = second.spent (ap (λ (y : Parts). y.spent) one.same ∙ spent) in
      record { same = two.same ∙ one.same; none = ap (λ l. l ++ ss) one.none ∙ two.none };
}
