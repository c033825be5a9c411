-- From a plan to what the operation did.
use Rattle.std.proofs.Common.{◌≡◌, ℕ, ◌+◌, Bool, false, List, [], ◌++◌, length, Result, Ok, Err, OnOk, OnErr, IfOk, IsErrOf, sym, ap, subst, ◌∙◌, add-zero}
use Rattle.std.specs.Prelude.{Option}
use mathlib.Core.List.{IsPrefix}
use Rattle.dfs_host.specs.declared.fault.Fault.{Fault}
use Rattle.dfs_host.specs.declared.fault.Fault.TheVariants.{LogFull}
use Rattle.dfs_record.specs.declared.Key.{Key}
use Rattle.dfs_record.specs.declared.Name.{Name}
use Rattle.dfs_record.specs.declared.Record.{Record}
use Rattle.dfs_record.specs.Namespace.{Namespace}
use Rattle.dfs_path.specs.declared.Op.{Op}
use Rattle.dfs_space.specs.Space.{SpaceState, HasSpaceCause, HasRead}
use Rattle.dfs_walk.specs.declared.Walked.{Walked}
use Rattle.dfs_ops.specs.declared.Ids.{Ids}
use Rattle.dfs_ops.specs.declared.OpReply.{OpReply}
use Rattle.dfs_ops.specs.declared.OpReply.TheVariants.{Done}
use Rattle.dfs_ops.specs.declared.deciding.Plan.{Plan}
use Rattle.dfs_ops.specs.declared.deciding.Hit.{Hit}
use Rattle.dfs_ops.specs.declared.reaching.Spot.{Spot}
use Rattle.dfs_ops.specs.declared.reaching.Reached.{Reached}
use Rattle.dfs_ops.specs.declared.reaching.Reached.TheVariants.{At}
use Rattle.dfs_ops.specs.Applied.{Applied, OnDone, OnOther, makes_dir}
use Rattle.dfs_ops.specs.Op.{Outcome, outcome, below_root, with_found, rmdirs, rmdirs_entry, counted, ids_after}
use Rattle.dfs_ops.specs.Plan.{outcome_of, Uses, on_reached, on_hit, on_unblocked, CarriedOut}

-- the plan of a rmdir, once it is known what stands in the way
pub removed : (m : Namespace) (ids : Ids) (path : List Name) (r : Reached) (spot : Spot) (h : Hit) (answer known : Option OpReply) (o : Outcome)
    → ((f : Walked → Key → Outcome) → below_root m path f ≡ on_reached r f) → r ≡ At spot → with_found spot.found (rmdirs_entry m ids spot.key) ≡ on_hit m h o → on_hit m h o ≡ on_unblocked answer o → answer ≡ known
    → on_unblocked known o ≡ below_root m path (rmdirs m ids)
removed m ids path r spot h answer known o reach at met blocked is =
    sym (reach (rmdirs m ids) ∙ ap (λ (r : Reached). on_reached r (rmdirs m ids)) at ∙ met ∙ blocked ∙ ap (λ (a : Option OpReply). on_unblocked a o) is)

-- a call of a space that changes nothing, as one fact
module _ {S T : Type 0} {StandsFor : S → Namespace → Type 0} {follows : S → S → List Record → Type 0} {state : S → SpaceState} {old new : S} {result : Result T Fault} where
  pub read_of : ((m : Namespace) → StandsFor old m → StandsFor new m) → follows old new [] → HasSpaceCause (state old) (state new) result → (IsErrOf result LogFull → ⊥) → HasRead StandsFor follows state old new result
  read_of map went_on cause never_full = record { map = map; went_on = went_on; cause = cause; never_full = never_full }

-- numbers that no identity changes
pub more_made : (ids : Ids) (n : ℕ) → record { job = ids.job; counter = ids.counter; made = ids.made + n } ≡ counted ids n false
more_made ids n = λ i. record { job = ids.job; counter = sym (add-zero ids.counter) i; made = ids.made + n }

ok_on : {T : Type 0} (r : Result T Fault) {P Q : Type 0} → (P → Q) → OnOk r P → OnOk r Q
ok_on (Ok x) f p = f p
ok_on (Err e) f p = tt

err_on : {T : Type 0} (r : Result T Fault) {P Q : Type 0} → (P → Q) → OnErr r P → OnErr r Q
err_on (Ok x) f p = tt
err_on (Err e) f p = f p

both_other : (P Q : Type 0) (r : Result OpReply Fault) → OnOther r P → OnOther r Q → OnOther r (P × Q)
both_other P Q (Err e) p q = tt
both_other P Q (Ok Done) p q = tt
both_other P Q (Ok _) p q = (p, q)

done_by : (ids ids_now : Ids) (all : Outcome) (records : List Record) (used : Bool) (r : Result OpReply Fault) → (all.answer ≡ Done → all.used ≡ used) → IfOk r (λ answer. answer ≡ all.answer) → OnOk r (ids_now ≡ ids_after ids all)
    → OnOk r (records ≡ all.records) → OnDone r (ids_now ≡ counted ids (length records) used)
done_by ids ids_now all records used (Err e) uses answer numbers whole = tt
done_by ids ids_now all records used (Ok Done) uses answer numbers whole =
    numbers ∙ ap (λ (n : ℕ). counted ids n all.used) (sym (ap length whole)) ∙ ap (counted ids (length records)) (uses (sym answer))
done_by ids ids_now all records used (Ok _) uses answer numbers whole = tt

module _ {S : Type 0} {StandsFor : S → Namespace → Type 0} {follows : S → S → List Record → Type 0} {old mid new : S} {ids ids_now : Ids} {result : Result OpReply Fault} where
  -- what was carried out is what the operation does, where the plan is the operation's
  pub applied : (op : Op) (plan : Plan) → ((x y z : S) (rs ss : List Record) → follows x y rs → follows y z ss → follows x z (rs ++ ss))
      → ((m : Namespace) → StandsFor old m → outcome_of plan ≡ outcome m ids op) → Uses (makes_dir op) plan → follows old mid [] → IfOk result (λ answer. answer ≡ (outcome_of plan).answer)
      → CarriedOut follows mid new ids ids_now (outcome_of plan) result → Applied follows StandsFor old new ids ids_now op result
  applied op plan on planned uses read answer carried = record {
    records = carried.records;
    went_on = on old mid new [] carried.records read carried.went_on;
    few = carried.few;
    done = done_by ids ids_now (outcome_of plan) carried.records (makes_dir op) result uses answer carried.numbers carried.whole;
    other = both_other _ _ result carried.kept carried.none;
    whole = λ m stands. ok_on result (λ whole. whole ∙ ap (λ (o : Outcome). o.records) (planned m stands)) carried.whole;
    first = λ m stands. err_on result (subst (λ (o : Outcome). IsPrefix carried.records o.records) (planned m stands)) carried.first;
    stored = carried.stored;
  }
