-- The identities of a job's records.
use Rattle.std.proofs.Common.{◌≡◌, ◌∙◌, ◌<◌, ◌≤◌, ◌-◌, ℕ, suc, zero, true, List, [], ◌∷◌, length, refl, sym, ap, subst, arith, append-nil, length-append}
use Rattle.std.specs.Prelude.{All, flat_map, nat_le}
use Rattle.std.specs.List.{AllByRecursion, AllZip}
use Rattle.std.proofs.lemmas.List.{length-take}
use Rattle.std.proofs.lemmas.Bool.{le-leb, leb-true, and_from, and_parts}
use Rattle.dfs_host.specs.Host.{HostState}
use Rattle.dfs_record.specs.declared.DirId.{DirId}
use Rattle.dfs_record.specs.declared.Entry.TheVariants.{Dir, File}
use Rattle.dfs_record.specs.declared.Record.{Record}
use Rattle.dfs_record.specs.declared.Value.{Value}
use Rattle.dfs_record.specs.declared.Value.TheVariants.{Del, Put}
use Rattle.dfs_record.specs.Delta.{Delta, delta, records_of}
use Rattle.dfs_record.specs.KeyMap.{empty}
use Rattle.dfs_record.specs.Namespace.{Namespace, after_records, replay}
use Rattle.dfs_record.proofs.Replays.{after-append, delta-records_of}
use Rattle.dfs_path.specs.declared.Op.{Op}
use Rattle.dfs_path.specs.Op.{IsOp}
use Rattle.dfs_ops.specs.declared.Ids.{Ids}
use Rattle.dfs_ops.specs.Op.{AreIds, Outcome, ids_after, next_id}
use Rattle.dfs_ops.specs.Within.{HasNothingIn, IsIdWithin, IsRecordWithin, IsValueWithin, IsWithin}
use Rattle.dfs_ops.proofs.Bounds.{empty_within, later, leaves_empty, leaves_within, makes_within, stays_within}
use Rattle.dfs_change.specs.declared.change.Change.{Change}
use Rattle.dfs_change.specs.Identities.{AreFit, FitsJob}
use Rattle.dfs_table.specs.Identities.{is_value_within}
use Rattle.dfs_table.proofs.Stays.{all_append, all_weaker}
use Rattle.dfs_view.specs.Lists.{joined}
use Rattle.dfs_job.specs.declared.settings.Settings.{Settings}
use Rattle.dfs_job.specs.Job.{Job, after, after_flush, begun, does, first_ids, namespace_of}
use Rattle.dfs_job.specs.Stands.{IsEarlier, IsFair, IsOfEarlier, IsSelectable, IsStoredFor}
use Rattle.dfs_job.proofs.Layers.{added_all, flushed_all, joined-add, joined-flushed, replay-more}

by_recursion : {X : Type 0} (P : X → Type 0) (xs : List X) → All P xs → AllByRecursion P xs
by_recursion P [] all = tt
by_recursion P (x ∷ xs) all = (all 0 x (omega arith), by_recursion P xs (λ k d below. all (suc k) d (omega (arith, below))))

-- ---- records of an operation

value_fits : (ids : Ids) (v : Value) → IsValueWithin ids v → is_value_within ids.job v ≡ true
value_fits ids Del within = refl
value_fits ids (Put (Dir id mode time)) within = le-leb id.job ids.job within.job
value_fits ids (Put (File mode time size reference)) within = refl

-- a record with the identities that a job may have
pub within_fits : (ids : Ids) (r : Record) → IsRecordWithin ids r → FitsJob ids.job r
within_fits ids r within = record {
  valid = within.valid;
  within = and_from (nat_le r.key.parent.job ids.job) (is_value_within ids.job r.value) (le-leb r.key.parent.job ids.job within.parent.job) (value_fits ids r.value within.value);
}

-- what the job sees then is what it saw, with the operation's records
seen_after : (j : Job) (op : Op) → namespace_of (after j (does j op)) ≡ after_records (namespace_of j) (does j op).records
seen_after j op = ap (replay j.basis) (joined-add j.settings.buffer j.layers (does j op).records) ∙ replay-more j.basis (joined j.layers) (does j op).records

pub fair_after : (j : Job) (op : Op) → AreIds j.ids → IsOp op → IsFair j → IsFair (after j (does j op))
fair_after j op ids is_op fair =
    let o : Outcome = does j op in
    let made = makes_within (namespace_of j) j.ids op ids is_op fair.seen in
    let new : AllByRecursion (IsRecordWithin (ids_after j.ids o)) o.records = by_recursion (IsRecordWithin (ids_after j.ids o)) o.records made in
    let old : AllByRecursion (IsRecordWithin (ids_after j.ids o)) (joined j.layers) = all_weaker (IsRecordWithin j.ids) (IsRecordWithin (ids_after j.ids o)) (joined j.layers) (later j.ids (length o.records) o.used) fair.own in
    let grown = added_all j.settings.buffer j.layers o.records in
    record {
      seen = subst (IsWithin (ids_after j.ids o)) (sym (seen_after j op)) (leaves_within (namespace_of j) j.ids op ids is_op fair.seen);
      own = subst (AllByRecursion (IsRecordWithin (ids_after j.ids o))) (sym (joined-add j.settings.buffer j.layers o.records)) (all_append (IsRecordWithin (ids_after j.ids o)) (joined j.layers) o.records old new);
      basis = fair.basis;
      few = omega (arith, fair.few, ap length grown.1, length-append j.layers.closed grown.0, grown.2);
    }

-- nothing stands in a directory that was made
pub fresh_after : (j : Job) (op : Op) → AreIds j.ids → IsOp op → IsFair j → HasNothingIn (namespace_of (after j (does j op))) (next_id j.ids)
fresh_after j op ids is_op fair = subst (λ (m : Namespace). HasNothingIn m (next_id j.ids)) (sym (seen_after j op)) (leaves_empty (namespace_of j) j.ids op ids is_op fair.seen)

pub fair_flushed : (j : Job) → IsFair j → IsFair (after_flush j)
fair_flushed j fair =
    let grown = flushed_all j.layers in
    record {
      seen = subst (λ rs. IsWithin j.ids (replay j.basis rs)) (sym (joined-flushed j.layers)) fair.seen;
      own = subst (AllByRecursion (IsRecordWithin j.ids)) (sym (joined-flushed j.layers)) fair.own;
      basis = fair.basis;
      few = omega (arith, fair.few, ap length grown.1, length-append j.layers.closed grown.0, grown.2);
    }

-- ---- records of earlier jobs

id_within : (ids : Ids) (id : DirId) → id.job < ids.job → IsIdWithin ids id
id_within ids id below = record { job = omega (arith, below); counter = λ same. absurd (omega (arith, below, same)) }

value_is_within : (ids : Ids) (job : ℕ) (v : Value) → job < ids.job → is_value_within job v ≡ true → IsValueWithin ids v
value_is_within ids job Del below is = tt
value_is_within ids job (Put (Dir id mode time)) below is = id_within ids id (omega (arith, below, leb-true id.job job is))
value_is_within ids job (Put (File mode time size reference)) below is = tt

-- what an earlier job may have is what a later one may have
pub fits_within : (ids : Ids) (job : ℕ) (r : Record) → job < ids.job → FitsJob job r → IsRecordWithin ids r
fits_within ids job r below fit =
    let parts = and_parts (nat_le r.key.parent.job job) (is_value_within job r.value) fit.within in
    record {
      valid = fit.valid;
      parent = id_within ids r.key.parent (omega (arith, below, leb-true r.key.parent.job job parts.0));
      value = value_is_within ids job r.value below parts.1;
    }

all_within : (number job : ℕ) (rs : List Record) → job < number → AllByRecursion (FitsJob job) rs → All (IsRecordWithin (first_ids number)) rs
all_within number job [] below all k d inside = absurd (omega (arith, inside))
all_within number job (r ∷ rs) below all zero d inside = fits_within (first_ids number) job r below all.0
all_within number job (r ∷ rs) below all (suc k) d inside = all_within number job rs below all.1 k d (omega (arith, inside))

still_within : (number job : ℕ) (m : Namespace) (d : Delta) → job < number → IsWithin (first_ids number) m → AreFit job d → IsWithin (first_ids number) (after_records m (records_of d))
still_within number job m d below within fit = stays_within m (first_ids number) (records_of d) within (all_within number job (records_of d) below fit)

-- a run is stored for one change set alone
same_changes : (host : HostState) (c : Change) (d : Delta) (selectable : IsSelectable host c) → IsStoredFor host c d → d ≡ selectable.changes
same_changes host c d selectable stored =
    sym (delta-records_of d) ∙ ap delta (sym stored.records ∙ selectable.stored.records) ∙ delta-records_of selectable.changes

selected_within : (host : HostState) (number : ℕ) (m : Namespace) (cs : List Change) (ds : List Delta) → AllByRecursion (IsEarlier number) cs → AllByRecursion (IsSelectable host) cs → AllZip (IsStoredFor host) cs ds
    → IsWithin (first_ids number) m → IsWithin (first_ids number) (after_records m (flat_map records_of ds))
selected_within host number m [] [] earlier selectable zip within = within
selected_within host number m [] (d ∷ ds) earlier selectable zip within = absurd zip
selected_within host number m (c ∷ cs) [] earlier selectable zip within = absurd zip
selected_within host number m (c ∷ cs) (d ∷ ds) earlier selectable zip within =
    let fit : AreFit c.listed.job d = subst (AreFit c.listed.job) (sym (same_changes host c d selectable.0 zip.0)) selectable.0.own in
    subst (IsWithin (first_ids number)) (sym (after-append m (records_of d) (flat_map records_of ds)))
    (selected_within host number (after_records m (records_of d)) cs ds earlier.1 selectable.1 zip.1 (still_within number c.listed.job m d earlier.0 within fit))

value_later : (job later : ℕ) (v : Value) → job ≤ later → is_value_within job v ≡ true → is_value_within later v ≡ true
value_later job later Del le is = refl
value_later job later (Put (Dir id mode time)) le is = le-leb id.job later (omega (arith, le, leb-true id.job job is))
value_later job later (Put (File mode time size reference)) le is = refl

fits_later : (job later : ℕ) (r : Record) → job ≤ later → FitsJob job r → FitsJob later r
fits_later job later r le fit =
    let parts = and_parts (nat_le r.key.parent.job job) (is_value_within job r.value) fit.within in
    record {
      valid = fit.valid;
      within = and_from (nat_le r.key.parent.job later) (is_value_within later r.value) (le-leb r.key.parent.job later (omega (arith, le, leb-true r.key.parent.job job parts.0))) (value_later job later r.value le parts.1);
    }

-- an earlier job's change set is one of earlier jobs
fit_earlier : (number job : ℕ) (d : Delta) → job < number → AreFit job d → IsOfEarlier number d
fit_earlier number job d below fit = all_weaker (FitsJob job) (FitsJob (number - 1)) (records_of d) (λ r fits. fits_later job (number - 1) r (omega (arith, below)) fits) fit

selected_fit : (host : HostState) (number : ℕ) (cs : List Change) (ds : List Delta) → AllByRecursion (IsEarlier number) cs → AllByRecursion (IsSelectable host) cs → AllZip (IsStoredFor host) cs ds → AllByRecursion (IsOfEarlier number) ds
selected_fit host number [] [] earlier selectable zip = tt
selected_fit host number [] (d ∷ ds) earlier selectable zip = absurd zip
selected_fit host number (c ∷ cs) [] earlier selectable zip = absurd zip
selected_fit host number (c ∷ cs) (d ∷ ds) earlier selectable zip =
    (fit_earlier number c.listed.job d earlier.0 (subst (AreFit c.listed.job) (sym (same_changes host c d selectable.0 zip.0)) selectable.0.own), selected_fit host number cs ds earlier.1 selectable.1 zip.1)

pub fair_begun : (host : HostState) (number : ℕ) (cs : List Change) (ds : List Delta) (settings : Settings) → AllByRecursion (IsEarlier number) cs → AllByRecursion (IsSelectable host) cs → AllZip (IsStoredFor host) cs ds
    → IsFair (begun number ds settings)
fair_begun host number cs ds settings earlier selectable zip = record {
  seen = subst (λ rs. IsWithin (first_ids number) (after_records empty rs)) (sym (append-nil (flat_map records_of ds))) (selected_within host number empty cs ds earlier selectable zip (empty_within (first_ids number)));
  own = tt;
  basis = selected_fit host number cs ds earlier selectable zip;
  few = omega (arith, length-take 1 ds);
}
