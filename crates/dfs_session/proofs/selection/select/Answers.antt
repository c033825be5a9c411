use Rattle.std.proofs.Common.{◌≡◌, ◌∙◌, ◌+◌, ◌++◌, ◌∷◌, [], ℕ, List, Some, None, Ok, map, refl, sym, ap, subst, arith}
use Rattle.std.specs.Prelude.{find, take}
use Rattle.std.specs.List.{AllByRecursion}
use Rattle.std.proofs.lemmas.List.{map-append, take_all}
use Rattle.dfs_host.specs.Counts.{RoseBy}
use Rattle.dfs_host.specs.Disk.{Disk}
use Rattle.dfs_host.specs.Host.{bytes_of}
use Rattle.dfs_host.proofs.Causes.{none_by}
use Rattle.dfs_host.proofs.Moments.{reads_go_on}
use Rattle.dfs_table.proofs.Stays.{all_append}
use Rattle.dfs_record.specs.declared.SnapName.{SnapName}
use Rattle.dfs_change.specs.declared.change.Change.{Change}
use Rattle.dfs_change.specs.Meant.{log_meaning}
use Rattle.dfs_registry.specs.declared.listed.Listed.{Listed}
use Rattle.dfs_registry.specs.Body.{has_name}
use Rattle.dfs_session.specs.declared.selection.Selection.TheVariants.{Damaged}
use Rattle.dfs_session.specs.Selected.{AreChosen, IsSelection, chosen_in}
use Rattle.dfs_session.specs.Kept.{IsInside, IsKept, IsOpened, begin_in}
use Rattle.dfs_session.specs.Reads.{first_reads}
use Rattle.dfs_session.specs.Sound.{IsEntry}
use Rattle.dfs_session.specs.Taken.{IsFor}
use Rattle.dfs_session.proofs.Begun.{listed_name, own_entry}
use Rattle.dfs_session.proofs.Kept.{all_opened}
use Rattle.dfs_session.proofs.Reading.{next_reads}
use Rattle.dfs_session.proofs.Taking.{all_for}
use Rattle.dfs_session.proofs.Selecting.{all_split, chosen_next, first_damaged, if_none_at, if_ok_by, if_some_at, must_be_listed, next_chosen, no_fault, opened_before, read_no_more}
use Rattle.dfs_session.proofs.Lists.{take_next}
use Rattle.dfs_session.proofs.selection.select.Goals as goal

pub unreachable-requires : goal.unreachable-requires
unreachable-requires g c = must_be_listed c.args.registry.now.entries c.args.names.now c.loop-index.index c.get.result.now c.get.ensures.value c.requires.names (sym c.in_default.ensures)

pub returns-in-None-clause-selection : goal.returns-in-None-clause-selection
returns-in-None-clause-selection g c = λ tells.
    let so_far = c.loop-index.invariant in
    let listed = c.in-Some.listed.now in
    let ls = c.args.registry.now.entries in
    let names = c.args.names.now in
    let start = g.H.Host.state c.args.host.now in
    let same = ap (λ (disk : Disk). (disk.files listed.job).bytes) (so_far.only.content tells).disk in
    let damaged : log_meaning (bytes_of start listed.job) listed ≡ None =
    ap (λ (bytes : List ℕ). log_meaning bytes listed) (sym same) ∙ if_none_at c.in_ok-change.field-0 _ (c.in_ok-change.ensures.damaged (so_far.only.tells ∙ tells)) c.in-None.is in
    if_ok_by c.damaged.result (IsSelection start (chosen_in ls names)) (Damaged listed.name) c.damaged.ensures.name
    (first_damaged (bytes_of start) ls names c.loop-index.index c.get.result.now listed c.get.ensures.value (sym c.in-Some.ensures) start refl (map (λ c. c.value) c.loop-index.changes.items) damaged (so_far.chosen tells))

pub loop-index-preserved : goal.loop-index-preserved
loop-index-preserved g c =
    let so_far = c.loop-index.invariant in
    let ls = c.args.registry.now.entries in
    let names = c.args.names.now in
    let index = c.loop-index.index in
    let listed = c.in-Some.listed.now in
    let change = c.in-Some-2.change in
    let found = c.in_ok-change.field-0 in
    let start = g.H.Host.state c.args.host.now in
    let cs : List Change = map (λ c. c.value) c.loop-index.changes.items in
    let more : map (λ c. c.value) c.add.new.changes.items ≡ cs ++ change.value ∷ [] =
    ap (map (λ c. c.value)) c.in_ok-add-in-Some-2.ensures.added ∙ map-append (λ c. c.value) c.loop-index.changes.items (change ∷ []) in
    let registry_entry = own_entry c.get.result.now ls listed (sym c.in-Some.ensures) in
    let same : change.value.listed ≡ listed = if_some_at found _ change c.in_ok-change.ensures.listed c.in-Some-2.is in
    record {
      chosen = λ tells.
          let of = opened_before start (g.H.Host.state c.loop-index.host) so_far.only tells listed change.value (if_some_at found _ change (c.in_ok-change.ensures.opened (so_far.only.tells ∙ tells)) c.in-Some-2.is) in
          subst (AreChosen start (chosen_in ls (take (index + 1) names))) (sym more)
          (next_chosen (bytes_of start) ls names index c.get.result.now listed c.get.ensures.value (sym c.in-Some.ensures) start refl cs change.value of.changes of.meant of.stored
          (subst (λ (l : Listed). IsOpened start l change.value) (sym same) of) (so_far.chosen tells));
      entries = subst (AllByRecursion (IsEntry ls)) (sym more)
          (all_append (IsEntry ls) cs (change.value ∷ []) so_far.entries (subst (λ (l : Listed). find (has_name l.name) ls ≡ Some l) (sym same) registry_entry, tt));
      inside = subst (AllByRecursion IsInside) (sym more) (all_append IsInside cs (change.value ∷ []) so_far.inside (if_some_at found _ change c.in_ok-change.ensures.inside c.in-Some-2.is, tt));
      only = reads_go_on so_far.only c.in_ok-change.ensures.only;
      none = none_by so_far.none c.in_ok-change.ensures.cause (λ is. no_fault (Ok found) found _ refl is);
      names = ap (map (λ d. d.listed.name)) more ∙ map-append (λ d. d.listed.name) cs (change.value ∷ [])
          ∙ (λ i. so_far.names i ++ (ap (λ (l : Listed). l.name) same ∙ sym (listed_name c.get.result.now ls listed (sym c.in-Some.ensures))) i ∷ []) ∙ sym (take_next names index c.get.result.now c.get.ensures.value);
      reads = λ kept.
          let parts = all_split (λ l. IsKept c.args.kept.now l.job) (chosen_in ls (take index names)) (listed ∷ [])
          (subst (AllByRecursion (λ l. IsKept c.args.kept.now l.job)) (chosen_next (bytes_of start) ls names index c.get.result.now listed c.get.ensures.value (sym c.in-Some.ensures)) kept) in
          c.in_ok-change.ensures.reads parts.1.0 ∙ so_far.reads parts.0;
      anew = λ known knows.
          subst (λ (ds : List Change). RoseBy (first_reads known ds) start.reads (g.H.Host.state c.take.new.host).reads) (sym more)
          (next_reads ls listed c.count.ensures.listing registry_entry (λ r. r.value) c.args.kept.now known c.deref.result.now cs change.value start.reads (g.H.Host.state c.loop-index.host).reads (g.H.Host.state c.take.new.host).reads
          (ap (map (λ c. c.value)) c.deref.ensures.value) c.requires.kept c.requires.entries so_far.entries same c.take.ensures.reads c.take.ensures.once
          (λ unkept none. if_some_at found _ change (c.in_ok-change.ensures.anew unkept none) c.in-Some-2.is) knows (so_far.anew known knows));
    }

pub returns-in-None-clause-reads : goal.returns-in-None-clause-reads
returns-in-None-clause-reads g c =
    read_no_more (bytes_of (g.H.Host.state c.args.host.now)) c.args.registry.now.entries c.args.names.now c.loop-index.index c.get.result.now c.in-Some.listed.now c.get.ensures.value (sym c.in-Some.ensures) (g.H.Host.state c.take.new.host) c.loop-index.invariant c.take.ensures.reads

pub returns-in_err-change-clause-reads : goal.returns-in_err-change-clause-reads
returns-in_err-change-clause-reads g c =
    read_no_more (bytes_of (g.H.Host.state c.args.host.now)) c.args.registry.now.entries c.args.names.now c.loop-index.index c.get.result.now c.in-Some.listed.now c.get.ensures.value (sym c.in-Some.ensures) (g.H.Host.state c.take.new.host) c.loop-index.invariant c.take.ensures.reads

pub returns-in_err-add-in-Some-2-clause-reads : goal.returns-in_err-add-in-Some-2-clause-reads
returns-in_err-add-in-Some-2-clause-reads g c =
    read_no_more (bytes_of (g.H.Host.state c.args.host.now)) c.args.registry.now.entries c.args.names.now c.loop-index.index c.get.result.now c.in-Some.listed.now c.get.ensures.value (sym c.in-Some.ensures) (g.H.Host.state c.take.new.host) c.loop-index.invariant c.take.ensures.reads

pub returns-clause-anew : goal.returns-clause-anew
returns-clause-anew g c = λ known knows. c.loop-index.invariant.anew known knows

pub take-requires-clause-of_kept : goal.take-requires-clause-of_kept
take-requires-clause-of_kept g c = λ job.
    let ls = c.args.registry.now.entries in
    let start = g.H.Host.state c.args.host.now in
    let now = g.H.Host.state c.loop-index.host in
    let only = c.loop-index.invariant.only in
    let cs = begin_in c.args.kept.now job in
    all_for now ls c.in-Some.listed.now cs c.count.ensures.listing (own_entry c.get.result.now ls c.in-Some.listed.now (sym c.in-Some.ensures)) (c.requires.entries job) (c.requires.inside job)
    (λ tells. let told = sym only.tells ∙ tells in all_opened start now only told cs (c.requires.opened told job))

pub take-requires-clause-of_changes : goal.take-requires-clause-of_changes
take-requires-clause-of_changes g c =
    let ls = c.args.registry.now.entries in
    let start = g.H.Host.state c.args.host.now in
    let now = g.H.Host.state c.loop-index.host in
    let so_far = c.loop-index.invariant in
    let cs : List Change = map (λ c. c.value) c.loop-index.changes.items in
    subst (AllByRecursion (IsFor now c.in-Some.listed.now)) (sym (ap (map (λ c. c.value)) c.deref.ensures.value))
    (all_for now ls c.in-Some.listed.now cs c.count.ensures.listing (own_entry c.get.result.now ls c.in-Some.listed.now (sym c.in-Some.ensures)) so_far.entries so_far.inside
    (λ tells. let told = sym so_far.only.tells ∙ tells in all_opened start now so_far.only told cs (so_far.chosen told).opened))

pub returns-clause-names : goal.returns-clause-names
returns-clause-names g c = c.loop-index.invariant.names ∙ take_all c.loop-index.index c.args.names.now (omega (arith, c.len-index-end.ensures.length))

pub returns-clause-reads : goal.returns-clause-reads
returns-clause-reads g c = λ kept.
    c.loop-index.invariant.reads
    (subst (λ (names : List SnapName). AllByRecursion (λ l. IsKept c.args.kept.now l.job) (chosen_in c.args.registry.now.entries names)) (sym (take_all c.loop-index.index c.args.names.now (omega (arith, c.len-index-end.ensures.length)))) kept)
