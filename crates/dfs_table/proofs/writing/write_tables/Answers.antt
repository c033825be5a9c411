use Rattle.std.proofs.Common.{◌≡◌, ◌≤◌, ◌<◌, ◌∙◌, ◌++◌, ◌∷◌, [], inl, inr, length, map, drop, sym, ap, subst, arith, append_assoc}
use Rattle.std.specs.Prelude.{IfOk}
use Rattle.std.specs.List.{AllByRecursion}
use Rattle.std.proofs.lemmas.Result.{err_from_is_err_and}
use Rattle.dfs_host.specs.Host.{bytes_of}
use Rattle.dfs_host.proofs.Causes.{none_by}
use Rattle.dfs_record.specs.Delta.{delta}
use Rattle.dfs_record.specs.Lend.{record_of}
use Rattle.dfs_record.specs.Records.{KeysRise}
use Rattle.dfs_block.specs.Block.{IsAboveLast}
use Rattle.dfs_table.specs.Counts.{count_of}
use Rattle.dfs_table.specs.Stored.{IsStored, run_records}
use Rattle.dfs_fence.specs.declared.fence.Fence.{Fence}
use Rattle.dfs_table.specs.Cut.{cut, cut_behind, tables_needed}
use Rattle.dfs_table.specs.Tables.{all_fences}
use Rattle.dfs_table.proofs.Cutting.{end_cut, never_too_many, push_cuts, too_many_needed}
use Rattle.dfs_table.specs.Writer.{AreIn, IsSound, KeyPasses, WriterState, WriterStands, fences_of, pushed}
use Rattle.dfs_table.proofs.Passing.{end_passes, push_passes}
use Rattle.dfs_table.proofs.Writings.{all_written, appends_on, before_on, next_above, none_left, only_on}
use Rattle.dfs_table.proofs.writing.write_tables.Goals as goal

pub loop-rec-preserved : goal.loop-rec-preserved
loop-rec-preserved g c =
    let h = c.loop-rec.invariant in
    let x = c.in_ok-push.ensures in
    let mid = g.H.Host.state c.loop-rec.host in
    let new = g.H.Host.state c.push.new.host in
    let file = c.args.log.now.file in
    let r = record_of c.in-Item.rec in
    let rest = g.R.Records.rest c.advance.new.self in
    let same = h.left.file in
    let first = c.in-Item.ensures.1.1 in
    let is : g.R.Records.rest c.loop-rec.records ≡ r ∷ rest = first ∙ ap (λ l. r ∷ l) (sym (c.advance.ensures.rest ∙ ap (drop 1) first)) in
    let rise : KeysRise (r ∷ rest) = subst KeysRise is (g.met.R.Records.rest_rises c.loop-rec.records) in
    record {
      written = λ tells.
          ap (λ l. l ++ rest)
          (ap (λ n. pushed (bytes_of new n) c.push.new.self) (sym same) ∙ x.pushed (h.left.only.tells ∙ tells) ∙ ap (λ n. pushed (bytes_of mid n) c.loop-rec.writer ++ r ∷ []) same)
          ∙ append_assoc (pushed (bytes_of mid file) c.loop-rec.writer) (r ∷ []) rest ∙ ap (λ l. pushed (bytes_of mid file) c.loop-rec.writer ++ l) (sym is) ∙ h.written tells;
      stands = λ tells. subst (λ n. WriterStands (bytes_of new n) c.push.new.self) same (x.stands (h.left.only.tells ∙ tells));
      log_stands = λ tells. x.log (h.left.only.tells ∙ tells);
      sound = subst IsSound c.writer.view_is (c.writer.invariant (ap (λ (w : WriterState). w.spent) c.writer.view_is ∙ x.live.0));
      above = λ key begins. subst (λ o. IsAboveLast o key) (sym x.last) (next_above r rest rise key begins);
      count = omega (arith, x.count, h.count, ap length is);
      tables_left = c.push.ensures.tables_left ∙ h.tables_left;
      live = x.live.0;
      log_live = x.live.1;
      file = subst (λ n. AreIn n c.push.new.self.closed) same x.file;
      cut = push_cuts c.loop-rec.writer c.push.new.self r rest x.fits x.begins ∙ ap (λ l. map (λ (f : Fence). f.count) (fences_of c.loop-rec.writer) ++ map length (cut_behind l c.loop-rec.writer.records)) (sym is) ∙ h.cut;
      wrote = omega (arith, h.wrote, x.wrote);
      growth = omega (arith, h.growth, x.growth, x.count);
      left = appends_on new c.requires.stands h.log_stands h.left c.push.ensures.before c.push.ensures.only c.push.ensures.reads c.push.ensures.same.0 c.push.ensures.same.1 c.push.ensures.over;
      no_fault = none_by h.no_fault c.push.ensures.cause (λ is. cc (is, c.in_ok-push.was));
      passing = λ p all.
          let before = h.passing p all in
          let left : AllByRecursion (KeyPasses p) (r ∷ rest) = subst (AllByRecursion (KeyPasses p)) is before.2 in
          let after = push_passes p c.loop-rec.writer c.push.new.self r left.0 x.fits x.begins (before.0, before.1) in
          (after.0, after.1, left.1);
    }

pub returns-in_err-push-clause-full : goal.returns-in_err-push-clause-full
returns-in_err-push-clause-full g c is =
    let h = c.loop-rec.invariant in
    let p = err_from_is_err_and c.from_residual.result c.from_residual.ensures.1 in
    elim (c.push.ensures.full (cc (is, c.in_err-push.was, p.1, p.2))) [
      | inl some ↦ inl some
      | inr many ↦ inr (subst (λ n. n < tables_needed (g.R.Records.rest c.args.records)) h.tables_left (too_many_needed c.loop-rec.writer (record_of c.in-Item.rec) c.in-Item.ensures.1.0 (g.R.Records.rest c.args.records) h.sound (subst (λ l. map (λ (f : Fence). f.count) (fences_of c.loop-rec.writer) ++ map length (cut_behind l c.loop-rec.writer.records) ≡ map length (cut (g.R.Records.rest c.args.records))) c.in-Item.ensures.1.1 h.cut) many))
    ]

pub returns-in_err-push-clause-refused : goal.returns-in_err-push-clause-refused
returns-in_err-push-clause-refused g c some =
    let p = err_from_is_err_and c.from_residual.result c.from_residual.ensures.1 in
    cc (c.push.ensures.refused some, c.in_err-push.was, p.1, p.2)

pub returns-in_err-push-clause-before : goal.returns-in_err-push-clause-before
returns-in_err-push-clause-before g c =
    let h = c.loop-rec.invariant in
    before_on (g.H.Host.state c.push.new.host) c.requires.stands h.log_stands h.left c.push.ensures.before

pub returns-in_err-push-clause-only : goal.returns-in_err-push-clause-only
returns-in_err-push-clause-only g c = only_on c.loop-rec.invariant.left c.push.ensures.only

pub returns-clause-stored : goal.returns-clause-stored
returns-clause-stored g c tells =
    let h = c.loop-rec.invariant in
    let mid = g.H.Host.state c.loop-rec.host in
    let new = g.H.Host.state c.finish.new.host in
    let all = all_written h (none_left _ _ c.head.result c.in_default-head.not-Item c.head.ensures) tells in
    subst (λ l. IfOk c.finish.result (λ run. IsStored (bytes_of new c.args.log.now.file) run (delta l))) all
    (subst (λ n. IfOk c.finish.result (λ run. IsStored (bytes_of new n) run (delta (pushed (bytes_of mid n) c.loop-rec.writer)))) h.left.file (c.finish.ensures.stored (h.left.only.tells ∙ tells)))

pub returns-clause-records : goal.returns-clause-records
returns-clause-records g c tells =
    let h = c.loop-rec.invariant in
    let mid = g.H.Host.state c.loop-rec.host in
    let new = g.H.Host.state c.finish.new.host in
    let all = all_written h (none_left _ _ c.head.result c.in_default-head.not-Item c.head.ensures) tells in
    subst (λ l. IfOk c.finish.result (λ run. run_records (bytes_of new c.args.log.now.file) run.tables ≡ l)) all
    (subst (λ n. IfOk c.finish.result (λ run. run_records (bytes_of new n) run.tables ≡ pushed (bytes_of mid n) c.loop-rec.writer)) h.left.file (c.finish.ensures.records (h.left.only.tells ∙ tells)))

pub returns-clause-count : goal.returns-clause-count
returns-clause-count g c =
    let h = c.loop-rec.invariant in
    let none = none_left _ _ c.head.result c.in_default-head.not-Item c.head.ensures in
    subst (λ n. IfOk c.finish.result (λ run. count_of (all_fences run.tables) ≡ n)) (omega (arith, h.count, ap length none)) c.finish.ensures.count

pub returns-clause-cut : goal.returns-clause-cut
returns-clause-cut g c =
    let h = c.loop-rec.invariant in
    let none = none_left _ _ c.head.result c.in_default-head.not-Item c.head.ensures in
    end_cut _ c.loop-rec.writer c.finish.result (g.R.Records.rest c.args.records) h.sound
    (ap (λ l. map (λ (f : Fence). f.count) (fences_of c.loop-rec.writer) ++ map length (cut_behind l c.loop-rec.writer.records)) (sym none) ∙ h.cut)
    (λ e. (c.finish.ensures.none e).0) c.finish.ensures.last

pub returns-clause-too_many : goal.returns-clause-too_many
returns-clause-too_many g c many =
    let h = c.loop-rec.invariant in
    never_too_many c.finish.result (g.R.Records.rest c.args.records) c.args.tables_left (returns-clause-cut g c) (subst (λ n. IfOk c.finish.result (λ run. length run.tables ≤ n)) h.tables_left c.finish.ensures.few) many

pub returns-clause-passing : goal.returns-clause-passing
returns-clause-passing g c = λ p all.
    let h = c.loop-rec.invariant.passing p all in
    end_passes p _ c.loop-rec.writer c.finish.result (λ e. (c.finish.ensures.none e).0) c.finish.ensures.last (h.0, h.1)

pub returns-clause-before : goal.returns-clause-before
returns-clause-before g c =
    let h = c.loop-rec.invariant in
    before_on (g.H.Host.state c.finish.new.host) c.requires.stands h.log_stands h.left c.finish.ensures.before

pub returns-clause-only : goal.returns-clause-only
returns-clause-only g c = only_on c.loop-rec.invariant.left c.finish.ensures.only
