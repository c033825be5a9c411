use Rattle.std.proofs.Common.{◌≡◌, ◌++◌, ◌∷◌, [], ◌∙◌, ℕ, refl, sym, subst}
use Rattle.std.specs.List.{AllByRecursion}
use Rattle.dfs_host.specs.Host.{bytes_of}
use Rattle.dfs_mem.specs.MemHost.{state_of}
use Rattle.dfs_record.specs.Lend.{record_of}
use Rattle.dfs_table.specs.Identities.{IsWithin}
use Rattle.dfs_table.specs.Writer.{AreIn, WriterStands, pushed}
use Rattle.dfs_table.proofs.Stays.{all_append}
use Rattle.dfs_change.specs.Identities.{FitsJob}
use Rattle.change_rows.proofs.Pushing.{all_at}
use Rattle.change_rows.proofs.tests.publish.Goals as goal

pub loop-index-preserved : goal.loop-index-preserved
loop-index-preserved g c =
    let before = c.loop-index.invariant in
    let e = c.in_ok-push.ensures in
    let r = record_of c.lend-rec.result in
    let old = pushed (bytes_of (state_of c.loop-index.host) 1) c.loop-index.writer in
    let fit : FitsJob 1 c.index-records-index.result = subst (FitsJob 1) (sym c.index-records-index.is) (all_at (FitsJob 1) c.args.records.now c.loop-index.index c.index-records-index.result c.loop-index-test.true c.requires) in
    let within : IsWithin 1 r = subst (IsWithin 1) (sym c.lend-rec.ensures.value) fit.within in
    let more : pushed (bytes_of (state_of c.push.new.host) 1) c.push.new.self ≡ old ++ r ∷ [] =
    subst (λ (n : ℕ). pushed (bytes_of (state_of c.push.new.host) n) c.push.new.self ≡ pushed (bytes_of (state_of c.loop-index.host) n) c.loop-index.writer ++ r ∷ []) before.log_file (e.pushed refl) in
    record {
      live = e.live.0;
      log_live = e.live.1;
      log_file = e.same.0 ∙ before.log_file;
      file = subst (λ (n : ℕ). AreIn n c.push.new.self.closed) before.log_file e.file;
      log_stands = e.log refl;
      stands = subst (λ (n : ℕ). WriterStands (bytes_of (state_of c.push.new.host) n) c.push.new.self) before.log_file (e.stands refl);
      last_is = e.last;
      within = subst (AllByRecursion (IsWithin 1)) (sym more) (all_append (IsWithin 1) old (r ∷ []) before.within (within, tt));
      tables_left = e.tables_left ∙ before.tables_left;
    }
