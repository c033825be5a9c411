use Rattle.dfs_cursor.specs.Slices.{behind_first}
use Rattle.dfs_cursor.proofs.slices.SliceRecordsRecords.advance.Goals as goal

pub invariant_of-self : goal.invariant_of-self
invariant_of-self c =
    let fine = behind_first c.args.self.now.records.now c.args.self.now.rises c.args.self.now.valid in
    record { rises = fine.rises; valid = fine.valid }
