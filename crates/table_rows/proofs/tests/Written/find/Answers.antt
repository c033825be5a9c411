use Rattle.std.proofs.Common.{◌≡◌, ℕ, sym, subst}
use Rattle.dfs_host.specs.Host.{bytes_of}
use Rattle.dfs_mem.specs.MemHost.{state_of}
use Rattle.dfs_table.specs.declared.table.Table.{Table}
use Rattle.dfs_table.specs.Stored.{IsTableOf}
use Rattle.table_rows.proofs.Each.{each_at}
use Rattle.table_rows.proofs.tests.Written.find.Goals as goal

pub find-requires : goal.find-requires
find-requires g c =
    let written = c.args.self.now in let table = c.get.result.now in
    let in_file : table.file ≡ 1 = each_at (λ (t : Table). t.file ≡ 1) written.run.tables c.args.index table written.file c.get.ensures.table in
    let stored : IsTableOf (bytes_of (state_of written.host) 1) table = each_at (IsTableOf (bytes_of (state_of written.host) 1)) written.run.tables c.args.index table written.each c.get.ensures.table in
    record { stored = λ _. subst (λ (n : ℕ). IsTableOf (bytes_of (state_of written.host) n) table) (sym in_file) stored }
