use Rattle.std.proofs.Common.{inl, refl}
use Rattle.dfs_mem.specs.declared.host.Call.TheVariants.{Cut}
use Rattle.dfs_mem.proofs.Listed.{is_on_list}
use Rattle.dfs_host.specs.Disk.{cut_to}
use Rattle.dfs_host.proofs.Files.{within_cut}
use Rattle.dfs_mem.specs.MemDisk.{disk_of}
use Rattle.dfs_mem.proofs.Steps.{tries, tries_nothing}
use Rattle.dfs_mem.proofs.host.MemHostHost.cut.Goals as goal

pub returns-in-Ok-clause-crash : goal.returns-in-Ok-clause-crash
returns-in-Ok-clause-crash c tells = tries c.args.file _ (cut_to c.args.len ((disk_of c.args.self.now.disk).files c.args.file)) _ _ c.in-Ok.ensures.disk c.in-Ok.ensures.past (within_cut c.args.len _)

pub returns-in-Ok-2-clause-crash : goal.returns-in-Ok-2-clause-crash
returns-in-Ok-2-clause-crash c tells = tries c.args.file _ (cut_to c.args.len ((disk_of c.args.self.now.disk).files c.args.file)) _ _ c.in-Ok-2.ensures.disk c.in-Ok-2.ensures.past (within_cut c.args.len _)

pub returns-in-Err-clause-crash : goal.returns-in-Err-clause-crash
returns-in-Err-clause-crash c tells = tries_nothing c.args.file (cut_to c.args.len ((disk_of c.args.self.now.disk).files c.args.file)) _ _ c.in-Err.ensures.err.disk c.in-Err.ensures.err.past (within_cut c.args.len _)

pub returns-in-Ok-clause-exactly : goal.returns-in-Ok-clause-exactly
returns-in-Ok-clause-exactly c = inl (is_on_list Cut c.args.self.now.failing.items _ _ _ _ c.deref.ensures.value c.count_up-number.ensures.result c.count_up-number.ensures.counter (c.is_listed-listed.ensures.0 c.if-listed.true), refl)
