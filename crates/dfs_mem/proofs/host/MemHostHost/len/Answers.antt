use Rattle.std.proofs.Common.{inl, refl}
use Rattle.dfs_mem.specs.declared.host.Call.TheVariants.{Len}
use Rattle.dfs_mem.proofs.Listed.{is_on_list}
use Rattle.dfs_mem.proofs.host.MemHostHost.len.Goals as goal

pub returns-then-listed-clause-exactly : goal.returns-then-listed-clause-exactly
returns-then-listed-clause-exactly c = inl (is_on_list Len c.args.self.now.failing.items _ _ _ _ c.deref.ensures.value c.count_up-number.ensures.result c.count_up-number.ensures.counter (c.is_listed-listed.ensures.0 c.if-listed.true), refl)
