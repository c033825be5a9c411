use Rattle.std.proofs.Common.{inl, refl}
use Rattle.dfs_mem.specs.declared.host.Call.TheVariants.{Read}
use Rattle.dfs_mem.proofs.Listed.{is_on_list}
use Rattle.dfs_mem.proofs.host.MemHostHost.read_at.Goals as goal

pub returns-then-is_listed-clause-exactly : goal.returns-then-is_listed-clause-exactly
returns-then-is_listed-clause-exactly c = inl (is_on_list Read c.args.self.now.failing.items _ _ _ _ c.deref.ensures.value c.count_up-number.ensures.result c.count_up-number.ensures.counter (c.if-is_listed.ensures.0 refl), refl)
