use Rattle.std.proofs.Common.{inl, refl, subst, ◌∙◌, Contains, ℕ, List}
use Rattle.dfs_mem.specs.declared.host.Call.{Call}
use Rattle.dfs_mem.specs.declared.host.Call.TheVariants.{Sync}
use Rattle.dfs_mem.proofs.Steps.{syncs, tries_nothing, within_same}
use Rattle.dfs_mem.proofs.host.MemHostHost.sync.Goals as goal

pub returns-in-Ok-clause-crash : goal.returns-in-Ok-clause-crash
returns-in-Ok-clause-crash c tells = syncs c.args.file _ _ c.in-Ok.ensures.disk c.in-Ok.ensures.past (c.args.self.now.disk.sound c.args.file).reads

pub returns-in-Err-clause-crash : goal.returns-in-Err-clause-crash
returns-in-Err-clause-crash c tells = tries_nothing c.args.file _ _ _ c.in-Err.ensures.err.disk c.in-Err.ensures.err.past (within_same _)

pub returns-then-is_listed-clause-exactly : goal.returns-then-is_listed-clause-exactly
returns-then-is_listed-clause-exactly c =
    let number = c.count_up-number.ensures.result ∙ c.count_up-number.ensures.counter in
    inl (
      subst (λ k. Contains c.args.self.now.failing.items (Sync, k)) number
          (subst (λ (l : List (Call × ℕ)). Contains l (Sync, c.count_up-number.result)) c.deref.ensures.value (c.if-is_listed.ensures.0 refl)),
      refl,
    )
