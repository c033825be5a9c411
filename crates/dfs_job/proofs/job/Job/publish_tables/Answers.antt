use Rattle.std.proofs.Common.{inl, inr, ◌∙◌, ◌≡◌, ◌+◌, ◌*◌, ap, arith, sym, subst, refl, flat_map, map, List, ℕ, Some}
use Rattle.std.specs.Prelude.{IfOk}
use Rattle.std.proofs.lemmas.Result.{err_from_is_err_and}
use Rattle.dfs_host.specs.Host.{Only, bytes_of}
use Rattle.dfs_host.proofs.Moments.{only_goes_on}
use Rattle.dfs_record.specs.Delta.{delta}
use Rattle.dfs_record.specs.KeyMap.{len}
use Rattle.dfs_change.specs.Meant.{log_meaning}
use Rattle.dfs_change.specs.Sealing.{entry_of}
use Rattle.dfs_compact.specs.Parts.{first_keys}
use Rattle.dfs_view.specs.Layers.{own_runs}
use Rattle.dfs_view.specs.Lists.{flushed}
use Rattle.dfs_view.specs.View.{closed_count}
use Rattle.dfs_job.specs.declared.settings.Settings.{Settings}
use Rattle.dfs_job.proofs.Keeping.{account_short, too_many_short}
use Rattle.dfs_job.specs.Stands.{Passes, TellsOf, flushed_tables, own_count}
use Rattle.dfs_job.proofs.Flushed.{firsts_flushed, flushed_sealable, tables_flushed}
use Rattle.dfs_job.proofs.Layers.{flushed_closed}
use Rattle.dfs_job.proofs.Parting.{passes_more}
use Rattle.dfs_view.proofs.Adding.{grows_by_runs}
use Rattle.dfs_job.specs.Sealed.{SealsLayers}
use Rattle.dfs_job.proofs.Sealing.{ok_then, seals_on}
use Rattle.dfs_job.proofs.job.Job.publish_tables.Goals as goal

pub seal-requires-clause-sealable : goal.seal-requires-clause-sealable
seal-requires-clause-sealable g c = λ tells.
    let of = c.in_ok-flush.ensures in
    let told = sym of.cause.tells ∙ tells in
    let one = c.requires.sound.stands told in
    let j = one.plain in
    let file : c.flush.new.layers.log.file ≡ j.ids.job = of.works.file ∙ c.requires.sound.fit.file ∙ ap (λ (n : _). n.job) (sym one.stands.ids) in
    record { layers = (flushed j.layers).closed; are = flushed_sealable (g.H.Host.state c.flush.new.host) c.flush.new.layers j file one.stands.fair (of.works.added told refl j.layers one.stands.layers) }

pub returns-clause-changes : goal.returns-clause-changes
returns-clause-changes g c = λ j tells stands.
    let of = c.in_ok-flush.ensures in
    let mid = g.H.Host.state c.flush.new.host in
    let file : c.flush.new.layers.log.file ≡ j.ids.job = of.works.file ∙ c.requires.sound.fit.file ∙ ap (λ (n : _). n.job) (sym stands.ids) in
    let ls = (flushed j.layers).closed in
    let now = of.works.added tells refl j.layers stands.layers in
    let are = flushed_sealable mid c.flush.new.layers j file stands.fair now in
    let after = bytes_of (g.H.Host.state c.seal.new.host) in
    subst (λ d. IfOk c.seal.result (λ sealed. (name : List ℕ) → log_meaning (after c.args.self.now.ids.job) (entry_of name c.args.self.now.ids.job sealed) ≡ Some d)) (ap delta (flushed_closed j.layers))
    (subst (λ n. IfOk c.seal.result (λ sealed. (name : List ℕ) → log_meaning (after n) (entry_of name n sealed) ≡ Some (delta (flat_map (λ (x : List _). x) ls)))) (of.works.file ∙ c.requires.sound.fit.file)
    (c.seal.ensures.changes ls (of.cause.tells ∙ tells) are))

pub returns-clause-count : goal.returns-clause-count
returns-clause-count g c = λ j tells stands.
    let of = c.in_ok-flush.ensures in
    let mid = g.H.Host.state c.flush.new.host in
    let file : c.flush.new.layers.log.file ≡ j.ids.job = of.works.file ∙ c.requires.sound.fit.file ∙ ap (λ (n : _). n.job) (sym stands.ids) in
    let ls = (flushed j.layers).closed in
    let now = of.works.added tells refl j.layers stands.layers in
    let are = flushed_sealable mid c.flush.new.layers j file stands.fair now in
    subst (λ d. IfOk c.seal.result (λ sealed. sealed.count ≡ len d)) (ap delta (flushed_closed j.layers)) (c.seal.ensures.count ls (of.cause.tells ∙ tells) are)

pub returns-clause-tables : goal.returns-clause-tables
returns-clause-tables g c = λ j tells stands.
    let of = c.in_ok-flush.ensures in
    let old = c.args.self.now in
    let mid = g.H.Host.state c.flush.new.host in
    let file : c.flush.new.layers.log.file ≡ j.ids.job = of.works.file ∙ c.requires.sound.fit.file ∙ ap (λ (n : _). n.job) (sym stands.ids) in
    let ls = (flushed j.layers).closed in
    let now = of.works.added tells refl j.layers stands.layers in
    let are = flushed_sealable mid c.flush.new.layers j file stands.fair now in
    let firsts = firsts_flushed (g.H.Host.state c.args.host.now) mid old.layers c.flush.new.layers j.layers stands.layers now.closed of.cut in
    subst (λ ks. IfOk c.seal.result (λ sealed. TellsOf ks (flushed_tables old j) old.settings.parts (map delta ls) sealed.len)) firsts
    (subst (λ n. IfOk c.seal.result (λ sealed. TellsOf (first_keys (own_runs c.flush.new.layers)) n old.settings.parts (map delta ls) sealed.len)) (tables_flushed (g.H.Host.state c.args.host.now) old.layers c.flush.new.layers j.layers stands.layers of.cut)
    (c.seal.ensures.tables ls (of.cause.tells ∙ tells) are))

pub returns-clause-only : goal.returns-clause-only
returns-clause-only g c =
    let of = c.in_ok-flush.ensures in
    let file = c.requires.sound.fit.file in
    only_goes_on (subst (λ n. Only n (g.H.Host.state c.args.host.now) (g.H.Host.state c.flush.new.host)) file of.works.only)
    (subst (λ n. Only n (g.H.Host.state c.flush.new.host) (g.H.Host.state c.seal.new.host)) (of.works.file ∙ file) c.seal.ensures.only)

pub returns-in_err-flush-clause-short : goal.returns-in_err-flush-clause-short
returns-in_err-flush-clause-short g c = λ j tells stands is.
    let of = c.flush.ensures in
    let p = err_from_is_err_and c.from_residual.result c.from_residual.ensures.1 in
    let past = of.works.past (of.full.0 (cc (is, c.in_err-flush.was, p.1, p.2))) in
    omega (
      arith,
      account_short c.args.self.now j j 0 0 c.args.self.now.layers.log.limit (c.flush.new.layers.log.len + c.flush.new.layers.log.refused) stands.account (omega (arith, of.works.growth)) (omega arith) past refl (omega arith) (omega arith),
      c.requires.sound.fit.log_bytes,
      ap (λ (s : Settings). s.log_bytes) stands.settings,
    )

pub returns-clause-full : goal.returns-clause-full
returns-clause-full g c is =
    let of = c.in_ok-flush.ensures in
    let old = c.args.self.now in
    elim (c.seal.ensures.full is) [
      | inl some ↦ inl some
      | inr many ↦ inr (passes_more (closed_count c.flush.new.layers) (own_count old + old.layers.buffer.made) old.settings.parts (omega (arith, of.works.counted)) many)
    ]

pub returns-clause-short : goal.returns-clause-short
returns-clause-short g c = λ j tells stands is.
    let of = c.in_ok-flush.ensures in
    let old = c.args.self.now in
    let few = stands.account.few in
    elim (c.seal.ensures.overfull (of.cause.tells ∙ tells) is) [
      | inl some ↦
          omega (
            arith,
            account_short old j j 0 (1116 * closed_count c.flush.new.layers + 4) old.layers.log.limit (c.seal.new.layers.log.len + c.seal.new.layers.log.refused) stands.account
                (omega (arith, of.works.growth, c.seal.ensures.growth (of.cause.tells ∙ tells), of.emptied)) (omega (arith, of.works.counted, few)) (omega (arith, c.seal.ensures.past some, of.works.log_limit)) refl (omega arith) (omega arith),
            c.requires.sound.fit.log_bytes,
            ap (λ (s : Settings). s.log_bytes) stands.settings,
          )
      | inr many ↦ too_many_short old j c.requires.sound.fit stands.settings (omega (arith, many, of.works.counted, few, c.requires.sound.fit.settings.parts_most))
    ]

pub returns-clause-passes : goal.returns-clause-passes
returns-clause-passes g c = λ j tells stands is.
    let of = c.in_ok-flush.ensures in
    let mid = g.H.Host.state c.flush.new.host in
    let file : c.flush.new.layers.log.file ≡ j.ids.job = of.works.file ∙ c.requires.sound.fit.file ∙ ap (λ (n : _). n.job) (sym stands.ids) in
    let ls = (flushed j.layers).closed in
    let now = of.works.added tells refl j.layers stands.layers in
    let are = flushed_sealable mid c.flush.new.layers j file stands.fair now in
    elim (c.seal.ensures.passes ls (of.cause.tells ∙ tells) are is) [
      | inl some ↦ inl some
      | inr many ↦ inr (subst (λ ks. Passes ks c.args.self.now.settings.parts (map delta ls)) (firsts_flushed (g.H.Host.state c.args.host.now) mid c.args.self.now.layers c.flush.new.layers j.layers stands.layers now.closed of.cut) many)
    ]

pub returns-clause-too_many : goal.returns-clause-too_many
returns-clause-too_many g c = λ j tells stands passes.
    let of = c.in_ok-flush.ensures in
    let mid = g.H.Host.state c.flush.new.host in
    let file : c.flush.new.layers.log.file ≡ j.ids.job = of.works.file ∙ c.requires.sound.fit.file ∙ ap (λ (n : _). n.job) (sym stands.ids) in
    let ls = (flushed j.layers).closed in
    let now = of.works.added tells refl j.layers stands.layers in
    let are = flushed_sealable mid c.flush.new.layers j file stands.fair now in
    c.seal.ensures.too_many ls (of.cause.tells ∙ tells) are
    (subst (λ ks. Passes ks c.args.self.now.settings.parts (map delta ls)) (sym (firsts_flushed (g.H.Host.state c.args.host.now) mid c.args.self.now.layers c.flush.new.layers j.layers stands.layers now.closed of.cut)) passes)

pub returns-in_err-flush-clause-passes : goal.returns-in_err-flush-clause-passes
returns-in_err-flush-clause-passes g c = λ j tells stands is.
    let p = err_from_is_err_and c.from_residual.result c.from_residual.ensures.1 in
    inl (c.flush.ensures.full.0 (cc (is, c.in_err-flush.was, p.1, p.2)))

pub returns-clause-seals : goal.returns-clause-seals
returns-clause-seals g c = λ tells.
    let of = c.in_ok-flush.ensures in
    let old = c.args.self.now in
    let file = of.works.file ∙ c.requires.sound.fit.file in
    let grew = grows_by_runs _ _ 0 flushed of.works refl in
    subst (λ n. IfOk c.seal.result (λ sealed. SealsLayers (bytes_of (g.H.Host.state c.seal.new.host) n) old.layers c.seal.new.layers sealed.at sealed.len)) file
    (ok_then c.seal.result _ _ (c.seal.ensures.seals (of.cause.tells ∙ tells)) (λ sealed seals. seals_on _ old.layers c.flush.new.layers c.seal.new.layers sealed.at sealed.len grew seals))
