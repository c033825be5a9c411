use Rattle.std.proofs.Common.{inl, inr, List, ◌∙◌, ◌≡◌, ◌≢◌, refl, ap, arith, sym, subst, length, map}
use Rattle.std.proofs.lemmas.List.{length-map}
use Rattle.std.proofs.lemmas.Result.{err_from_is_err_and}
use Rattle.dfs_host.specs.Host.{Only, bytes_of}
use Rattle.dfs_host.proofs.Moments.{only_goes_on}
use Rattle.dfs_record.specs.Delta.{delta}
use Rattle.dfs_record.specs.declared.Record.{Record}
use Rattle.std.specs.Prelude.{IfOk, flat_map}
use Rattle.dfs_change.specs.Identities.{AreFit}
use Rattle.dfs_table.specs.Stored.{IsStored}
use Rattle.dfs_view.specs.Layers.{AreStored, own_runs}
use Rattle.dfs_compact.specs.Parts.{first_keys}
use Rattle.dfs_job.specs.Sealed.{SealsLayers}
use Rattle.dfs_job.specs.Stands.{MergeTo, Passes}
use Rattle.dfs_job.proofs.Sealing.{joined_fit, ok_then, only_count, only_run, only_stored, only_tables, run_in, seals_merged, seals_one, stored_lengths}
use Rattle.dfs_job.proofs.publishing.seal.Goals as goal

pub finish-requires-clause-of_job : goal.finish-requires-clause-of_job
finish-requires-clause-of_job g c = λ tells.
    let layers = c.args.layers.now in
    let rs = own_runs layers in
    let run = c.run_at.result.now in
    let at = run_in rs 0 run (ap (map (λ r. r.value)) c.deref.ensures.value) c.run_at.ensures in
    let one : length rs ≡ 1 = omega (arith, c.if-len-eq1.true, c.len.ensures, length-map layers.runs.items (λ r. r.value)) in
    let of = c.requires.sealable tells in
    record {
      changes = delta (flat_map (λ (x : List Record). x) of.layers);
      stored = only_stored (bytes_of (g.H.Host.state c.args.host.now) layers.log.file) rs run of.layers one at of.are.stored;
      own = joined_fit layers.log.file of.layers of.are.own;
    }

pub returns-then-len-eq1-clause-changes : goal.returns-then-len-eq1-clause-changes
returns-then-len-eq1-clause-changes g c = λ ls tells are.
    let layers = c.args.layers.now in
    let rs = own_runs layers in
    let run = c.run_at.result.now in
    let at = run_in rs 0 run (ap (map (λ r. r.value)) c.deref.ensures.value) c.run_at.ensures in
    let one : length rs ≡ 1 = omega (arith, c.if-len-eq1.true, c.len.ensures, length-map layers.runs.items (λ r. r.value)) in
    c.finish.ensures.changes (delta (flat_map (λ (x : List Record). x) ls)) tells (only_stored (bytes_of (g.H.Host.state c.args.host.now) layers.log.file) rs run ls one at are.stored)

pub returns-then-len-eq1-clause-count : goal.returns-then-len-eq1-clause-count
returns-then-len-eq1-clause-count g c = λ ls tells are.
    let layers = c.args.layers.now in
    let rs = own_runs layers in
    let run = c.run_at.result.now in
    let at = run_in rs 0 run (ap (map (λ r. r.value)) c.deref.ensures.value) c.run_at.ensures in
    let one : length rs ≡ 1 = omega (arith, c.if-len-eq1.true, c.len.ensures, length-map layers.runs.items (λ r. r.value)) in
    c.finish.ensures.count (delta (flat_map (λ (x : List Record). x) ls)) tells (only_stored (bytes_of (g.H.Host.state c.args.host.now) layers.log.file) rs run ls one at are.stored)

pub returns-then-len-eq1-clause-growth : goal.returns-then-len-eq1-clause-growth
returns-then-len-eq1-clause-growth g c = λ tells.
    let layers = c.args.layers.now in
    let rs = own_runs layers in
    let run = c.run_at.result.now in
    let at = run_in rs 0 run (ap (map (λ r. r.value)) c.deref.ensures.value) c.run_at.ensures in
    let one : length rs ≡ 1 = omega (arith, c.if-len-eq1.true, c.len.ensures, length-map layers.runs.items (λ r. r.value)) in
    omega (arith, c.finish.ensures.growth tells, only_count rs run one at)

pub returns-then-len-eq1-clause-tables : goal.returns-then-len-eq1-clause-tables
returns-then-len-eq1-clause-tables g c = λ ls tells are.
    let layers = c.args.layers.now in
    let rs = own_runs layers in
    let run = c.run_at.result.now in
    let at = run_in rs 0 run (ap (map (λ r. r.value)) c.deref.ensures.value) c.run_at.ensures in
    let one : length rs ≡ 1 = omega (arith, c.if-len-eq1.true, c.len.ensures, length-map layers.runs.items (λ r. r.value)) in
    let alone : length (map delta ls) ≡ 1 = omega (arith, one, stored_lengths (bytes_of (g.H.Host.state c.args.host.now) layers.log.file) rs ls are.stored, length-map ls delta) in
    ok_then c.finish.result _ _ c.finish.ensures.len (λ sealed is. record { tables = length run.tables; len = is; alone = λ same. sym (only_tables rs run one at); merged = λ several. absurd (several alone) })

pub finish-requires-2-clause-of_job : goal.finish-requires-2-clause-of_job
finish-requires-2-clause-of_job g c = λ tells.
    let told = sym c.in_ok-run.ensures.cause.tells ∙ tells in
    let of = c.requires.sealable told in
    let layers = c.args.layers.now in
    let file : c.merge_runs.new.log.file ≡ layers.log.file = c.in_ok-run.ensures.same.0 in
    let stored = c.in_ok-run.ensures.stored of.layers told (subst (λ xs. AreStored (bytes_of (g.H.Host.state c.args.host.now) layers.log.file) (map (λ r. r.value) xs) of.layers) (sym c.deref-2.ensures.value) of.are.stored) in
    record {
      changes = delta (flat_map (λ (x : List Record). x) of.layers);
      stored = subst (λ n. IsStored (bytes_of (g.H.Host.state c.merge_runs.new.host) n) c.in_ok-run.run' (delta (flat_map (λ (x : List Record). x) of.layers))) (sym file) stored;
      own = subst (λ n. AreFit n (delta (flat_map (λ (x : List Record). x) of.layers))) (sym file) (joined_fit layers.log.file of.layers of.are.own);
    }

pub returns-clause-only : goal.returns-clause-only
returns-clause-only g c =
    only_goes_on c.in_ok-run.ensures.only (subst (λ n. Only n (g.H.Host.state c.merge_runs.new.host) (g.H.Host.state c.finish-2.new.host)) c.in_ok-run.ensures.same.0 c.finish-2.ensures.only)

pub returns-in_err-run-clause-passes : goal.returns-in_err-run-clause-passes
returns-in_err-run-clause-passes g c = λ ls tells are is.
    let layers = c.args.layers.now in
    let p = err_from_is_err_and c.from_residual.result c.from_residual.ensures.1 in
    let stored = subst (λ xs. AreStored (bytes_of (g.H.Host.state c.args.host.now) layers.log.file) (map (λ r. r.value) xs) ls) (sym c.deref-2.ensures.value) are.stored in
    elim (c.merge_runs.ensures.passes ls tells stored (cc (is, c.in_err-run.was, p.1, p.2))) [
      | inl some ↦ inl some
      | inr many ↦ inr (subst (λ xs. Passes (first_keys (map (λ r. r.value) xs)) c.args.parts (map delta ls)) c.deref-2.ensures.value many)
    ]

pub merge_runs-requires-clause-several : goal.merge_runs-requires-clause-several
merge_runs-requires-clause-several g c = λ one. absurd (omega (arith, c.if-len-eq1.false, c.len.ensures, one, ap length c.deref-2.ensures.value))

pub returns-then-len-eq1-clause-too_many : goal.returns-then-len-eq1-clause-too_many
returns-then-len-eq1-clause-too_many g c = λ ls tells are passes.
    absurd
    (passes.merged (omega (
      arith,
      c.if-len-eq1.true,
      c.len.ensures,
      length-map c.args.layers.now.runs.items (λ r. r.value),
      stored_lengths (bytes_of (g.H.Host.state c.args.host.now) c.args.layers.now.log.file) (own_runs c.args.layers.now) ls are.stored,
      length-map ls delta,
    )))

pub returns-clause-too_many : goal.returns-clause-too_many
returns-clause-too_many g c = λ ls tells are passes.
    let layers = c.args.layers.now in
    let stored = subst (λ xs. AreStored (bytes_of (g.H.Host.state c.args.host.now) layers.log.file) (map (λ r. r.value) xs) ls) (sym c.deref-2.ensures.value) are.stored in
    absurd (c.in_ok-run.ensures.too_many ls tells stored (subst (λ xs. Passes (first_keys (map (λ r. r.value) xs)) c.args.parts (map delta ls)) (sym c.deref-2.ensures.value) passes))

pub returns-clause-tables : goal.returns-clause-tables
returns-clause-tables g c = λ ls tells are.
    let layers = c.args.layers.now in
    let files = bytes_of (g.H.Host.state c.args.host.now) layers.log.file in
    let stored = subst (λ xs. AreStored files (map (λ r. r.value) xs) ls) (sym c.deref-2.ensures.value) are.stored in
    ok_then c.finish-2.result _ _ c.finish-2.ensures.len
    (λ sealed is. record {
      tables = length c.in_ok-run.run'.tables;
      len = is;
      alone = λ one. absurd (omega (arith, c.if-len-eq1.false, c.len.ensures, length-map layers.runs.items (λ r. r.value), stored_lengths files (own_runs layers) ls are.stored, length-map ls delta, one));
      merged = λ several. subst (λ xs. MergeTo (first_keys (map (λ r. r.value) xs)) c.args.parts (map delta ls) (length c.in_ok-run.run'.tables)) c.deref-2.ensures.value (c.in_ok-run.ensures.tables ls tells stored);
    })

pub returns-then-len-eq1-clause-seals : goal.returns-then-len-eq1-clause-seals
returns-then-len-eq1-clause-seals g c = λ tells.
    let layers = c.args.layers.now in
    let rs = own_runs layers in
    let run = c.run_at.result.now in
    let at = run_in rs 0 run (ap (map (λ r. r.value)) c.deref.ensures.value) c.run_at.ensures in
    let one : length rs ≡ 1 = omega (arith, c.if-len-eq1.true, c.len.ensures, length-map layers.runs.items (λ r. r.value)) in
    seals_one (bytes_of (g.H.Host.state c.finish.new.host) layers.log.file) layers (record layers { log = c.finish.new.log }) run c.finish.result (only_run rs run one at) refl (c.finish.ensures.manifest tells) c.finish.ensures.at

pub returns-clause-seals : goal.returns-clause-seals
returns-clause-seals g c = λ tells.
    let layers = c.args.layers.now in
    let of = c.in_ok-run.ensures in
    let several : length (own_runs layers) ≢ 1 = λ one. absurd (omega (arith, c.if-len-eq1.false, c.len.ensures, one, length-map layers.runs.items (λ r. r.value))) in
    subst (λ n. IfOk c.finish-2.result (λ sealed. SealsLayers (bytes_of (g.H.Host.state c.finish-2.new.host) n) layers (record layers { log = c.finish-2.new.log }) sealed.at sealed.len)) of.same.0
    (seals_merged (bytes_of (g.H.Host.state c.finish-2.new.host) c.merge_runs.new.log.file) layers (record layers { log = c.finish-2.new.log }) c.in_ok-run.run' c.finish-2.result c.merge_runs.new.log.len several refl of.wrote (c.finish-2.ensures.manifest (of.cause.tells ∙ tells)) c.finish-2.ensures.at)
