use Rattle.std.proofs.Common.{◌≡◌, ◌∙◌, ◌++◌, length, sym, ap, subst, arith, refl}
use Rattle.dfs_host.specs.Host.{bytes_of, Only}
use Rattle.dfs_host.proofs.Moments.{only_goes_on}
use Rattle.dfs_record.specs.Delta.{delta}
use Rattle.dfs_log.specs.Logs.{LogState}
use Rattle.dfs_registry.specs.declared.listed.Listed.{Listed}
use Rattle.dfs_manifest.specs.Manifest.{manifest_bytes}
use Rattle.dfs_table.specs.Stored.{run_records}
use Rattle.dfs_change.specs.Whole.{HasChanges, extents_of}
use Rattle.dfs_change.proofs.Ended.{append_cost, manifest_length, sealed_log}
use Rattle.dfs_change.proofs.sealing.ChangeWriter.finish.Goals as goal

pub returns-in_err-append-clause-growth : goal.returns-in_err-append-clause-growth
returns-in_err-append-clause-growth g c =
    let ts = c.args.run.now.tables in
    let appended = c.append.ensures in
    omega (
      arith,
      append_cost c.append.result c.args.log.now c.append.new.self (length c.deref.result.now) (c.len-at.ensures.sound.none_refused c.requires.live) appended.longer appended.refused appended.failed appended.never_memory appended.never_changed,
      ap length (c.deref.ensures.value ∙ c.in-Ok.ensures),
      manifest_length ts,
    )

pub returns-in_err-seal-clause-growth : goal.returns-in_err-seal-clause-growth
returns-in_err-seal-clause-growth g c =
    let ts = c.args.run.now.tables in
    omega (
      arith,
      c.len-at.ensures.sound.none_refused c.requires.live,
      ap (λ (l : LogState). l.len) c.in_ok-append.ensures.longer,
      ap (λ (l : LogState). l.refused) c.in_ok-append.ensures.longer,
      ap (λ (l : LogState). l.len) c.in_err-seal.ensures.failed,
      ap (λ (l : LogState). l.refused) c.in_err-seal.ensures.failed,
      ap length (c.deref.ensures.value ∙ c.in-Ok.ensures),
      manifest_length ts,
    )

pub returns-in_err-seal-clause-only : goal.returns-in_err-seal-clause-only
returns-in_err-seal-clause-only g c = only_goes_on c.in_ok-append.ensures.only (subst (λ n. Only n (g.H.Host.state c.append.new.host) (g.H.Host.state c.seal.new.host)) c.in_ok-append.ensures.same.0 c.seal.ensures.only)

pub overflow_cast-result : goal.overflow_cast-result
overflow_cast-result g c =
    let ts = c.args.run.now.tables in
    omega (arith, c.len.ensures, c.deref.ensures.len, ap length (c.deref.ensures.value ∙ c.in-Ok.ensures), manifest_length ts, c.requires.few)

pub returns-clause-changes : goal.returns-clause-changes
returns-clause-changes g c tells name =
    let ts = c.args.run.now.tables in
    let file = c.args.log.now.file in
    let old = bytes_of (g.H.Host.state c.args.host.now) file in
    let new = bytes_of (g.H.Host.state c.seal.new.host) file in
    let m = manifest_bytes (extents_of ts) in
    let l : Listed = record { name = name; job = file; at = c.len-at.result; len = c.len.result; count = c.count-count.result } in
    let stands = c.requires.log tells in
    let told = c.append.ensures.cause.tells ∙ tells in
    let spelled = c.deref.ensures.value ∙ c.in-Ok.ensures in
    let same = c.in_ok-append.ensures.same.0 in
    let grown : new ≡ old ++ m =
    ap (λ n. bytes_of (g.H.Host.state c.seal.new.host) n) (sym same) ∙ c.seal.ensures.bytes told ∙ ap (λ n. bytes_of (g.H.Host.state c.append.new.host) n) same
    ∙ c.in_ok-append.ensures.appended tells ∙ ap (λ l. old ++ l) spelled in
    subst (λ bytes. HasChanges bytes l (delta (run_records old ts))) (sym grown)
    (sealed_log old file (omega (arith, stands.len, c.len-at.ensures.sound.within, c.len-at.ensures.sound.limited)) ts l (omega (arith, stands.len, stands.header_inside)) stands.header (c.requires.stored tells) (c.requires.within tells)
    c.count-count.ensures.tables.rise c.requires.few refl (c.len-at.ensures.len ∙ sym stands.len) (c.len.ensures ∙ sym c.deref.ensures.len ∙ ap length spelled) c.count-count.ensures.count)

pub returns-clause-growth : goal.returns-clause-growth
returns-clause-growth g c =
    let ts = c.args.run.now.tables in
    omega (
      arith,
      c.len-at.ensures.sound.none_refused c.requires.live,
      ap (λ (l : LogState). l.len) c.in_ok-append.ensures.longer,
      ap (λ (l : LogState). l.refused) c.in_ok-append.ensures.longer,
      ap (λ (l : LogState). l.len) c.in_ok-seal.ensures.sealed,
      ap (λ (l : LogState). l.refused) c.in_ok-seal.ensures.sealed,
      ap length (c.deref.ensures.value ∙ c.in-Ok.ensures),
      manifest_length ts,
    )

pub returns-clause-only : goal.returns-clause-only
returns-clause-only g c = only_goes_on c.in_ok-append.ensures.only (subst (λ n. Only n (g.H.Host.state c.append.new.host) (g.H.Host.state c.seal.new.host)) c.in_ok-append.ensures.same.0 c.seal.ensures.only)
