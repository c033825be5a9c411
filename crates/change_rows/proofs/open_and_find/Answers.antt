use Rattle.std.proofs.Common.{◌∙◌, List, ℕ, ap, sym}
use Rattle.dfs_host.specs.Host.{bytes_of}
use Rattle.dfs_host.proofs.Moments.{same_bytes}
use Rattle.dfs_record.specs.Delta.{last_value}
use Rattle.dfs_record.specs.KeyMap.{get}
use Rattle.dfs_record.specs.Lend.{key_of}
use Rattle.dfs_record.proofs.Replays.{get-delta}
use Rattle.dfs_registry.specs.declared.listed.Listed.{Listed}
use Rattle.dfs_table.specs.Stored.{run_records}
use Rattle.dfs_change.specs.declared.change.Change.{Change}
use Rattle.dfs_change.proofs.Meant.{one_change_set}
use Rattle.change_rows.proofs.open_and_find.Goals as goal

-- the log has one change set, so the key has the same value in the records that were opened and in those that are known
pub returns-in-Ok-clause-found : goal.returns-in-Ok-clause-found
returns-in-Ok-clause-found g c tells rs has =
    let opened = c.in_ok-change.ensures in
    let l = c.args.listed.now in
    let q = key_of c.args.key in
    let bytes = bytes_of (g.H.Host.state c.open.new.host) in
    let file = bytes_of (g.H.Host.state c.args.host.now) l.job in
    let tables = c.in_ok-change.change.value.run.value.tables in
    c.in-Ok.ensures.value (opened.only.tells ∙ tells)
    ∙ ap (λ (x : Change). last_value q (run_records (bytes x.listed.job) x.run.value.tables)) c.deref.ensures
    ∙ ap (λ (x : Listed). last_value q (run_records (bytes x.job) tables)) opened.listed
    ∙ ap (λ (f : List ℕ). last_value q (run_records f tables)) (same_bytes opened.only tells l.job)
    ∙ sym (get-delta (run_records file tables) q)
    ∙ ap (λ d. get d q) (one_change_set file l _ _ (opened.changes tells) has)
    ∙ get-delta rs q
