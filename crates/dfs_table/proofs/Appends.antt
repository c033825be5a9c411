-- A call that appends to a log, and another one after it.
use Rattle.std.proofs.Common.{◌≡◌, ◌≤◌, ◌++◌, ℕ, List, take, ◌∙◌, sym, ap, subst, arith}
use Rattle.std.proofs.lemmas.List.{take-take, take_at}
use Rattle.dfs_host.specs.Host.{HostState, Told, bytes_of, Only}
use Rattle.dfs_host.proofs.Moments.{only_goes_on}
use Rattle.dfs_log.specs.Logs.{LogState, LogStands}
use Rattle.dfs_table.specs.Appending.{Appends, HasAppended}

module _ {old mid new : HostState} {log next now : LogState} {piece : List ℕ} (stands : Told old (LogStands old log)) (first : Appends old mid log next) (done : HasAppended old mid log next piece) (rest : Appends mid new next now) where
  stays : Told old (take log.len (bytes_of new log.file) ≡ bytes_of old log.file)
  stays tells =
      let len = (stands tells).len in
      let kept : take next.len (bytes_of new log.file) ≡ bytes_of old log.file ++ piece =
      subst (λ n. take next.len (bytes_of new n) ≡ bytes_of mid n) first.file (rest.before (first.only.tells ∙ tells)) ∙ done.bytes tells in
      let longer : log.len ≤ next.len = omega (arith, ap (λ (l : LogState). l.len) done.longer) in
      sym (take-take log.len next.len (bytes_of new log.file) longer) ∙ ap (take log.len) kept ∙ take_at (bytes_of old log.file) piece log.len len

  pub goes_on : Appends old new log now
  goes_on = record {
    before = stays;
    only = only_goes_on first.only (subst (λ n. Only n mid new) first.file rest.only);
    reads = rest.reads ∙ first.reads;
    file = rest.file ∙ first.file;
    limit = rest.limit ∙ first.limit;
    over = rest.over;
  }
