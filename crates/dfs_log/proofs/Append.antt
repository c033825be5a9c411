-- A log with bytes behind its end.
use Rattle.std.proofs.Common.{◌≡◌, ℕ, ◌+◌, List, ◌++◌, length, take, drop, sym, ◌∙◌, ap, arith, length-append}
use Rattle.std.proofs.lemmas.List.{take_all, drop_all, append-nil, take-append-le}
use Rattle.dfs_host.specs.Disk.{overwritten}
use Rattle.dfs_host.specs.Host.{HostState, bytes_of}
use Rattle.dfs_log.specs.Logs.{LogState, LogStands, log_header}

pub overwritten_end : (at : ℕ) (bytes old : List ℕ) → length old ≡ at → overwritten at bytes old ≡ old ++ bytes
overwritten_end at bytes old is =
    ap (λ (l : List ℕ). l ++ bytes ++ drop (at + length bytes) old) (take_all at old (omega arith))
    ∙ ap (λ (l : List ℕ). old ++ bytes ++ l) (drop_all (at + length bytes) old (omega arith))
    ∙ append-nil (old ++ bytes)

pub log_appended : (old new : HostState) (log longer : LogState) (bytes : List ℕ) → LogStands old log
    → bytes_of new log.file ≡ overwritten log.len bytes (bytes_of old log.file)
    → longer.file ≡ log.file → longer.len ≡ log.len + length bytes → LogStands new longer
log_appended old new log longer bytes stands written file len =
    let now = written ∙ overwritten_end log.len bytes (bytes_of old log.file) stands.len in
    record {
      len = ap (λ n. length (bytes_of new n)) file ∙ ap length now ∙ length-append (bytes_of old log.file) bytes ∙ ap (λ n. n + length bytes) stands.len ∙ sym len;
      header_inside = omega (arith, stands.header_inside, len);
      header = ap (λ n. take 12 (bytes_of new n)) file ∙ ap (λ (l : List ℕ). take 12 l) now
          ∙ take-append-le 12 (bytes_of old log.file) bytes (omega (arith, stands.len, stands.header_inside)) ∙ stands.header ∙ ap log_header (sym file);
    }

-- what stood before a write behind the end, or before one that failed, stays
pub kept_whole : (at : ℕ) (old : List ℕ) → length old ≡ at → take at old ≡ old
kept_whole at old is = take_all at old (omega arith)

pub kept_by_append : (at : ℕ) (bytes old new : List ℕ) → length old ≡ at → new ≡ overwritten at bytes old → take at new ≡ old
kept_by_append at bytes old new is written =
    ap (λ (l : List ℕ). take at l) (written ∙ overwritten_end at bytes old is) ∙ take-append-le at old bytes (omega arith) ∙ kept_whole at old is

pub kept_by_failure : (at : ℕ) (old new : List ℕ) → length old ≡ at → take at new ≡ take at old → take at new ≡ old
kept_by_failure at old new is same = same ∙ kept_whole at old is

-- the file of a log begins with what it had
abbrev pub BeginsWith : HostState → HostState → LogState → Type 0
BeginsWith old new log = take log.len (bytes_of new log.file) ≡ bytes_of old log.file
