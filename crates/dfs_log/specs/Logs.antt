-- What a log is, and what its writer is seen as.
use Rattle.std.specs.Prelude.{◌≡◌, ◌≤◌, ◌^◌, ◌++◌, ℕ, Bool, false, List, length, take, codes}
use Rattle.std.specs.Int.{to_be_bytes, w32}
use Rattle.dfs_host.specs.Host.{HostState, bytes_of}

-- the 12 bytes at the start of the log of a job
abbrev pub log_header : ℕ → List ℕ
log_header job = codes "DFSLOG01" ++ to_be_bytes w32 job

pub record LogState : Type 0 where
  pub file : ℕ
  pub len : ℕ
  pub limit : ℕ
  pub spent : Bool
  -- the size of the piece that it last refused, and 0 where it refused none
  pub refused : ℕ

-- a log that has its header alone
abbrev pub begun : ℕ → ℕ → LogState
begun job limit = record { file = job; len = 12; limit = limit; spent = false; refused = 0 }

-- what is so of every log
pub record IsLog (log : LogState) : Type 0 where
  pub within : log.len ≤ log.limit
  pub limited : log.limit ≤ 2 ^ 63
  pub none_refused : log.spent ≡ false → log.refused ≡ 0

-- the file has the log's length and begins with its 12 bytes
pub record LogStands (host : HostState) (log : LogState) : Type 0 where
  pub len : length (bytes_of host log.file) ≡ log.len
  pub header_inside : 12 ≤ log.len
  pub header : take 12 (bytes_of host log.file) ≡ log_header log.file
