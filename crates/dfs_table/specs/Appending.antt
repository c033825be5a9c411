-- What a call that appends to a log leaves.
use Rattle.std.specs.Prelude.{◌≡◌, ◌<◌, ◌+◌, ◌++◌, ℕ, List, length, take}
use Rattle.dfs_host.specs.Host.{HostState, Told, bytes_of, Only}
use Rattle.dfs_log.specs.Logs.{LogState, LogStands}

-- Whatever the call answered: the bytes that the log had stay, it works on no other file, and reads none.
pub record Appends (old new : HostState) (log now : LogState) : Type 0 where
  pub before : Told old (take log.len (bytes_of new log.file) ≡ bytes_of old log.file)
  pub only : Only log.file old new
  pub reads : new.reads ≡ old.reads
  pub file : now.file ≡ log.file
  pub limit : now.limit ≡ log.limit
  pub over : 0 < now.refused → now.limit < now.len + now.refused

-- The call appended the piece.
pub record HasAppended (old new : HostState) (log now : LogState) (piece : List ℕ) : Type 0 where
  pub bytes : Told old (bytes_of new log.file ≡ bytes_of old log.file ++ piece)
  pub stands : Told old (LogStands new now)
  pub longer : now ≡ record log { len = log.len + length piece }
