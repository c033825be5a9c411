-- Logs that have room for all that their jobs do.
use Rattle.std.specs.Prelude.{◌≡◌, ◌≤◌, ℕ, List, [], ◌∷◌, Some, None}
use Rattle.dfs_script.specs.declared.JobWord.{JobWord}
use Rattle.dfs_job.specs.Job.{Job, need}
use Rattle.dfs_session.specs.Session.{Session, live_job, step}

-- the job's log may have as many bytes as the job may need
abbrev pub HasRoom : Job → Type 0
HasRoom j = need j ≤ j.settings.log_bytes

-- each live job has room
abbrev pub LiveHaveRoom : Session → Type 0
LiveHaveRoom s = (w : JobWord) (j : Job) → live_job s w ≡ Some j → HasRoom j

-- each job that ends between the two has room
abbrev pub EndedHaveRoom : Session → Session → Type 0
EndedHaveRoom s t = (w : JobWord) (j : Job) → live_job s w ≡ Some j → live_job t w ≡ None → HasRoom j

-- each job has room at its end: those that a line ends, and those that live behind the last one
abbrev pub HaveRoom : Session → List (List ℕ) → Type 0
HaveRoom s [] = LiveHaveRoom s
HaveRoom s (line ∷ lines) = let t = (step s line).session in EndedHaveRoom s t × HaveRoom t lines
