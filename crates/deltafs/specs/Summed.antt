-- What a run over a generated script has said when it ends, and what a crash at any moment leaves of it.
use Rattle.std.specs.Prelude.{◌≡◌, ◌<◌, ◌≤◌, ℕ, List, [], ◌++◌, length, map, Option, Some}
use Rattle.dfs_host.specs.Disk.{Image}
use Rattle.dfs_gen.specs.Summary.{counts_of, summary_text}
use Rattle.dfs_reply.specs.Text.{text}
use Rattle.dfs_script.specs.Script.{lines_of}
use Rattle.dfs_session.specs.Files.{value}
use Rattle.dfs_session.specs.Run.{session_after, replies, published}
use Rattle.dfs_session.specs.Session.{Session, Registry, opened}
use Rattle.deltafs.specs.declared.status.Status.{Status}
use Rattle.deltafs.specs.declared.status.Status.TheVariants.{Done, DiskFault, OutputFault, NoMemory, LogFull, Changed}
use Rattle.deltafs.specs.Keeps.{with_first}
use Rattle.deltafs.specs.Says.{StopsBefore, StopsShort}

-- the texts of the replies, line by line
abbrev pub texts : Session → List (List ℕ) → List (List ℕ)
texts s lines = map text (replies s lines)

-- the one line that is said of a script: it sums up the replies to all lines
abbrev pub summary : Registry → List ℕ → List ℕ
summary old script = summary_text (counts_of (texts (opened old) (lines_of script)))

-- before the end nothing is said of the lines
abbrev pub silence : List (List ℕ) → List ℕ
silence lines = []

-- The summary was said, and the files stand for the registry that all lines left.
pub record IsSummed (old : Registry) (script said : List ℕ) (files : Option Registry) : Type 0 where
  pub said_summary : said ≡ summary old script
  pub stands : files ≡ Some (session_after (opened old) (lines_of script)).registry

-- The front of the summary was said, and the files stand for the registry that all lines left.
pub record StopsInSummary (old : Registry) (script said : List ℕ) (files : Option Registry) : Type 0 where
  pub unsaid : List ℕ
  pub begins : summary old script ≡ said ++ unsaid
  pub stands : files ≡ Some (session_after (opened old) (lines_of script)).registry

-- How a run over an old registry ends that says a summary: by its status, the script, what was said, and what the files stand for.
-- No source fails it, and its script is not too long.
abbrev pub SaysSummary : Status → Registry → List ℕ → List ℕ → Option Registry → Type 0
SaysSummary Done old script said files = IsSummed old script said files
SaysSummary DiskFault old script said files = said ≡ []
SaysSummary OutputFault old script said files = StopsInSummary old script said files
SaysSummary NoMemory old script said files = StopsBefore (opened old) silence script said files
SaysSummary LogFull old script said files = StopsShort (opened old) silence script said files
SaysSummary Changed old script said files = StopsBefore (opened old) silence script said files
SaysSummary status old script said files = ⊥

-- What an image has said begins the summary. Its files stand for the old registry and the first publications of the script, and for
-- all of them once any of the summary was said.
pub record KeepsSummary (old : Registry) (script : List ℕ) (image : Image) : Type 0 where
  pub unsaid : List ℕ
  pub begins : summary old script ≡ image.said ++ unsaid
  pub count : ℕ
  pub within : count ≤ length (published old script)
  pub stands : value image.files ≡ Some (with_first old count (published old script))
  pub all : 0 < length image.said → count ≡ length (published old script)
