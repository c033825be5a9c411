-- What the lines of a script leave, one after the other.
use Rattle.std.specs.Prelude.{◌≡◌, ◌<◌, ◌⊎◌, ℕ, List, [], ◌++◌, length, take, Option, Some, Result, Ok, Err, IsErrOf}
use Rattle.dfs_gen.specs.Summary.{Counts, counts_of, counted}
use Rattle.dfs_host.specs.Disk.{Image}
use Rattle.dfs_host.specs.Host.{HostState, said_of}
use Rattle.dfs_host.specs.declared.fault.Fault.TheVariants as fault
use Rattle.dfs_reply.specs.Text.{text}
use Rattle.dfs_session.specs.declared.session.Session.{Session as LiveSession}
use Rattle.dfs_session.specs.Files.{value_on}
use Rattle.dfs_session.specs.Images.{HoldsEither}
use Rattle.dfs_session.specs.Run.{session_after, written}
use Rattle.dfs_script.specs.Line.{meaning}
use Rattle.dfs_script.specs.Script.{lines_of}
use Rattle.dfs_session.specs.Session.{Registry, Session, Step, opened, step}
use Rattle.dfs_session.specs.Stands.{Stands, LeavesValue}
use Rattle.dfs_session.specs.Worked.{IsShort, job_by}
use Rattle.deltafs.specs.declared.status.Status.{Status}
use Rattle.deltafs.specs.declared.status.Status.TheVariants.{Done, DiskFault, OutputFault, SourceFault, NoMemory, LogFull, ScriptTooLong, Changed}
use Rattle.deltafs.specs.declared.status.Stop.{Stop}
use Rattle.deltafs.specs.declared.status.Stop.TheVariants as stop
use Rattle.deltafs.specs.declared.words.Command.{Command}
use Rattle.deltafs.specs.declared.words.Command.TheVariants.{Run, Gen}
use Rattle.deltafs.specs.Keeps.{KeepsReplies, IsBeforeReply, IsInReply}
use Rattle.deltafs.specs.Says.{SaysReplies, IsPrompt}
use Rattle.deltafs.specs.Summed.{SaysSummary, KeepsSummary, texts}

-- what was said of lines, or counted
abbrev pub Tells : Command → Session → List (List ℕ) → List ℕ → Counts → Type 0
Tells Run s lines said counts = said ≡ written s lines
Tells (Gen creates) s lines said counts = (said ≡ []) × (counts ≡ counts_of (texts s lines))

-- These lines were worked over an old registry: their replies were said, or counted, and the session and the files stand for what they left.
pub record IsAfter (command : Command) (old : Registry) (lines : List (List ℕ)) (host : HostState) (counts : Counts) (session : LiveSession) : Type 0 where
  pub said : Tells command (opened old) lines (said_of host) counts
  pub stands : Stands host session (session_after (opened old) lines)
  pub value : value_on host ≡ Some (session_after (opened old) lines).registry

-- the status that a stop ends the run with
abbrev pub status_by : Stop → Status
status_by (stop.Fault fault.NoMemory) = NoMemory
status_by (stop.Fault fault.Disk) = DiskFault
status_by (stop.Fault fault.LogFull) = LogFull
status_by (stop.Fault (fault.Changed file at)) = Changed
status_by stop.Output = OutputFault

abbrev pub status_after : Result (Unit {0}) Stop → Status
status_after (Ok _) = Done
status_after (Err s) = status_by s

-- what was said behind `old` of a text: the output fails only where the text is not empty
abbrev pub SaysText : Result (Unit {0}) Stop → List ℕ → List ℕ → List ℕ → Type 0
SaysText (Ok _) text old new = new ≡ old ++ text
SaysText (Err (stop.Fault f)) text old new = new ≡ old
SaysText (Err stop.Output) text old new = (0 < length text) × ((count : ℕ) × (new ≡ old ++ take count text))

-- how a reply was counted
abbrev pub CountsText : Result (Unit {0}) Stop → List ℕ → Counts → Counts → Type 0
CountsText (Ok _) text counts later = later ≡ counted counts text
CountsText (Err (stop.Fault f)) text counts later = Unit {0}
CountsText (Err stop.Output) text counts later = ⊥

-- what became of a reply: what is said then, and what is counted
abbrev pub TellsReply : Command → Result (Unit {0}) Stop → List ℕ → List ℕ → List ℕ → Counts → Counts → Type 0
TellsReply Run result reply old new counts later = SaysText result reply old new
TellsReply (Gen creates) result reply old new counts later = (new ≡ old) × CountsText result reply counts later

-- what was said before begins what was said
pub record SaysMore (old new : HostState) : Type 0 where
  pub more : List ℕ
  pub said : said_of new ≡ said_of old ++ more

-- what the files stand for behind a line: a line whose reply was not said in full was worked all the same
abbrev pub LeavesFiles : Result (Unit {0}) Stop → Registry → Registry → Option Registry → Type 0
LeavesFiles (Ok _) before after files = files ≡ Some after
LeavesFiles (Err (stop.Fault f)) before after files = LeavesValue {T = Unit {0}} (Err f) before after files
LeavesFiles (Err stop.Output) before after files = files ≡ Some after

-- What a line leaves, where so much was said and counted before. A log was full only where it is too short for its job.
pub record Leaves (command : Command) (result : Result (Unit {0}) Stop) (s : Session) (line : List ℕ) (so_far : List ℕ) (host : HostState) (counts later : Counts) : Type 0 where
  pub said : TellsReply command result (text (step s line).reply) so_far (said_of host) counts later
  pub files : LeavesFiles result s.registry (step s line).session.registry (value_on host)
  pub short : IsErrOf result (stop.Fault fault.LogFull) → IsShort (job_by s (meaning line))

-- An image of a line that does a step. No byte of a reply comes before what it promises, and none where replies are counted.
abbrev pub IsOfLine : Command → Registry → Step → List ℕ → Image → Type 0
IsOfLine Run before t so_far image = IsBeforeReply before so_far image ⊎ IsInReply t so_far image
IsOfLine (Gen creates) before t so_far image = (image.said ≡ so_far) × HoldsEither before t.session.registry image

-- All lines were worked and their replies counted. Nothing was said, and the files stand for the registry that these lines left.
pub record IsCounted (old : Registry) (script said : List ℕ) (files : Option Registry) (counts : Counts) : Type 0 where
  pub silent : said ≡ []
  pub counted : counts ≡ counts_of (texts (opened old) (lines_of script))
  pub stands : files ≡ Some (session_after (opened old) (lines_of script)).registry

-- How the lines of a script end, before a summary is said. Of a generated script that was not taken to its end there is nothing to say.
abbrev pub Ends : Command → Status → Registry → List ℕ → List ℕ → List ℕ → Option Registry → Counts → Type 0
Ends Run status old script rest said files counts = SaysReplies status old script rest said files
Ends (Gen creates) Done old script rest said files counts = IsCounted old script said files counts
Ends (Gen creates) SourceFault old script rest said files counts = Unit {0}
Ends (Gen creates) ScriptTooLong old script rest said files counts = Unit {0}
Ends (Gen creates) status old script rest said files counts = SaysSummary status old script said files

-- The lines so far were worked, or the run stopped at one of them.
abbrev pub Goes : Command → Result (Unit {0}) Stop → Registry → List (List ℕ) → List ℕ → List ℕ → HostState → Counts → LiveSession → Type 0
Goes command (Ok _) old lines script rest host counts session = IsAfter command old lines host counts session
Goes command (Err s) old lines script rest host counts session = Ends command (status_by s) old script rest (said_of host) (value_on host) counts

-- what a crash leaves of lines
abbrev pub KeepsLines : Command → Registry → List ℕ → Image → Type 0
KeepsLines Run old script image = KeepsReplies old script image
KeepsLines (Gen creates) old script image = KeepsSummary old script image

-- replies that are said don't wait
abbrev pub PromptLines : Command → Registry → List ℕ → List ℕ → List ℕ → Type 0
PromptLines Run old script rest said = IsPrompt old script rest said
PromptLines (Gen creates) old script rest said = Unit {0}

-- how a line alone is said
abbrev pub SaysLine : Status → List ℕ → List ℕ → List ℕ → Type 0
SaysLine Done line old new = new ≡ old ++ line
SaysLine OutputFault line old new = (count : ℕ) × (new ≡ old ++ take count line)
SaysLine NoMemory line old new = new ≡ old
SaysLine status line old new = ⊥
