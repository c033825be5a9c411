-- A run by what its words ask for.
use Rattle.std.specs.Prelude.{◌≡◌, ◌⊎◌, ℕ, List, [], Option, Some, None}
use Rattle.dfs_host.specs.Disk.{Image}
use Rattle.dfs_gen.specs.Script.{script as generated}
use Rattle.dfs_session.specs.Files.{value}
use Rattle.dfs_session.specs.Session.{Registry}
use Rattle.deltafs.specs.declared.status.Status.{Status}
use Rattle.deltafs.specs.declared.status.Status.TheVariants.{DiskFault, NoMemory}
use Rattle.deltafs.specs.declared.words.Command.{Command}
use Rattle.deltafs.specs.declared.words.Command.TheVariants.{Run, Gen}
use Rattle.deltafs.specs.Keeps.{KeepsReplies}
use Rattle.deltafs.specs.Says.{SaysReplies}
use Rattle.deltafs.specs.Summed.{SaysSummary, KeepsSummary}

-- Nothing was said, nothing was taken, and the files are what they were.
pub record IsIdle (old : Registry) (script rest said : List ℕ) (files : Option Registry) : Type 0 where
  pub none_said : said ≡ []
  pub none_taken : rest ≡ script
  pub stands : files ≡ Some old

-- The registry was not opened, for want of memory or since a call on its file failed. Nothing was said and nothing was taken.
abbrev pub IsUnopened : Status → Registry → List ℕ → List ℕ → List ℕ → Option Registry → Type 0
IsUnopened NoMemory old script rest said files = IsIdle old script rest said files
IsUnopened DiskFault old script rest said files = (said ≡ []) × (rest ≡ script)
IsUnopened status old script rest said files = ⊥

-- How a run over an old registry ends, with what the source had left at the start and has left now.
abbrev pub Says : Option Command → Status → Registry → List ℕ → List ℕ → List ℕ → Option Registry → Type 0
Says None status old script rest said files = IsIdle old script rest said files
Says (Some Run) status old script rest said files = IsUnopened status old script rest said files ⊎ SaysReplies status old script rest said files
Says (Some (Gen creates)) status old script rest said files = SaysSummary status old (generated creates) said files

-- An image has said nothing and holds the old registry.
pub record IsUntouched (old : Registry) (image : Image) : Type 0 where
  pub silent : image.said ≡ []
  pub stands : value image.files ≡ Some old

-- what a crash leaves of it
abbrev pub Keeps : Option Command → Registry → List ℕ → Image → Type 0
Keeps None old script image = IsUntouched old image
Keeps (Some Run) old script image = KeepsReplies old script image
Keeps (Some (Gen creates)) old script image = KeepsSummary old (generated creates) image
