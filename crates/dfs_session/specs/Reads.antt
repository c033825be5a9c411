-- How often a begin reads.
use Rattle.std.specs.Prelude.{◌≡◌, ◌<◌, ◌+◌, ◌||◌, ℕ, Bool, IsTrue, if◌then◌else◌, List, [], ◌∷◌, map, Some, None, IfSome}
use Rattle.dfs_host.specs.Counts.{RoseBy}
use Rattle.dfs_record.specs.declared.SnapName.{SnapName}
use Rattle.dfs_registry.specs.declared.listed.Listed.{Listed}
use Rattle.dfs_registry.specs.Body.{has_name}
use Rattle.dfs_change.specs.declared.change.Change.{Change}
use Rattle.dfs_change.specs.Whole.{reads_of, table_fences}
use Rattle.dfs_session.specs.declared.keeping.Kept.{Kept}
use Rattle.dfs_session.specs.declared.keeping.Use.{Use}
use Rattle.dfs_session.specs.declared.selection.Selection.{Selection}
use Rattle.dfs_session.specs.declared.selection.Selection.TheVariants.{Changes, Damaged}
use Rattle.dfs_session.specs.declared.session.Session.{Session as LiveSession}
use Rattle.dfs_session.specs.Kept.{IsKept, begin_in, kept_at}
use Rattle.dfs_session.specs.Selected.{is_selected, listed_as}
use Rattle.dfs_session.specs.Worked.{AreSelected}

-- how many reads it takes to open a change set
abbrev pub reads_for : Change → ℕ
reads_for c = reads_of (table_fences c.run.value.tables)

-- the names that are known, and that of a change set
abbrev pub with_name : (SnapName → Bool) → Change → SnapName → Bool
with_name known c name = known name || has_name name c.listed

-- How many reads it takes to open change sets in their order, each the first time that its name comes, and none whose name is known.
abbrev pub first_reads : (SnapName → Bool) → List Change → ℕ
first_reads known [] = 0
first_reads known (c ∷ cs) = (if known c.listed.name then 0 else reads_for c) + first_reads (with_name known c) cs

-- The reads of a begin. Where a job was begun, which has the greatest number, they are just those of opening what it selects, each
-- change set the first time that its name comes, and none whose name stood in the begin of a live job. Where each of the names stood
-- there, nothing is read, whatever the answer.
pub record ReadsOnce (before now : ℕ) (old new : LiveSession) (names : List SnapName) : Type 0 where
  pub anew : old.greatest < new.greatest → RoseBy (first_reads (is_selected old) (begin_in new.kept new.greatest)) before now
  pub kept : AreSelected names old → now ≡ before

-- The names that are known are those of the change sets that are kept.
pub record Knows (ls : List Listed) (kept : Kept) (known : SnapName → Bool) : Type 0 where
  pub all : (u : Use) → IfSome (kept_at kept u) (λ c. IsTrue (known c.listed.name))
  pub only : (name : SnapName) (l : Listed) → listed_as ls name ≡ Some l → IsTrue (known name) → IsKept kept l.job

-- no change set is kept of the publication that the job made
abbrev pub IsUnkept : Kept → ℕ → Type 0
IsUnkept kept made = (user : ℕ) → kept_at kept (record { change = made; job = user }) ≡ None

-- the reads are just those of opening what was selected, each the first time that its name comes, where it is not known
abbrev pub HasFirstReads : (SnapName → Bool) → ℕ → ℕ → Selection → Type 0
HasFirstReads known before now (Changes cs) = RoseBy (first_reads known (map (λ c. c.value) cs.items)) before now
HasFirstReads known before now (Damaged name) = Unit {0}
