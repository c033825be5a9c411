-- What a job selects.
use Rattle.std.specs.Prelude.{◌≡◌, Bool, List, find, filter_map, is_some, map, Option, Some, None}
use Rattle.std.specs.List.{AllByRecursion, AllZip, list_any}
use Rattle.dfs_host.specs.Host.{HostState, bytes_of}
use Rattle.dfs_record.specs.declared.SnapName.{SnapName}
use Rattle.dfs_change.specs.declared.change.Change.{Change}
use Rattle.dfs_registry.specs.declared.listed.Listed.{Listed}
use Rattle.dfs_registry.specs.Body.{has_name}
use Rattle.dfs_job.specs.Stands.{IsStoredFor}
use Rattle.dfs_session.specs.declared.selection.Selection.{Selection}
use Rattle.dfs_session.specs.declared.selection.Selection.TheVariants.{Changes, Damaged}
use Rattle.dfs_session.specs.declared.session.Session.{Session as LiveSession}
use Rattle.dfs_session.specs.Files.{publications_of}
use Rattle.dfs_session.specs.Kept.{IsInside, IsOwn, begin_in}
use Rattle.dfs_session.specs.Session.{Publication, changes_of, is_damaged}
use Rattle.dfs_session.specs.Sound.{IsEntry, jobs_of, number_of}

-- the entry of a name in the registry
abbrev pub listed_as : List Listed → SnapName → Option Listed
listed_as ls name = find (has_name name) ls

abbrev pub is_listed : List Listed → SnapName → Bool
is_listed ls name = is_some (listed_as ls name)

-- the entries of the names, in the order of the names
abbrev pub chosen_in : List Listed → List SnapName → List Listed
chosen_in ls names = filter_map (listed_as ls) names

-- None of the publications is damaged, and the changes are opened and stored for their change sets.
pub record AreChosen (host : HostState) (ls : List Listed) (cs : List Change) : Type 0 where
  pub whole : find is_damaged (publications_of (bytes_of host) ls) ≡ None
  pub stored : AllZip (IsStoredFor host) cs (changes_of (publications_of (bytes_of host) ls))
  pub opened : AllByRecursion (IsOwn host) cs

-- the first one is damaged that the selection names, or none is
abbrev pub IsSelection : HostState → List Listed → Selection → Type 0
IsSelection host ls (Changes cs) = AreChosen host ls (map (λ c. c.value) cs.items)
IsSelection host ls (Damaged name) = (p : Publication) × (find is_damaged (publications_of (bytes_of host) ls) ≡ Some p) × (p.name ≡ name)

-- each of the changes is that of an entry
abbrev pub AreEntries : List Listed → Selection → Type 0
AreEntries ls (Changes cs) = AllByRecursion (IsEntry ls) (map (λ c. c.value) cs.items)
AreEntries ls (Damaged name) = Unit {0}

-- the tables of each lie in its own file
abbrev pub AreInside : Selection → Type 0
AreInside (Changes cs) = AllByRecursion IsInside (map (λ c. c.value) cs.items)
AreInside (Damaged name) = Unit {0}

-- the changes are those of the names, in their order
abbrev pub AreNamedBy : List SnapName → Selection → Type 0
AreNamedBy names (Changes cs) = map (λ c. c.listed.name) (map (λ c. c.value) cs.items) ≡ names
AreNamedBy names (Damaged name) = Unit {0}

-- whether the name stands in the begin of a live job
abbrev pub is_selected : LiveSession → SnapName → Bool
is_selected session name = list_any (λ e. list_any (λ c. has_name name c.listed) (begin_in session.kept (number_of e.1))) (jobs_of session)
