-- What a publication leaves in the log of its job.
use Rattle.std.specs.Prelude.{◌≡◌, ◌+◌, ◌++◌, ◌∷◌, [], List, length, Option, Some, None, Result, Ok, Err}
use Rattle.dfs_host.specs.Host.{HostState, bytes_of}
use Rattle.dfs_registry.specs.declared.listed.Listed.{Listed}
use Rattle.dfs_script.specs.declared.Line.{Line}
use Rattle.dfs_script.specs.declared.Line.TheVariants.{Nothing, Set, Snapshots, Begin, Space, Flush, Plan, Part, Stats, Publish, End}
use Rattle.dfs_script.specs.declared.LineFault.{LineFault}
use Rattle.dfs_view.specs.declared.layers.Layers.{Layers}
use Rattle.dfs_job.specs.declared.job.Job.{Job as LiveJob}
use Rattle.dfs_job.specs.Job.{Job, after_flush, layer_changes}
use Rattle.dfs_job.specs.Sealed.{SealsLayers}
use Rattle.dfs_job.specs.Stands.{TellsOf, flushed_firsts, flushed_tables}
use Rattle.dfs_session.specs.declared.session.Session.{Session as LiveSession}
use Rattle.dfs_session.specs.Session.{Session, live_job}
use Rattle.dfs_session.specs.Sound.{listed_in, live_in}
use Rattle.dfs_session.specs.Worked.{NameIsFree}

-- The log of the entry's job has just the blocks and indexes of its runs and, at its end, the manifest of the run that its layers are
-- sealed as, of as many tables as that run needs.
pub record IsSealed (host : HostState) (live : LiveJob) (j : Job) (l : Listed) : Type 0 where
  -- its layers, all closed
  pub layers : Layers
  pub job : l.job ≡ live.ids.job
  pub seals : SealsLayers (bytes_of host l.job) live.layers layers l.at l.len
  pub tables : TellsOf (flushed_firsts live j) (flushed_tables live j) live.settings.parts (layer_changes (after_flush j)) l.len
  pub ends : length (bytes_of host l.job) ≡ l.at + l.len

-- the same of the job that is live under a word
abbrev pub IsSealedFrom : HostState → Option LiveJob → Option Job → Listed → Type 0
IsSealedFrom host None o l = ⊥
IsSealedFrom host (Some live) None l = ⊥
IsSealedFrom host (Some live) (Some j) l = IsSealed host live j l

-- An entry was added, and its log is sealed so.
pub record AddsSealed (host : HostState) (old new : LiveSession) (live : Option LiveJob) (plain : Option Job) : Type 0 where
  pub listed : Listed
  pub entries : listed_in new ≡ listed_in old ++ listed ∷ []
  pub sealed : IsSealedFrom host live plain listed

-- a publication that is not refused adds such an entry
abbrev pub SealsFor : Line → Session → HostState → LiveSession → LiveSession → Type 0
SealsFor Nothing s host old new = Unit {0}
SealsFor (Set what value) s host old new = Unit {0}
SealsFor Snapshots s host old new = Unit {0}
SealsFor (Begin w names) s host old new = Unit {0}
SealsFor (Space w op) s host old new = Unit {0}
SealsFor (Flush w) s host old new = Unit {0}
SealsFor (Plan w scope parts) s host old new = Unit {0}
SealsFor (Part w part) s host old new = Unit {0}
SealsFor (Stats w) s host old new = Unit {0}
SealsFor (Publish w name) s host old new = NameIsFree s w name → AddsSealed host old new (live_in old w) (live_job s w)
SealsFor (End w) s host old new = Unit {0}

abbrev pub seals_for : Result Line LineFault → Session → HostState → LiveSession → LiveSession → Type 0
seals_for (Ok line) s host old new = SealsFor line s host old new
seals_for (Err fault) s host old new = Unit {0}
