-- What a line leaves, by its answer.
use Rattle.std.proofs.Common.{◌≡◌, ◌∙◌, ℕ, List, [], ◌++◌, take, ap, sym, refl, subst, append-nil, append_assoc, arith}
use Rattle.std.specs.Prelude.{IsErrOf, Result, Ok, Err, IfErr, OnOk, Some, Option}
use Rattle.dfs_gen.specs.Summary.{Counts}
use Rattle.dfs_host.specs.Host.{HostState, said_of}
use Rattle.dfs_host.specs.declared.fault.Fault.TheVariants as fault
use Rattle.dfs_registry.specs.declared.fault.RegFault.{RegFault}
use Rattle.dfs_registry.specs.declared.fault.RegFault.TheVariants as reg
use Rattle.dfs_script.specs.Script.{lines_of}
use Rattle.dfs_session.specs.declared.session.Session.{Session as LiveSession}
use Rattle.dfs_session.specs.Files.{value_on}
use Rattle.dfs_session.specs.Session.{Registry}
use Rattle.deltafs.specs.declared.status.Status.{Status}
use Rattle.deltafs.specs.declared.status.Status.TheVariants.{Done}
use Rattle.deltafs.specs.declared.status.Stop.{Stop}
use Rattle.deltafs.specs.declared.status.Stop.TheVariants as stop
use Rattle.deltafs.specs.declared.words.Command.{Command}
use Rattle.deltafs.specs.declared.words.Command.TheVariants.{Run, Gen}
use Rattle.deltafs.specs.Causes.{SourceFaultsOf}
use Rattle.deltafs.specs.Lines.{LeavesFiles, SaysText, SaysMore, Ends, Goes, status_by, status_after}
use Rattle.deltafs.specs.Refusals.{status_of}
use Rattle.deltafs.specs.Says.{TakesAtMost, Untaken}

abbrev IsOutput : Stop → Type 0
IsOutput stop.Output = Unit {0}
IsOutput (stop.Fault f) = ⊥

abbrev IsNoFull : Result (Unit {0}) Stop → Type 0
IsNoFull (Err (stop.Fault fault.LogFull)) = ⊥
IsNoFull result = Unit {0}

-- a line whose reply was said, or not in full, was worked all the same
pub leaves_said : (result : Result (Unit {0}) Stop) (before after : Registry) (files : Option Registry) → IfErr result (λ s. s ≡ stop.Output) → files ≡ Some after → LeavesFiles result before after files
leaves_said (Ok u) before after files only is = is
leaves_said (Err stop.Output) before after files only is = is
leaves_said (Err (stop.Fault f)) before after files only is = absurd (subst IsOutput (sym only) tt)

-- saying meets no full log
pub output_alone : (result : Result (Unit {0}) Stop) → IfErr result (λ s. s ≡ stop.Output) → IsErrOf result (stop.Fault fault.LogFull) → ⊥
output_alone (Ok u) only is = subst IsNoFull is tt
output_alone (Err s) only is = subst IsNoFull (ap Err (sym only) ∙ is) tt

pub on_ok : {T E P : Type 0} (result : Result T E) → P → OnOk result P
on_ok (Ok x) p = p
on_ok (Err e) p = tt

-- A stop tells nothing of what was not taken.

pub stops_rest : (command : Command) (s : Stop) (old : Registry) (script rest other said : List ℕ) (files : Option Registry) (counts : Counts) → Ends command (status_by s) old script rest said files counts
    → Ends command (status_by s) old script other said files counts
stops_rest Run (stop.Fault fault.NoMemory) old script rest other said files counts ends = ends
stops_rest Run (stop.Fault fault.Disk) old script rest other said files counts ends = ends
stops_rest Run (stop.Fault fault.LogFull) old script rest other said files counts ends = ends
stops_rest Run (stop.Fault (fault.Changed file at)) old script rest other said files counts ends = ends
stops_rest Run stop.Output old script rest other said files counts ends = ends
stops_rest (Gen creates) (stop.Fault fault.NoMemory) old script rest other said files counts ends = ends
stops_rest (Gen creates) (stop.Fault fault.Disk) old script rest other said files counts ends = ends
stops_rest (Gen creates) (stop.Fault fault.LogFull) old script rest other said files counts ends = ends
stops_rest (Gen creates) (stop.Fault (fault.Changed file at)) old script rest other said files counts ends = ends
stops_rest (Gen creates) stop.Output old script rest other said files counts ends = ends

pub no_limit : (s : Stop) (limit : ℕ) (script rest : List ℕ) → TakesAtMost limit script rest → Untaken (status_by s) limit script rest
no_limit (stop.Fault fault.NoMemory) limit script rest most = most
no_limit (stop.Fault fault.Disk) limit script rest most = most
no_limit (stop.Fault fault.LogFull) limit script rest most = most
no_limit (stop.Fault (fault.Changed file at)) limit script rest most = most
no_limit stop.Output limit script rest most = most

pub limit_after : (result : Result (Unit {0}) Stop) (limit : ℕ) (script rest : List ℕ) → Untaken Done limit script rest → TakesAtMost limit script rest → Untaken (status_after result) limit script rest
limit_after (Ok u) limit script rest less most = less
limit_after (Err s) limit script rest less most = no_limit s limit script rest most

abbrev IsEnd : Status → Type 0
IsEnd Done = Unit {0}
IsEnd status = ⊥

-- a stop is no end
pub no_end : (s : Stop) → status_by s ≡ Done → ⊥
no_end (stop.Fault fault.NoMemory) is = subst IsEnd (sym is) tt
no_end (stop.Fault fault.Disk) is = subst IsEnd (sym is) tt
no_end (stop.Fault fault.LogFull) is = subst IsEnd (sym is) tt
no_end (stop.Fault (fault.Changed file at)) is = subst IsEnd (sym is) tt
no_end stop.Output is = subst IsEnd (sym is) tt

-- nothing was taken
pub takes_none : (limit : ℕ) (script : List ℕ) → TakesAtMost limit script script
takes_none limit script = (record { taken = []; whole = refl }, omega arith)

pub limit_unopened : (fault : RegFault) (limit : ℕ) (script : List ℕ) → Untaken (status_of fault) limit script script
limit_unopened reg.NotRegistry limit script = takes_none limit script
limit_unopened (reg.Damaged place) limit script = takes_none limit script
limit_unopened reg.NoMemory limit script = takes_none limit script
limit_unopened reg.Disk limit script = takes_none limit script

-- no line touches the source
pub no_source : (result : Result (Unit {0}) Stop) (count : ℕ) → SourceFaultsOf (status_after result) count count
no_source (Ok u) count = refl
no_source (Err (stop.Fault fault.NoMemory)) count = refl
no_source (Err (stop.Fault fault.Disk)) count = refl
no_source (Err (stop.Fault fault.LogFull)) count = refl
no_source (Err (stop.Fault (fault.Changed file at))) count = refl
no_source (Err stop.Output) count = refl

-- the end of a script of which all was taken
pub ends_whole : (command : Command) (result : Result (Unit {0}) Stop) (old : Registry) (taken : List ℕ) (host : HostState) (counts : Counts) (session : LiveSession) → Goes command result old (lines_of taken) taken [] host counts session
    → Ends command (status_after result) old taken [] (said_of host) (value_on host) counts
ends_whole Run (Ok u) old taken host counts session after = record { said_all = after.said; none_left = refl; stands = after.value }
ends_whole (Gen creates) (Ok u) old taken host counts session after = record { silent = after.said.0; counted = after.said.1; stands = after.value }
ends_whole command (Err s) old taken host counts session ends = ends

-- What is said only grows.

pub says_none : (host : HostState) → SaysMore host host
says_none host = record { more = []; said = sym (append-nil (said_of host)) }

pub says_on : {old mid new : HostState} → SaysMore old mid → SaysMore mid new → SaysMore old new
says_on {old} {mid} {new} first second = record {
  more = first.more ++ second.more;
  said = second.said ∙ ap (λ (l : List ℕ). l ++ second.more) first.said ∙ append_assoc (said_of old) first.more second.more;
}

pub says_reply : (result : Result (Unit {0}) Stop) (reply : List ℕ) (old mid new : HostState) → said_of mid ≡ said_of old → SaysText result reply (said_of mid) (said_of new) → SaysMore old new
says_reply (Ok u) reply old mid new silent is = record { more = reply; said = is ∙ ap (λ (l : List ℕ). l ++ reply) silent }
says_reply (Err (stop.Fault f)) reply old mid new silent is = record { more = []; said = is ∙ silent ∙ sym (append-nil (said_of old)) }
says_reply (Err stop.Output) reply old mid new silent is = record { more = take is.1.0 reply; said = is.1.1 ∙ ap (λ (l : List ℕ). l ++ take is.1.0 reply) silent }
