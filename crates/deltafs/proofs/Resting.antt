-- File 0 at each end of a run.
use Rattle.std.proofs.Common.{◌≡◌, ◌≢◌, ◌∙◌, ℕ, inl, inr, refl, sym, ap, subst}
use Rattle.std.specs.Prelude.{IsTrue}
use Rattle.dfs_host.specs.Disk.{FileState, IsSettled}
use Rattle.dfs_host.specs.Host.{HostState, OnlyReads}
use Rattle.dfs_host.specs.declared.fault.Fault.{Fault}
use Rattle.dfs_host.specs.declared.fault.Fault.TheVariants as fault
use Rattle.dfs_registry.specs.declared.fault.RegFault.{RegFault}
use Rattle.dfs_registry.specs.declared.fault.RegFault.TheVariants as reg
use Rattle.dfs_registry.specs.Reading.{registry as reading}
use Rattle.dfs_registry.proofs.Standing.{standing_list}
use Rattle.dfs_session.specs.declared.session.Session.{Session as LiveSession}
use Rattle.dfs_session.specs.Sound.{IsSound, listed_in}
use Rattle.dfs_session.specs.Worked.{none_written}
use Rattle.dfs_session.specs.Writes.{FileStays}
use Rattle.dfs_session.proofs.Writing.{file_stays, reads_these}
use Rattle.deltafs.specs.declared.status.Status.{Status}
use Rattle.deltafs.specs.declared.status.Status.TheVariants.{Done, Usage, NotRegistry, RegistryDamaged, DiskFault, OutputFault, SourceFault, NoMemory, LogFull, ScriptTooLong, Changed}
use Rattle.deltafs.specs.declared.status.Stop.TheVariants as stop
use Rattle.deltafs.specs.Causes.{IsOfLines}
use Rattle.deltafs.specs.Lines.{status_by}
use Rattle.deltafs.specs.Refusals.{status_of}
use Rattle.deltafs.specs.Rests.{IsAtRest, LeavesAtRest, Rests}

-- where a session is sound
pub sound_rests : (host : HostState) (session : LiveSession) → IsSound host session → IsTrue host.tells → IsAtRest host
sound_rests host session sound tells =
    let stands = sound.registry tells in
    record { entries = listed_in session; settled = stands.settled; means = standing_list host session.registry stands; bytes = stands.file }

-- where it was so, and the file is as it was
pub rests_still : (before after : HostState) → after.disk.files 0 ≡ before.disk.files 0 → IsAtRest before → IsAtRest after
rests_still before after same rests = record {
  entries = rests.entries;
  settled = subst IsSettled (sym same) rests.settled;
  means = ap (λ (file : FileState). reading file.bytes) same ∙ rests.means;
  bytes = ap (λ (file : FileState). file.bytes) same ∙ rests.bytes;
}

pub rests_with : (status : Status) (host : HostState) → IsAtRest host → LeavesAtRest status host
rests_with Done host rests = rests
rests_with Usage host rests = rests
rests_with NotRegistry host rests = rests
rests_with (RegistryDamaged place) host rests = rests
rests_with DiskFault host rests = tt
rests_with OutputFault host rests = rests
rests_with SourceFault host rests = rests
rests_with NoMemory host rests = rests
rests_with LogFull host rests = rests
rests_with ScriptTooLong host rests = rests
rests_with Changed host rests = rests

abbrev IsNoDisk : Fault → Type 0
IsNoDisk fault.Disk = ⊥
IsNoDisk f = Unit {0}

-- at a line that stops the run
pub rests_at : (f : Fault) (host : HostState) → (f ≢ fault.Disk → IsAtRest host) → LeavesAtRest (status_by (stop.Fault f)) host
rests_at fault.NoMemory host rests = rests (λ is. subst IsNoDisk is tt)
rests_at fault.Disk host rests = tt
rests_at fault.LogFull host rests = rests (λ is. subst IsNoDisk is tt)
rests_at (fault.Changed file at) host rests = rests (λ is. subst IsNoDisk is tt)

-- a run that opened the registry
pub rests_opened : (status : Status) (before after : HostState) → IsOfLines status → LeavesAtRest status after → Rests status before after
rests_opened Done before after lines rests = rests
rests_opened Usage before after lines rests = absurd lines
rests_opened NotRegistry before after lines rests = absurd lines
rests_opened (RegistryDamaged place) before after lines rests = absurd lines
rests_opened DiskFault before after lines rests = tt
rests_opened OutputFault before after lines rests = rests
rests_opened SourceFault before after lines rests = rests
rests_opened NoMemory before after lines rests = inl rests
rests_opened LogFull before after lines rests = rests
rests_opened ScriptTooLong before after lines rests = rests
rests_opened Changed before after lines rests = rests

reads_stay : (before after : HostState) → IsTrue before.tells → OnlyReads before after → FileStays 0 before after
reads_stay before after tells only = file_stays {written = none_written} 0 refl ((reads_these only).content tells)

-- and one that did not
pub rests_unopened : (f : RegFault) (before after : HostState) → IsTrue before.tells → (f ≡ reg.NotRegistry → OnlyReads before after) → ((place : ℕ) → f ≡ reg.Damaged place → OnlyReads before after) → (f ≡ reg.NoMemory → OnlyReads before after)
    → Rests (status_of f) before after
rests_unopened reg.NotRegistry before after tells refused broken memory = reads_stay before after tells (refused refl)
rests_unopened (reg.Damaged place) before after tells refused broken memory = reads_stay before after tells (broken place refl)
rests_unopened reg.NoMemory before after tells refused broken memory = inr (reads_stay before after tells (memory refl))
rests_unopened reg.Disk before after tells refused broken memory = tt
