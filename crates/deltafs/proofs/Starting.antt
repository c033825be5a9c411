-- Runs that work no line, by what the words ask for.
use Rattle.std.proofs.Common.{◌≡◌, ◌≢◌, ℕ, List, [], Option, Some, None, refl, sym, ap, subst, ◌∙◌, inl}
use Rattle.std.specs.Prelude.{Err}
use mathlib.Core.Bool.{true≢false}
use Rattle.std.specs.Prelude.{is_some}
use Rattle.dfs_gen.specs.Script.{script as generated}
use Rattle.dfs_host.specs.Host.{HostState, bytes_of}
use Rattle.dfs_registry.specs.Reading.{registry as reading, Reading, damaged, listing, not_a_registry}
use Rattle.dfs_registry.specs.declared.fault.RegFault.{RegFault}
use Rattle.dfs_registry.specs.declared.fault.RegFault.TheVariants as reg
use Rattle.dfs_script.specs.Script.{lines_of}
use Rattle.dfs_session.specs.declared.session.Session.{Session as LiveSession}
use Rattle.dfs_session.specs.Files.{value_on, value_read, value}
use Rattle.dfs_session.specs.Session.{Registry}
use Rattle.dfs_session.specs.Worked.{OpensAs}
use Rattle.deltafs.specs.declared.status.Status.TheVariants.{DiskFault, NoMemory}
use Rattle.deltafs.specs.declared.words.Command.{Command}
use Rattle.deltafs.specs.declared.words.Command.TheVariants.{Run, Gen}
use Rattle.deltafs.specs.Commands.{Says}
use Rattle.deltafs.specs.Refusals.{status_of}
use Rattle.dfs_registry.specs.Opening.{IsShut}

pub some_none : {X : Type 0} (x : X) → Some x ≡ None → ⊥
some_none x is = true≢false (ap is_some is)

abbrev IsGiven : Option Command → Type 0
IsGiven None = ⊥
IsGiven (Some Run) = Unit {0}
IsGiven (Some (Gen creates)) = ⊥

pub gen_run : (creates : ℕ) → Some (Gen creates) ≢ Some Run
gen_run creates is = subst IsGiven (sym is) tt

-- want of memory, before the first line
pub says_nothing : (command : Option Command) (old : Registry) (script said : List ℕ) (files : Option Registry) → said ≡ [] → files ≡ Some old → Says command NoMemory old script script said files
says_nothing None old script said files silent stands = record { none_said = silent; none_taken = refl; stands = stands }
says_nothing (Some Run) old script said files silent stands = inl (record { none_said = silent; none_taken = refl; stands = stands })
says_nothing (Some (Gen creates)) old script said files silent stands = record { before = []; after = lines_of (generated creates); cut = refl; said_before = silent; stands = stands }

-- a device that failed
says_failed : (command : Option Command) (old : Registry) (script said : List ℕ) (files : Option Registry) → said ≡ [] → files ≡ Some old → Says command DiskFault old script script said files
says_failed None old script said files silent stands = record { none_said = silent; none_taken = refl; stands = stands }
says_failed (Some Run) old script said files silent stands = inl (silent, refl)
says_failed (Some (Gen creates)) old script said files silent stands = silent

-- a registry that is one was not opened
pub says_unopened : (command : Option Command) (fault : RegFault) (old : Registry) (script said : List ℕ) (files : Option Registry) (host : HostState) → OpensAs {T = LiveSession} (reading (bytes_of host 0)) (Err fault) → value_on host ≡ Some old → said ≡ [] → files ≡ Some old
    → Says command (status_of fault) old script script said files
says_unopened command reg.NotRegistry old script said files host opens value silent stands = absurd (some_none old (sym value ∙ ap (value_read (bytes_of host)) opens))
says_unopened command (reg.Damaged place) old script said files host opens value silent stands = absurd (some_none old (sym value ∙ ap (value_read (bytes_of host)) opens))
says_unopened command reg.NoMemory old script said files host opens value silent stands = says_nothing command old script said files silent stands
says_unopened command reg.Disk old script said files host opens value silent stands = says_failed command old script said files silent stands

-- files that stand for no registry
pub is_shut : (files : ℕ → List ℕ) → value files ≡ None → IsShut (reading (files 0))
is_shut files none = by (reading (files 0)) none
  where
    by : (r : Reading) → value_read files r ≡ None → IsShut r
    by (listing ls) none = absurd (some_none _ none)
    by not_a_registry none = tt
    by (damaged place) none = tt
