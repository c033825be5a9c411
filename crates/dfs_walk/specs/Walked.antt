-- How the answers of a walk are seen.
use Rattle.std.specs.Prelude.{◌≡◌, Result, Ok, Err, MatchOption, IfSome}
use Rattle.dfs_host.specs.declared.fault.Fault.{Fault as SpaceFault}
use Rattle.dfs_record.specs.Record.{IsKey, IsEntry}
use Rattle.dfs_walk.specs.declared.Walked.{Walked}
use Rattle.dfs_walk.specs.declared.WalkFault.{WalkFault}
use Rattle.dfs_walk.specs.declared.WalkFault.TheVariants.{NoEnt, NotDir, Fault}
use Rattle.dfs_walk.specs.Walk.{Walk, no_entry, not_dir, at, at_root}

-- how the walk ended, or the fault that it met
abbrev pub ended : Result Walked WalkFault → Result Walk SpaceFault
ended (Ok walked) = Ok (at walked)
ended (Err NoEnt) = Ok no_entry
ended (Err NotDir) = Ok not_dir
ended (Err (Fault fault)) = Err fault

-- the fault alone: to refuse is none
abbrev pub fault_of : {T : Type 0} → Result T WalkFault → Result (Unit {0}) SpaceFault
fault_of (Ok x) = Ok tt
fault_of (Err NoEnt) = Ok tt
fault_of (Err NotDir) = Ok tt
fault_of (Err (Fault fault)) = Err fault

-- at the root, or at a valid key with what may stand there
abbrev pub IsWalked : Walked → Type 0
IsWalked walked = MatchOption walked.place (walked ≡ at_root) (λ key. IsKey key × IfSome walked.found IsEntry)
