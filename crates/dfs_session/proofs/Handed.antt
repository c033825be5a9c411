-- Faults that are handed on.
use Rattle.std.proofs.Common.{◌≡◌, ◌<◌, ℕ, zero, suc, Result, Ok, Err, refl, ap, subst, arith}
use Rattle.dfs_host.specs.Fault.{HasFaultCause, NoFault}
use Rattle.dfs_host.specs.Host.{HostState}
use Rattle.dfs_host.specs.declared.fault.Fault.{Fault}
use Rattle.dfs_host.specs.declared.fault.Fault.TheVariants.{NoMemory, Disk, LogFull, Changed}
use Rattle.dfs_host.proofs.Causes.{cause_of_last}
use Rattle.dfs_job.specs.declared.answers.JobPart.{JobPart}
use Rattle.dfs_job.specs.declared.answers.JobPart.TheVariants.{Merged, Last, NoPlan, Range, Done}
use Rattle.dfs_job.specs.declared.answers.Planned.{Planned}
use Rattle.dfs_job.specs.declared.answers.Planned.TheVariants.{Made, Busy}
use Rattle.dfs_job.specs.declared.answers.Planned.TheVariants as planned
use Rattle.dfs_job.specs.Parted.{IsRefusedPart, IsRefusedPlan}
use Rattle.dfs_ops.specs.declared.OpReply.{OpReply}
use Rattle.dfs_ops.specs.declared.OpReply.TheVariants.{Done as OpDone, Entry as OpEntry, Listing as OpListing, Root as OpRoot, NoEnt as OpNoEnt, NotDir as OpNotDir, IsDir as OpIsDir, Exists as OpExists, NotEmpty as OpNotEmpty, Inside as OpInside, Full as OpFull}
use Rattle.dfs_reply.specs.declared.Reply.TheVariants.{Error}
use Rattle.dfs_reply.specs.declared.Word.TheVariants as word
use Rattle.dfs_session.specs.Session.{told, told_of_part, told_of_plan}
use Rattle.dfs_session.specs.Worked.{IsError}

abbrev pub fault_or : {T : Type 0} → Result T Fault → Fault
fault_or (Ok x) = NoMemory
fault_or (Err fault) = fault

abbrev IsNoMemory : Fault → Type 0
IsNoMemory NoMemory = Unit {0}
IsNoMemory Disk = ⊥
IsNoMemory LogFull = ⊥
IsNoMemory (Changed file at) = ⊥

pub memory_not_full : NoMemory ≡ LogFull → ⊥
memory_not_full is = subst IsNoMemory is tt

pub memory_not_changed : (file at : ℕ) → NoMemory ≡ Changed file at → ⊥
memory_not_changed file at is = subst IsNoMemory is tt

-- the cause of a fault that is handed on
pub handed_cause : {T U : Type 0} {before mid after : HostState} (fault : Fault) → NoFault before mid → HasFaultCause {T = T} mid after (Err fault) → HasFaultCause {T = U} before after (Err fault)
handed_cause {T} {U} fault none cause =
    cause_of_last none cause (Err fault) (λ other is. ap Err (ap (fault_or {T = U}) is)) (λ is. ap Err (ap (fault_or {T = T}) is))

pub none_unless : (n : ℕ) → (0 < n → ⊥) → n ≡ 0
none_unless zero some = refl
none_unless (suc n) some = absurd (some (omega arith))

-- ---- replies that refuse a line

pub plan_error : (answer : Planned) → IsError (told_of_plan answer) → IsRefusedPlan answer
plan_error Made is = is
plan_error Busy is = tt
plan_error planned.Full is = tt

pub part_error : (answer : JobPart) → IsError (told_of_part answer) → IsRefusedPart answer
part_error Merged is = is
part_error Last is = is
part_error NoPlan is = tt
part_error Range is = tt
part_error Done is = tt

-- an operation that was applied does not say that there is no such job
pub told_no_job : (answer : OpReply) → told answer ≡ Error word.NoJob → ⊥
told_no_job OpDone is = absurd (cc is)
told_no_job (OpEntry entry) is = absurd (cc is)
told_no_job (OpListing entries) is = absurd (cc is)
told_no_job OpRoot is = absurd (cc is)
told_no_job OpNoEnt is = absurd (cc is)
told_no_job OpNotDir is = absurd (cc is)
told_no_job OpIsDir is = absurd (cc is)
told_no_job OpExists is = absurd (cc is)
told_no_job OpNotEmpty is = absurd (cc is)
told_no_job OpInside is = absurd (cc is)
told_no_job OpFull is = absurd (cc is)
