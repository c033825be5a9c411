-- The cause of the answer of a run of calls.
use Rattle.std.proofs.Common.{◌≡◌, inl, inr, Result, Ok, Err, refl, ◌∙◌, ap, arith}
use Rattle.std.proofs.lemmas.Bool.{cases_lt}
use Rattle.dfs_host.specs.declared.fault.Fault.{Fault}
use Rattle.dfs_host.specs.declared.fault.Fault.TheVariants.{NoMemory, Disk, LogFull, Changed}
use Rattle.dfs_space.specs.Space.{SpaceState, IsReady, HasSpaceCause, NoSpaceFault}

module _ {T U : Type 0} {old new : SpaceState} where
  -- a fault that is passed on
  pub cause_passed : {e : Fault} → HasSpaceCause {T = T} old new (Err e) → HasSpaceCause {T = U} old new (Err e)
  cause_passed {e} cause = record {
    tells = cause.tells;
    live = tt;
    faults_later = cause.faults_later;
    disk = λ is. let same : e ≡ Disk = cc is in cause.disk (ap Err same);
    other = λ none. cause.other (λ is. let same : e ≡ Disk = cc is in none (ap Err same));
    reads_later = cause.reads_later;
    changed = λ file at is. let same : e ≡ Changed file at = cc is in cause.changed file at (ap Err same);
    never_changed = λ tells file at is. let same : e ≡ Changed file at = cc is in cause.never_changed tells file at (ap Err same);
    full = (λ is. let same : e ≡ LogFull = cc is in cause.full.0 (ap Err same), λ over. let is = cause.full.1 over in let same : e ≡ LogFull = cc is in ap Err same);
  }

  -- another answer in place of an answer
  pub cause_answered : {x : T} (y : U) → HasSpaceCause old new (Ok x) → HasSpaceCause old new (Ok y)
  cause_answered {x} y cause = record {
    tells = cause.tells;
    live = cause.live;
    faults_later = cause.faults_later;
    disk = λ is. absurd (cc is);
    other = λ none. cause.other (λ is. absurd (cc is));
    reads_later = cause.reads_later;
    changed = λ file at is. absurd (cc is);
    never_changed = λ tells file at is. absurd (cc is);
    full = (λ is. absurd (cc is), λ over. let is = cause.full.1 over in absurd (cc is));
  }

-- a call more
pub cause_on : {T U : Type 0} {old mid new : SpaceState} {x : T} {last : Result U Fault} → HasSpaceCause old mid (Ok x) → HasSpaceCause mid new last → HasSpaceCause old new last
cause_on {T} {U} {old} {mid} {new} {x} {last} first cause =
    let same : mid.disk_faults ≡ old.disk_faults = first.other (λ is. absurd (cc is)) in
    record {
      tells = cause.tells ∙ first.tells;
      live = cause.live;
      faults_later = omega (arith, first.faults_later, cause.faults_later);
      disk = λ is. let rose = cause.disk is in omega (arith, rose, same);
      other = λ none. cause.other none ∙ same;
      reads_later = omega (arith, first.reads_later, cause.reads_later);
      changed = λ file at is. let rose = cause.changed file at is in omega (arith, rose, first.reads_later);
      never_changed = λ tells file at is. cause.never_changed (first.tells ∙ tells) file at is;
      full = cause.full;
    }

-- after an answer the next call may be made
pub ready_on : {T : Type 0} {old new : SpaceState} {x : T} → HasSpaceCause old new (Ok x) → IsReady new
ready_on {T} {old} {new} {x} cause = record {
  live = cause.live;
  none_refused = elim (cases_lt 0 new.refused) [
    | inl over ↦ let is = cause.full.1 over in absurd (cc is)
    | inr end ↦ omega (arith, end)
  ];
}

-- Over a loop.

pub none_yet : (space : SpaceState) → NoSpaceFault space space
none_yet space = record { tells = refl; disk_faults = refl; reads_later = omega arith }

pub none_by : {T : Type 0} {old mid new : SpaceState} {x : T} → NoSpaceFault old mid → HasSpaceCause mid new (Ok x) → NoSpaceFault old new
none_by before cause = record {
  tells = cause.tells ∙ before.tells;
  disk_faults = cause.other (λ is. absurd (cc is)) ∙ before.disk_faults;
  reads_later = omega (arith, before.reads_later, cause.reads_later);
}

pub cause_behind : {T : Type 0} {old mid new : SpaceState} {result : Result T Fault} → NoSpaceFault old mid → HasSpaceCause mid new result → HasSpaceCause old new result
cause_behind before cause = record {
  tells = cause.tells ∙ before.tells;
  live = cause.live;
  faults_later = omega (arith, before.disk_faults, cause.faults_later);
  disk = λ is. let rose = cause.disk is in omega (arith, rose, before.disk_faults);
  other = λ none. cause.other none ∙ before.disk_faults;
  reads_later = omega (arith, before.reads_later, cause.reads_later);
  changed = λ file at is. let rose = cause.changed file at is in omega (arith, rose, before.reads_later);
  never_changed = λ tells file at is. cause.never_changed (before.tells ∙ tells) file at is;
  full = cause.full;
}

-- the answer of a run with no fault
pub cause_of_none : {T : Type 0} {old new : SpaceState} (x : T) → NoSpaceFault old new → IsReady new → HasSpaceCause old new (Ok x)
cause_of_none {T} {old} {new} x none ready = record {
  tells = none.tells;
  live = ready.live;
  faults_later = omega (arith, none.disk_faults);
  disk = λ is. absurd (cc is);
  other = λ other. none.disk_faults;
  reads_later = none.reads_later;
  changed = λ file at is. absurd (cc is);
  never_changed = λ tells file at is. absurd (cc is);
  full = (λ is. absurd (cc is), λ over. let zero = ready.none_refused in absurd (omega (arith, over, zero)));
}

-- memory that was not found
pub cause_of_no_memory : {T : Type 0} {old new : SpaceState} → NoSpaceFault old new → IsReady new → HasSpaceCause {T = T} old new (Err NoMemory)
cause_of_no_memory {T} {old} {new} none ready = record {
  tells = none.tells;
  live = tt;
  faults_later = omega (arith, none.disk_faults);
  disk = λ is. absurd (cc is);
  other = λ other. none.disk_faults;
  reads_later = none.reads_later;
  changed = λ file at is. absurd (cc is);
  never_changed = λ tells file at is. absurd (cc is);
  full = (λ is. absurd (cc is), λ over. let zero = ready.none_refused in absurd (omega (arith, over, zero)));
}

-- what an answer tells
pub none_of : {T : Type 0} {old new : SpaceState} {x : T} → HasSpaceCause old new (Ok x) → NoSpaceFault old new
none_of cause = none_by (none_yet _) cause
