-- Runs of calls that change nothing.
use Rattle.std.proofs.Common.{◌≡◌, List, [], ◌++◌, Result, Ok, Err, ap}
use Rattle.dfs_host.specs.declared.fault.Fault.{Fault}
use Rattle.dfs_host.specs.declared.fault.Fault.TheVariants.{NoMemory, LogFull}
use Rattle.dfs_record.specs.declared.Record.{Record}
use Rattle.dfs_record.specs.Namespace.{Namespace}
use Rattle.dfs_space.specs.Space.{SpaceState, IsReady, HasRead}
use Rattle.dfs_space.proofs.Causes.{cause_passed, cause_answered, cause_on, cause_of_no_memory, cause_of_none, none_yet, none_of, ready_on}

module _ {S : Type 0} {StandsFor : S → Namespace → Type 0} {follows : S → S → List Record → Type 0} {state : S → SpaceState} where
  -- none yet
  pub read_none : {T : Type 0} → ((x : S) → follows x x []) → {x : S} → (y : T) → IsReady (state x) → HasRead StandsFor follows state x x (Ok y)
  read_none itself {x} y ready = record {
    map = λ m stands. stands;
    went_on = itself x;
    cause = cause_of_none y (none_yet (state x)) ready;
    never_full = λ is. absurd (cc is);
  }

  -- a run more
  pub read_on : {T U : Type 0} {old mid new : S} {x : T} {last : Result U Fault} → ((x y z : S) (rs ss : List Record) → follows x y rs → follows y z ss → follows x z (rs ++ ss))
      → HasRead StandsFor follows state old mid (Ok x) → HasRead StandsFor follows state mid new last → HasRead StandsFor follows state old new last
  read_on {T} {U} {old} {mid} {new} on first last = record {
    map = λ m stands. last.map m (first.map m stands);
    went_on = on old mid new [] [] first.went_on last.went_on;
    cause = cause_on first.cause last.cause;
    never_full = last.never_full;
  }

  module _ {T U : Type 0} {old new : S} where
    -- a fault that is passed on
    pub read_passed : {e : Fault} → HasRead {T = T} StandsFor follows state old new (Err e) → HasRead {T = U} StandsFor follows state old new (Err e)
    read_passed {e} read = record {
      map = read.map;
      went_on = read.went_on;
      cause = cause_passed read.cause;
      never_full = λ is. let same : e ≡ LogFull = cc is in read.never_full (ap Err same);
    }

    -- another answer in place of an answer
    pub read_answered : {x : T} (y : U) → HasRead StandsFor follows state old new (Ok x) → HasRead StandsFor follows state old new (Ok y)
    read_answered y read = record {
      map = read.map;
      went_on = read.went_on;
      cause = cause_answered y read.cause;
      never_full = λ is. absurd (cc is);
    }

    -- no memory was found after it
    pub read_no_memory : {x : T} → HasRead StandsFor follows state old new (Ok x) → HasRead {T = U} StandsFor follows state old new (Err NoMemory)
    read_no_memory read = record {
      map = read.map;
      went_on = read.went_on;
      cause = cause_of_no_memory (none_of read.cause) (ready_on read.cause);
      never_full = λ is. absurd (cc is);
    }

  -- after an answer the next call may be made
  pub ready_read : {T : Type 0} {old new : S} {x : T} → HasRead StandsFor follows state old new (Ok x) → IsReady (state new)
  ready_read read = ready_on read.cause
