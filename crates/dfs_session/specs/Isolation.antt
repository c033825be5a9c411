-- What a job is told does not depend on the other jobs.
use Rattle.std.specs.Prelude.{◌≡◌, ℕ, List, [], ◌∷◌, ◌++◌, map, filter_map, Option, Some, None, option_map, option_and_then, Ok, Result, if◌then◌else◌}
use Rattle.std.specs.Str.{bytes_eq}
use Rattle.dfs_record.specs.declared.SnapName.{SnapName}
use Rattle.dfs_record.specs.Delta.{Delta}
use Rattle.dfs_record.specs.Namespace.{Namespace, after_records, replay}
use Rattle.dfs_record.specs.Pieces.{each}
use Rattle.dfs_path.specs.declared.Op.{Op}
use Rattle.dfs_ops.specs.declared.Ids.{Ids}
use Rattle.dfs_ops.specs.declared.OpReply.{OpReply}
use Rattle.dfs_ops.specs.Op.{outcome, ids_after}
use Rattle.dfs_script.specs.declared.JobWord.{JobWord}
use Rattle.dfs_script.specs.declared.Line.{Line}
use Rattle.dfs_script.specs.declared.Line.TheVariants.{Begin, Space}
use Rattle.dfs_script.specs.declared.LineFault.{LineFault}
use Rattle.dfs_script.specs.Line.{meaning}
use Rattle.dfs_reply.specs.declared.Reply.{Reply}
use Rattle.dfs_reply.specs.declared.Reply.TheVariants.{Job as JobReply}
use Rattle.dfs_job.specs.declared.settings.Settings.{Settings}
use Rattle.dfs_job.specs.Job.{first_ids}
use Rattle.dfs_session.specs.Session.{Session, Registry, opened_with, live_job, published_as, told, step}
use Rattle.dfs_session.specs.Run.{session_after}

-- the answers to operations on a namespace that nothing else changes
abbrev pub answers_on : Namespace → Ids → List Op → List OpReply
answers_on m ids [] = []
answers_on m ids (op ∷ ops) = let o = outcome m ids op in o.answer ∷ answers_on (after_records m o.records) (ids_after ids o) ops

-- the answers that a job with the number gets alone: on what its change sets leave, where nothing but its own operations is done
abbrev pub alone : ℕ → List Delta → List Op → List OpReply
alone number basis ops = answers_on (replay basis []) (first_ids number) ops

-- the operation that a line asks of the job of a word
abbrev pub op_in : JobWord → Result Line LineFault → Option Op
op_in w (Ok (Space v op)) = if bytes_eq w v then Some op else None
op_in w _ = None

-- all that lines ask of it, in their order
abbrev pub ops_for : JobWord → List (List ℕ) → List Op
ops_for w lines = filter_map (λ line. op_in w (meaning line)) lines

-- the change set that was published under a name and is not damaged
abbrev pub change_named : Registry → SnapName → Option Delta
change_named registry name = option_and_then (λ p. p.change) (published_as registry name)

-- the change sets of the names, in their order, where each name has one
abbrev pub selected_by : Registry → List SnapName → Option (List Delta)
selected_by registry names = each (map (change_named registry) names)

-- the number of the live job of a word
abbrev pub live_number : Session → JobWord → Option ℕ
live_number s w = option_map (λ j. j.ids.job) (live_job s w)

-- The names select change sets, and the reply tells the last answer that a job with the number gets alone over them.
pub record TellsAlone (registry : Registry) (names : List SnapName) (number : ℕ) (ops : List Op) (reply : Reply) : Type 0 where
  pub basis : List Delta
  pub answers : List OpReply
  pub last : OpReply
  pub selected : selected_by registry names ≡ Some basis
  pub alone_gets : alone number basis ops ≡ answers ++ last ∷ []
  pub tells : reply ≡ told last

-- A line begins a job that still lives under its word after later lines, as its number tells. What an operation of it is then told is the
-- last of the answers that it gets alone: by its number, by what it selected when it began, and by its own operations since, this one last.
abbrev pub IsIsolated : Type 0
IsIsolated =
    (settings : Settings) (registry : Registry) (earlier later : List (List ℕ)) (begin line : List ℕ) (w : JobWord) (names : List SnapName) (op : Op) (number : ℕ)
    → let before = session_after (opened_with settings registry) earlier in
    let now = session_after (opened_with settings registry) (earlier ++ begin ∷ later) in
    meaning begin ≡ Ok (Begin w names)
    → (step before begin).reply ≡ JobReply number
    → live_number now w ≡ Some number
    → meaning line ≡ Ok (Space w op)
    → TellsAlone before.registry names number (ops_for w later ++ op ∷ []) (step now line).reply
