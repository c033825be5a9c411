-- What a whole run has told the jobs of its script.
use Rattle.std.specs.Prelude.{◌≡◌, ◌≤◌, ℕ, List, [], ◌∷◌, ◌++◌, length, Some, Ok}
use Rattle.dfs_record.specs.declared.SnapName.{SnapName}
use Rattle.dfs_path.specs.declared.Op.{Op}
use Rattle.dfs_script.specs.declared.JobWord.{JobWord}
use Rattle.dfs_script.specs.declared.Line.TheVariants.{Begin, Space}
use Rattle.dfs_script.specs.Line.{meaning}
use Rattle.dfs_script.specs.Script.{lines_of}
use Rattle.dfs_reply.specs.declared.Reply.{Reply}
use Rattle.dfs_reply.specs.declared.Reply.TheVariants.{Job as JobReply}
use Rattle.dfs_reply.specs.Text.{text}
use Rattle.dfs_session.specs.Isolation.{TellsAlone, live_number, ops_for}
use Rattle.dfs_session.specs.Run.{session_after, written}
use Rattle.dfs_session.specs.Session.{Registry, opened, step}

-- Behind what these lines write stands the text of a reply, which tells the last answer that the job gets alone.
pub record HearsAlone (old : Registry) (lines : List (List ℕ)) (selecting : Registry) (names : List SnapName) (number : ℕ) (ops : List Op) (said : List ℕ) : Type 0 where
  pub reply : Reply
  pub more : List ℕ
  pub heard : said ≡ written (opened old) lines ++ text reply ++ more
  pub alone : TellsAlone selecting names number ops reply

-- Wherever a line of the script begins a job that lives when a later line asks an operation of it, and that line's reply was said whole, it
-- is the last of the answers that the job gets alone: by its number, by what it selected when it began, and by its own operations since.
abbrev pub AreIsolated : Registry → List ℕ → List ℕ → Type 0
AreIsolated old script said =
    (earlier later after : List (List ℕ)) (begin line : List ℕ) (w : JobWord) (names : List SnapName) (op : Op) (number : ℕ)
    → let before = session_after (opened old) earlier in
    let lines = earlier ++ begin ∷ later in
    let now = session_after (opened old) lines in
    lines_of script ≡ lines ++ line ∷ after
    → length (written (opened old) lines ++ text (step now line).reply) ≤ length said
    → meaning begin ≡ Ok (Begin w names)
    → (step before begin).reply ≡ JobReply number
    → live_number now w ≡ Some number
    → meaning line ≡ Ok (Space w op)
    → HearsAlone old lines before.registry names number (ops_for w later ++ op ∷ []) said
