-- What a whole script writes, and what it publishes.
use Rattle.std.specs.Prelude.{ℕ, ◌+◌, List, [], ◌∷◌, ◌++◌, length, map, flat_map, drop}
use Rattle.dfs_reply.specs.declared.Reply.{Reply}
use Rattle.dfs_reply.specs.Text.{text}
use Rattle.dfs_script.specs.Script.{lines_of}
use Rattle.dfs_session.specs.Session.{Session, Registry, Publication, Step, opened, step}

-- the session after the lines
abbrev pub session_after : Session → List (List ℕ) → Session
session_after s [] = s
session_after s (line ∷ lines) = session_after (step s line).session lines

-- the replies to the lines in order
abbrev pub replies : Session → List (List ℕ) → List Reply
replies s [] = []
replies s (line ∷ lines) = let t = step s line in t.reply ∷ replies t.session lines

-- what the lines write
abbrev pub written : Session → List (List ℕ) → List ℕ
written s lines = flat_map text (replies s lines)

-- what a script writes over a registry
abbrev pub output : Registry → List ℕ → List ℕ
output registry script = written (opened registry) (lines_of script)

-- a publication, and where the reply that promises it starts and ends in what is written
pub record Promise : Type 0 where
  pub publication : Publication
  pub start : ℕ
  pub end : ℕ

-- what a step publishes, and the place of its reply
abbrev pub promise_of : ℕ → Step → Publication → Promise
promise_of at t publication = record { publication = publication; start = at; end = at + length (text t.reply) }

-- what lines publish, where so many bytes were written before them: of each line what it adds to the registry
abbrev pub promises : ℕ → Session → List (List ℕ) → List Promise
promises at s [] = []
promises at s (line ∷ lines) =
    let t = step s line in
    map (promise_of at t) (drop (length s.registry) t.session.registry) ++ promises (at + length (text t.reply)) t.session lines

-- what a script publishes over a registry
abbrev pub published : Registry → List ℕ → List Promise
published registry script = promises 0 (opened registry) (lines_of script)
