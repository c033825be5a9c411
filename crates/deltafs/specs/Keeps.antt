-- What a crash at any moment leaves of a run that says its replies.
use Rattle.std.specs.Prelude.{◌≡◌, ℕ, ◌+◌, ◌≤◌, ◌⊎◌, List, ◌++◌, length, map, take, nat_le, slice_get, Some}
use Rattle.std.specs.List.{count_by}
use Rattle.dfs_host.specs.Disk.{Image}
use Rattle.dfs_reply.specs.Text.{text}
use Rattle.dfs_session.specs.Files.{value}
use Rattle.dfs_session.specs.Images.{Holds}
use Rattle.dfs_session.specs.Session.{Registry, Step}
use Rattle.dfs_session.specs.Run.{Promise, output, published}

-- how many publications were acknowledged: their replies end within what was said
abbrev pub acknowledged : List ℕ → List Promise → ℕ
acknowledged said promises = count_by (λ p. nat_le p.end (length said)) promises

-- the registry with the first publications of a run
abbrev pub with_first : Registry → ℕ → List Promise → Registry
with_first old n promises = old ++ map (λ p. p.publication) (take n promises)

-- The files stand for one publication more than was acknowledged, and what was said reaches at least the start of its reply.
pub record IsAhead (old : Registry) (promises : List Promise) (image : Image) : Type 0 where
  pub next : Promise
  pub is_next : slice_get promises (acknowledged image.said promises) ≡ Some next
  pub reached : next.start ≤ length image.said
  pub stands : value image.files ≡ Some (with_first old (acknowledged image.said promises + 1) promises)

-- What an image has said begins the output of the script. Its files stand for the old registry and the acknowledged publications, or one more.
pub record KeepsReplies (old : Registry) (script : List ℕ) (image : Image) : Type 0 where
  pub unsaid : List ℕ
  pub begins : output old script ≡ image.said ++ unsaid
  pub stands : (value image.files ≡ Some (with_first old (acknowledged image.said (published old script)) (published old script))) ⊎ IsAhead old (published old script) image

-- An image that has said so much and nothing of a line's reply, and stands for the registry before the line.
pub record IsBeforeReply (before : Registry) (so_far : List ℕ) (image : Image) : Type 0 where
  pub said : image.said ≡ so_far
  pub holds : Holds before image

-- An image that has said the front of a line's reply behind it, and stands for the registry after the line.
pub record IsInReply (t : Step) (so_far : List ℕ) (image : Image) : Type 0 where
  pub count : ℕ
  pub said : image.said ≡ so_far ++ take count (text t.reply)
  pub holds : Holds t.session.registry image
