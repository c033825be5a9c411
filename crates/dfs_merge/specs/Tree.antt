-- The matches between sources, by which the one that stands first is known.
use Rattle.std.specs.Prelude.{◌≡◌, ℕ, ◌+◌, ◌-◌, ◌/◌, ◌<◌, ◌≤◌, false, Option, Some, None, List, length, slice_index_or}
use Rattle.std.specs.Ordering.{is_lt}
use Rattle.dfs_record.specs.declared.Key.{Key}
use Rattle.dfs_record.specs.declared.Record.{Record}
use Rattle.dfs_record.specs.Records.{Files}
use Rattle.dfs_merge.specs.declared.tree.Tree.{Tree}
use Rattle.dfs_merge.specs.declared.tree.Tree.TheVariants.{Source as Player, Match'}
use Rattle.dfs_merge.specs.Sources.{Source, ended, sources}
use Rattle.dfs_merge.specs.Rank.{rank_at, rank_cmp, better_of, OthersPassed}

abbrev pub winner_of : Tree → ℕ
winner_of (Player i) = i
winner_of (Match' winner middle p left q right) = winner

-- the sources from `low` up to, not with, `high` stand side by side, each match is between two halves, and has the
-- better of their winners
abbrev pub IsTournament : List Source → ℕ → ℕ → Tree → Type 0
IsTournament ss low high (Player i) = (i ≡ low) × (high ≡ low + 1)
IsTournament ss low high (Match' winner middle p left q right) =
    (middle ≡ low + (high - low) / 2) × (winner ≡ better_of ss (winner_of left) (winner_of right)) × IsTournament ss low middle left × IsTournament ss middle high right

-- all sources stand in the tree, and there is none where there is no source
abbrev pub IsTreeOf : List Source → Option Tree → Type 0
IsTreeOf ss None = length ss ≡ 0
IsTreeOf ss (Some tree) = IsTournament ss 0 (length ss) tree

-- a tree that was right before this source changed is right
abbrev pub AreReplayed : List Source → ℕ → Tree → Tree → Type 0
AreReplayed new source old_tree new_tree =
    (low high : ℕ) (old : List Source) → ((i : ℕ) → ¬ (i ≡ source) → slice_index_or new i ended ≡ slice_index_or old i ended)
    → IsTournament old low high old_tree → IsTournament new low high new_tree

-- where a tree is right and none of its sources stands before the first one, the first key is taken off them, and the
-- tree is right again
abbrev pub ArePassedIn : {S : Type 0} → (S → List Record) → (S → ℕ) → (S → Option Key) → (S → Files → List Record → Type 0) → ℕ → Tree → Tree → List S → List S → Type 0
ArePassedIn rest unread bound Comes first old_tree new_tree old new =
    (low high : ℕ) → IsTournament (sources rest unread bound old) low high old_tree
    → ((i : ℕ) → low ≤ i → i < high → is_lt (rank_cmp (rank_at (sources rest unread bound old) i) (rank_at (sources rest unread bound old) first)) ≡ false)
    → OthersPassed rest unread bound Comes first low high old new × IsTournament (sources rest unread bound new) low high new_tree
