-- Whether bytes may lie at a place of a log.
use Rattle.std.specs.Prelude.{◌≤◌, ◌+◌, ℕ}
use Rattle.dfs_fence.specs.declared.fence.Fence.{Fence}

-- So many bytes, at most these, lie behind a log's header and end at a place or before it.
pub record Lies (at len most end : ℕ) : Type 0 where
  pub behind : 12 ≤ at
  pub short : len ≤ most
  pub ends : at + len ≤ end

-- a block may lie where the fence says
abbrev pub BlockLies : ℕ → Fence → Type 0
BlockLies end f = Lies f.at f.len 4096 end
