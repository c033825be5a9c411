-- How long blocks and indexes are.
use Rattle.std.proofs.Common.{◌≤◌, ◌+◌, ◌*◌, ◌∷◌, [], List, length, arith}
use Rattle.std.specs.Int.{w16, w32, to_be_bytes}
use Rattle.std.specs.List.{AllByRecursion, flat_map}
use Rattle.std.proofs.lemmas.List.{length-append}
use Rattle.dfs_record.specs.declared.Record.{Record}
use Rattle.dfs_record.specs.Record.{IsRecord, spelling}
use Rattle.dfs_record.proofs.Lengths.{spelled_short}
use Rattle.dfs_block.specs.Block.{IsBlock, block_bytes, most_bytes}
use Rattle.dfs_fence.specs.declared.fence.Fence.{Fence}
use Rattle.dfs_fence.specs.Index.{IsIndex, fence_bytes, index_bytes}
use Rattle.dfs_fence.proofs.Indexes.{fences_length}

spellings_short : (rs : List Record) → AllByRecursion IsRecord rs → length (flat_map spelling rs) ≤ 539 * length rs
spellings_short [] valid = omega arith
spellings_short (r ∷ rs) valid = omega (arith, spelled_short r valid.0, spellings_short rs valid.1, length-append (spelling r) (flat_map spelling rs))

-- a block, and what its fence may cost in an index of its own
pub block_cost : (rs : List Record) → IsBlock (block_bytes rs) rs → length (block_bytes rs) + 546 ≤ 1100 * length rs
block_cost rs is = omega (arith, spellings_short rs is.valid, is.some, length-append (to_be_bytes w16 (length rs)) (flat_map spelling rs))

pub index_cost : (fs : List Fence) → IsIndex (index_bytes fs) fs → length (index_bytes fs) ≤ 546 * length fs
index_cost fs is = omega (arith, fences_length fs is.fences.each, is.some, length-append (to_be_bytes w32 (length fs)) (flat_map fence_bytes fs))

-- a record alone fits into a block
pub alone_fits : (r : Record) → IsRecord r → length (block_bytes (r ∷ [])) ≤ most_bytes
alone_fits r valid = omega (arith, spelled_short r valid, length-append (to_be_bytes w16 1) (flat_map spelling (r ∷ [])), length-append (spelling r) [])
