use Rattle.std.proofs.Common.{◌≡◌, ◌++◌, ◌∷◌, [], take, length, flat_map}
use Rattle.std.specs.Prelude.{decimal, codes}
use Rattle.dfs_reply.specs.Text.{line, listing_line}
use Rattle.dfs_reply.proofs.printing.write_listing.Given as goal

-- the count stands, and behind it the lines of the entries before the index
abbrev pub invariant-loop-index : goal.invariant-loop-index
invariant-loop-index l = l.out.items ≡ l.fn.out.items ++ (line (codes "ok" ∷ decimal (length l.listing) ∷ []) ++ flat_map listing_line (take l.index l.listing))
