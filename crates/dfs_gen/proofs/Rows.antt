-- Scripts and summaries that are known.
use Rattle.std.proofs.Common.{◌≡◌, ℕ, List, [], ◌∷◌, codes, refl}
use Rattle.std.specs.Fmt.{digits}
use Rattle.dfs_gen.specs.Script.{script}
use Rattle.dfs_gen.specs.Summary.{counts_of, counted, summary_text}

no_creates : script 0 ≡ codes "begin z\nz list /\nz drop\n"
unfolding digits script
no_creates = refl

three_creates : script 3 ≡ codes "begin w\nw mkdir /d0 755 0\nw create /d0/f0 644 0 0 r0\nw create /d0/f1 644 1 1 r1\nw create /d0/f2 644 2 2 r2\nw plan all 4\nw part 3\nw part 1\nw part 0\nw part 2\nw publish g0\nbegin z g0\nz list /d0\nz drop\n"
unfolding digits script
three_creates = refl

-- the replies to the last script
replies : List (List ℕ)
replies = codes "ok job 1\n" ∷ codes "ok\n" ∷ codes "ok\n" ∷ codes "ok\n" ∷ codes "ok\n" ∷ codes "ok\n" ∷ codes "ok\n" ∷ codes "ok\n" ∷ codes "ok\n" ∷ codes "ok merged\n"
    ∷ codes "ok published g0 4\n" ∷ codes "ok job 2\n" ∷ codes "ok 3\nf0 file 0644 0 0 r0\nf1 file 0644 1 1 r1\nf2 file 0644 2 2 r2\n" ∷ codes "ok\n" ∷ []

their_summary : summary_text (counts_of replies) ≡ codes "lines 14 ok 14 error 0 bytes 138\n"
unfolding digits replies
their_summary = refl

-- an empty reply is none, and one of several lines is one
few_replies : summary_text (counts_of (codes "ok 1\ns 1\n" ∷ [] ∷ codes "error nojob\n" ∷ codes "s\n" ∷ [])) ≡ codes "lines 3 ok 1 error 1 bytes 23\n"
unfolding digits
few_replies = refl

-- a number stays at the last one of 64 bits
greatest : counted (record { said = 18446744073709551615; ok = 18446744073709551614; error = 7; bytes = 18446744073709551614 }) (codes "ok\n")
    ≡ record { said = 18446744073709551615; ok = 18446744073709551615; error = 7; bytes = 18446744073709551615 }
greatest = refl
