-- What is read was written.
use Rattle.std.proofs.Common.{◌≡◌, ℕ, ◌+◌, Bool, true, false, cond, List, ◌++◌, take, drop, refl, sym, ◌∙◌, ap, append_assoc}
use Rattle.std.specs.Prelude.{slice_index, Some, None}
use Rattle.std.proofs.lemmas.List.{take-append-drop}
use Rattle.dfs_registry.specs.Body.{body, fields, has_body, read_body}
use Rattle.dfs_registry.specs.Reading.{BodiesAreSpelled}
use Rattle.dfs_registry.proofs.Parsing.{whole, spelled_by, piece_fits}

passed : {A : Type 0} (test : Bool) (x y : A) → cond test (Some x) None ≡ Some y → (test ≡ true) × (x ≡ y)
passed true x y is = (refl, cc is)
passed false x y is = absurd (cc is)

pub are_spelled : BodiesAreSpelled
unfolding read_body
are_spelled b bytes are read =
    let front : List ℕ = take 92 bytes in
    let found = passed (has_body front) (fields front) b read in
    let size = 28 + slice_index front 3 in
    let spelled : take size front ≡ body b = sym (spelled_by front (piece_fits bytes are 92 0) (whole front found.0)) ∙ ap body found.1 in (
      drop size front ++ drop 92 bytes,
      sym (take-append-drop 92 bytes)
          ∙ ap (λ (l : List ℕ). l ++ drop 92 bytes) (sym (take-append-drop size front) ∙ ap (λ (l : List ℕ). l ++ drop size front) spelled)
          ∙ append_assoc (body b) (drop size front) (drop 92 bytes),
    )
