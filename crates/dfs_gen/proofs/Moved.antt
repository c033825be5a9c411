-- Bytes that go from the front of what is left into a buffer.
use Rattle.std.proofs.Common.{◌≡◌, ℕ, ◌+◌, ◌-◌, ◌≤◌, List, ◌++◌, length, take, drop, sym, ◌∙◌, ap, arith, append_assoc}
use Rattle.std.proofs.Math.Seq.{take-append-add}
use Rattle.std.proofs.lemmas.List.{take_at, take_rest, take-append-drop, drop-drop, length-take, take-append-le, drop-append-le}

-- Of a piece at the front so many bytes were given already. Some more of it are copied.
pub moved : (given count : ℕ) (piece behind lent out copy : List ℕ) → given ≤ length piece → lent ≡ piece
    → count ≤ length (take (length lent - given) (drop given lent)) → copy ≡ take count (take (length lent - given) (drop given lent))
    → drop given (piece ++ behind) ≡ take count (copy ++ out) ++ drop (given + count) (piece ++ behind)
moved given count piece behind lent out copy within same below is =
    let all = piece ++ behind in
    let left : take (length lent - given) (drop given lent) ≡ drop given piece = take_rest lent given ∙ ap (drop given) same in
    let fits : count ≤ length (drop given piece) = omega (arith, ap length left) in
    let front : copy ≡ take count (drop given all) =
    is ∙ ap (take count) left ∙ sym (take-append-le count (drop given piece) behind fits) ∙ ap (take count) (sym (drop-append-le given piece behind within)) in
    let long : length copy ≡ count = omega (arith, ap length (is ∙ ap (take count) left), length-take count (drop given piece)) in
    sym (take-append-drop count (drop given all))
    ∙ ap (λ (l : List ℕ). l ++ drop count (drop given all)) (sym front ∙ sym (take_at copy out count long))
    ∙ ap (λ (l : List ℕ). take count (copy ++ out) ++ l) (drop-drop count given all)

-- the front of a buffer is filled, and then some more behind it
pub filled_more : (filled count : ℕ) (out given behind rest : List ℕ) → filled ≤ length out → count ≤ length given
    → take filled out ++ (take count given ++ rest) ≡ take (filled + count) (take filled out ++ (given ++ behind)) ++ rest
filled_more filled count out given behind rest within fits =
    let front = take filled out in
    let long : length front ≡ filled = omega (arith, length-take filled out) in
    sym (append_assoc front (take count given) rest)
    ∙ ap (λ (l : List ℕ). (front ++ l) ++ rest) (sym (take-append-le count given behind fits))
    ∙ ap (λ (l : List ℕ). l ++ rest) (sym (take-append-add front (given ++ behind) count) ∙ ap (λ k. take (k + count) (front ++ (given ++ behind))) long)
