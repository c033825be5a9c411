-- Bytes that are appended one after the other.
use Rattle.std.proofs.Common.{◌≡◌, ℕ, List, ◌++◌, ap, ◌∙◌, append_assoc}
use Rattle.dfs_record.specs.Writing.{IsGrown}

pub then : (a b c x y : List ℕ) → b ≡ a ++ x → c ≡ b ++ y → c ≡ a ++ (x ++ y)
then a b c x y e f = f ∙ ap (λ (l : List ℕ). l ++ y) e ∙ append_assoc a x y

pub grown_then : (a b c x : List ℕ) → b ≡ a ++ x → IsGrown b c → IsGrown a c
grown_then a b c x e grown = (x ++ grown.0, then a b c x grown.0 e grown.1)
