-- Publications found by name.
use Rattle.std.proofs.Common.{◌≡◌, ℕ, Bool, true, false, cond, ◌||◌, List, [], ◌∷◌, ◌++◌, Option, None, Some, is_some, map, max, refl, subst, sym, ◌∙◌, ap}
use Rattle.std.specs.List.{find, list_any}
use Rattle.std.specs.Map.{values_of, lookup}
use Rattle.std.specs.Str.{bytes_eq}
use Rattle.std.proofs.lemmas.List.{map-append}
use Rattle.dfs_registry.specs.declared.listed.Listed.{Listed}
use Rattle.dfs_registry.specs.Body.{has_name, lists_name, greatest_job}
use Rattle.dfs_registry.specs.Seen.{AreNamed, IsIndexed}
use Rattle.dfs_registry.proofs.Jobs.{greatest-push}

first_named : (e : List ℕ × Listed) (es : List (List ℕ × Listed)) → AreNamed (e ∷ es) → e.0 ≡ e.1.name
first_named e es named = cc

rest_named : (e : List ℕ × Listed) (es : List (List ℕ × Listed)) → AreNamed (e ∷ es) → AreNamed es
rest_named e es named = cc

-- what the index finds at a name is the first publication that has it
pub lookup-named : (name : List ℕ) (es : List (List ℕ × Listed)) → AreNamed es → lookup (bytes_eq name) es ≡ find (has_name name) (values_of es)
lookup-named name [] named = refl
lookup-named name (e ∷ es) named =
    ap (λ (k : List ℕ). cond (bytes_eq name k) (Some e.1) (lookup (bytes_eq name) es)) (first_named e es named)
    ∙ ap (λ (o : Option Listed). cond (bytes_eq name e.1.name) (Some e.1) o) (lookup-named name es (rest_named e es named))

found : (t u : Bool) (b : Listed) (o : Option Listed) → is_some o ≡ u → is_some (cond t (Some b) o) ≡ (t || u)
found true u b o is = refl
found false u b o is = is

is_some-find : (test : Listed → Bool) (bs : List Listed) → is_some (find test bs) ≡ list_any test bs
is_some-find test [] = refl
is_some-find test (b ∷ bs) = found (test b) (list_any test bs) b (find test bs) (is_some-find test bs)

-- the index has a name exactly where a publication has it
pub is_some-named : (name : List ℕ) (es : List (List ℕ × Listed)) → AreNamed es → is_some (lookup (bytes_eq name) es) ≡ lists_name (values_of es) name
is_some-named name es named = ap is_some (lookup-named name es named) ∙ is_some-find (has_name name) (values_of es)

none_of : {A : Type 0} (o : Option A) → is_some o ≡ false → o ≡ None
none_of None none = refl
none_of (Some x) none = cc

pub lookup-unlisted : (name : List ℕ) (es : List (List ℕ × Listed)) → AreNamed es → lists_name (values_of es) name ≡ false → lookup (bytes_eq name) es ≡ None
lookup-unlisted name es named new = none_of _ (is_some-named name es named ∙ new)

pub values_of-push : (es : List (List ℕ × Listed)) (name : List ℕ) (b : Listed) → values_of (es ++ (name, b) ∷ []) ≡ values_of es ++ b ∷ []
values_of-push es name b = map-append (λ (e : List ℕ × Listed). e.1) es ((name, b) ∷ [])

pub named_push : (es : List (List ℕ × Listed)) (name : List ℕ) (b : Listed) → AreNamed es → name ≡ b.name → AreNamed (es ++ (name, b) ∷ [])
named_push es name b named is =
    map-append (λ (e : List ℕ × Listed). e.0) es ((name, b) ∷ [])
    ∙ ap (λ (l : List (List ℕ)). l ++ name ∷ []) named
    ∙ ap (λ (k : List ℕ). map (λ (x : Listed). x.name) (values_of es) ++ k ∷ []) is
    ∙ sym (ap (λ (l : List Listed). map (λ (x : Listed). x.name) l) (values_of-push es name b) ∙ map-append (λ (x : Listed). x.name) (values_of es) (b ∷ []))

pub indexed_push : {es new : List (List ℕ × Listed)} {job greatest : ℕ} {name : List ℕ} (b : Listed) → IsIndexed es job → name ≡ b.name
    → new ≡ es ++ (name, b) ∷ [] → greatest ≡ max job b.job → IsIndexed new greatest
indexed_push {es} {new} {job} {greatest} {name} b is named pushed more = record {
  named = subst AreNamed (sym pushed) (named_push es name b is.named named);
  greatest = more ∙ ap (λ n. max n b.job) is.greatest ∙ sym (ap (λ (l : List (List ℕ × Listed)). greatest_job (values_of l)) pushed ∙ ap greatest_job (values_of-push es name b) ∙ greatest-push (values_of es) b);
}
