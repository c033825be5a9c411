-- What stands at a gate, read from a piece of 93 bytes.
use Rattle.std.proofs.Common.{◌≡◌, ℕ, suc, ◌+◌, ◌-◌, ◌<◌, ◌≤◌, min, Bool, true, false, cond, ◌&&◌, List, [], ◌∷◌, ◌++◌, length, take, drop, refl, sym, ◌∙◌, ap, subst, arith, length-take, length-drop}
use Rattle.std.specs.Prelude.{slice_index, Some, None, is_some, Result, Ok, Err, OnErr, ◌==◌, nat_lt}
use Rattle.std.proofs.lemmas.List.{take_all, take_rest, take-take, drop-take, take_at, take_min, drop_more}
use Rattle.std.proofs.lemmas.Bool.{and_right, and_parts, ltb-true, eqb-true, lt-ltb, le-ltb, cond-true, cond-false}
use Rattle.dfs_registry.specs.declared.listed.Listed.{Listed}
use Rattle.dfs_registry.specs.declared.gate.Gate.{Gate}
use Rattle.dfs_registry.specs.declared.gate.Gate.TheVariants.{Closed, Broken, Open}
use Rattle.dfs_registry.specs.Body.{body, fields, has_body, read_body}
use Rattle.dfs_registry.specs.Reading.{is_open, step, AreBytes, IsBody}
use Rattle.dfs_registry.specs.Opening.{IsGate, FitsBody, IsOpened, IsBroken, HoldsBody}
use Rattle.dfs_registry.proofs.Bodies.{short_name}
use Rattle.dfs_registry.proofs.Parsing.{Whole, whole, named, spelled_by, is_body}

pub shut_short : (p : List ℕ) → length p < 2 → is_open p ≡ false
unfolding is_open
shut_short p short = and_right _ _ (le-ltb 1 (length p) (omega arith))

and_true : (a b : Bool) → b ≡ true → a ≡ (a && b)
and_true true b is = sym is
and_true false b is = refl

pub open_where_one : (p : List ℕ) → 1 < length p → (slice_index p 0 == 1) ≡ is_open p
unfolding is_open
open_where_one p long = and_true _ _ (lt-ltb 1 (length p) long)

pub shut_where_short : (p : List ℕ) → length p ≤ 1 → nat_lt 1 (length p) ≡ is_open p
shut_where_short p short = le-ltb 1 (length p) short ∙ sym (shut_short p (omega arith))

pub opened_long : (p : List ℕ) → is_open p ≡ true → 2 ≤ length p
unfolding is_open
opened_long p is = let long : 1 < length p = ltb-true 1 (length p) (and_parts (slice_index p 0 == 1) (nat_lt 1 (length p)) is).1 in omega arith

pub opened_one : (p : List ℕ) → is_open p ≡ true → slice_index p 0 ≡ 1
unfolding is_open
opened_one p is = eqb-true (slice_index p 0) 1 (and_parts (slice_index p 0 == 1) (nat_lt 1 (length p)) is).0

module _ (p : List ℕ) (short : length p ≤ 93) where
  rest_is : take (length p - 1) (drop 1 p) ≡ take 92 (drop 1 p)
  rest_is = take_rest p 1 ∙ sym (take_all 92 (drop 1 p) (omega (arith, length-drop 1 p)))

  pub broken : is_open p ≡ true → has_body (take (length p - 1) (drop 1 p)) ≡ false → IsBroken p
  unfolding read_body
  broken opened none = record { opened = opened; read = cond-false _ _ _ (ap has_body (sym rest_is) ∙ none) }

  pub readable : is_open p ≡ true → has_body (take (length p - 1) (drop 1 p)) ≡ true → HoldsBody p
  unfolding read_body
  readable opened has = record { opened = opened; read = ap is_some (cond-true _ _ _ (ap has_body (sym rest_is) ∙ has)) }

  pub opened : AreBytes (take (length p - 1) (drop 1 p)) → is_open p ≡ true → has_body (take (length p - 1) (drop 1 p)) ≡ true → (b : Listed) → b ≡ fields (take (length p - 1) (drop 1 p)) → IsOpened p b
  unfolding read_body
  opened bytes open_gate has b is = record {
    opened = open_gate;
    read = cond-true _ _ _ (ap has_body (sym rest_is) ∙ has) ∙ ap (λ (l : List ℕ). Some (fields l)) (sym rest_is) ∙ ap Some (sym is);
    spelled = take_front;
  }
    where
      rest : List ℕ
      rest = take (length p - 1) (drop 1 p)

      w : Whole rest
      w = whole rest has

      name_long : length b.name ≡ slice_index rest 3
      name_long = ap (λ (x : Listed). length x.name) is ∙ named rest w

      body_is : body b ≡ take (28 + slice_index rest 3) rest
      body_is = ap body is ∙ spelled_by rest bytes w

      split : p ≡ 1 ∷ drop 1 p
      split = drop_more p 0 0 (omega (arith, opened_long p open_gate)) ∙ ap (λ n. n ∷ drop 1 p) (opened_one p open_gate)

      take_front : take (step b) p ≡ 1 ∷ body b
      take_front = ap (take (step b)) split ∙ stepped (28 + length b.name) (step b) 1 (drop 1 p) refl
          ∙ ap (λ (l : List ℕ). 1 ∷ l) (ap (λ (l : List ℕ). take (28 + length b.name) l) (sym (take_rest p 1)) ∙ ap (λ n. take (28 + n) rest) name_long ∙ sym body_is)
        where
          stepped : (n m x : ℕ) (l : List ℕ) → m ≡ 1 + n → take m (x ∷ l) ≡ x ∷ take n l
          stepped n m x l is = ap (λ k. take k (x ∷ l)) (let more : m ≡ suc n = omega arith in more)

-- a fact that holds anyhow
pub on_error : {T E P : Type 0} (r : Result T E) → P → OnErr r P
on_error (Ok x) p = tt
on_error (Err e) p = p

pub fits : (l : List ℕ) → AreBytes l → has_body l ≡ true → (b : Listed) → b ≡ fields l → IsBody b
fits l bytes has b is = subst IsBody (sym is) (is_body l bytes (whole l has))

is_open_take : (l : List ℕ) → is_open (take 93 l) ≡ is_open l
unfolding is_open
is_open_take [] = refl
is_open_take (x ∷ []) = refl
is_open_take (x ∷ y ∷ l) = ap (λ t. (x == 1) && t) (lt-ltb 1 (length (x ∷ y ∷ take 91 l)) (omega arith) ∙ sym (lt-ltb 1 (length (x ∷ y ∷ l)) (omega arith)))

read_body_take : (l : List ℕ) → read_body (drop 1 (take 93 l)) ≡ read_body (drop 1 l)
unfolding read_body
read_body_take l = ap (λ (m : List ℕ). cond (has_body (take 92 m)) (Some (fields (take 92 m))) None) (drop-take 1 92 l) ∙ ap (λ (m : List ℕ). cond (has_body m) (Some (fields m)) None) (take-take 92 92 (drop 1 l) (omega arith))

-- what a piece shows holds of the whole
pub of_whole : (l : List ℕ) (g : Gate) → IsGate (take 93 l) g → FitsBody g → IsGate l g
of_whole l Closed is fit = sym (is_open_take l) ∙ is
of_whole l Broken is fit = record { opened = sym (is_open_take l) ∙ is.opened; read = sym (read_body_take l) ∙ is.read }
of_whole l (Open b) is fit = record {
  opened = sym (is_open_take l) ∙ is.opened;
  read = sym (read_body_take l) ∙ is.read;
  spelled = sym (take-take (step b) 93 l (omega (arith, short_name b fit.listable))) ∙ is.spelled;
}

-- a body that a piece holds is read in the whole
pub held_by_whole : (l : List ℕ) → HoldsBody (take 93 l) → HoldsBody l
held_by_whole l held = record { opened = sym (is_open_take l) ∙ held.opened; read = ap is_some (sym (read_body_take l)) ∙ held.read }

-- the part of the buffer that was filled
pub filled : (file out old : List ℕ) (at count : ℕ) → length old ≡ 93 → count ≡ min (length old) (length file - at) → out ≡ take count (drop at file) ++ drop count old → take count out ≡ take 93 (drop at file)
filled file out old at count size is has =
    let all : count ≡ min 93 (length (drop at file)) = omega (arith, is, size, length-drop at file) in
    ap (take count) has ∙ take_at (take count (drop at file)) (drop count old) count (omega (arith, length-take count (drop at file), all)) ∙ ap (λ n. take n (drop at file)) all ∙ take_min 93 (drop at file)
