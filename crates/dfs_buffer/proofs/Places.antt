-- Where a key stands in chunks.
use Rattle.std.proofs.Common.{◌≡◌, ℕ, zero, suc, ◌+◌, ◌-◌, ◌<◌, ◌≤◌, Bool, true, false, T, List, [], ◌∷◌, ◌++◌, length, take, drop, get_or, nat_lt, refl, sym, ap, subst, ◌∙◌, arith, append_assoc, ltb-true, ltb-false}
use Rattle.std.specs.Prelude.{flat_map, All, HoldsAt}
use Rattle.std.specs.Ordering.{is_le, ordering_reverse}
use Rattle.std.specs.List.Sorted.{IsPartitionedBy, IsPartitionPoint}
use Rattle.std.specs.declared.cmp.Ordering.{Ordering}
use Rattle.std.specs.declared.cmp.Ordering.TheVariants.{Less, Equal, Greater}
use Rattle.std.proofs.lemmas.List.Elements.{All-nil, All-cons, All-append, All-head, All-tail, All-weaker}
use Rattle.std.proofs.lemmas.List.{get_or-take, get_or-drop, length-drop, length-take-le, take-append-drop}
use Rattle.std.proofs.Math.Seq.{drop-cons}
use Rattle.dfs_record.specs.declared.Key.{Key}
use Rattle.dfs_record.specs.declared.Record.{Record}
use Rattle.dfs_record.specs.Key.{key_cmp, keys_total, keys_exact}
use Rattle.dfs_record.specs.Records.{KeysRise, IsBelow}
use Rattle.dfs_cursor.specs.Ranges.{first, front_rises}
use Rattle.dfs_buffer.specs.Chunks.{AreBelow, AreAbove, begins_up_to, chunk_at, before, from, AreChunks, IsPlace}
use Rattle.dfs_buffer.proofs.Rising.{above_from, back_rises, apart}

-- ---- orders

up_to : (x y key : Key) → IsBelow x y → is_le (key_cmp y key) ≡ true → IsBelow x key
up_to x y key l h = by (key_cmp y key) refl h
  where
    by : (o : Ordering) → key_cmp y key ≡ o → is_le o ≡ true → IsBelow x key
    by Less e p = keys_total.trans x y key l e
    by Equal e p = subst (IsBelow x) (keys_exact y key e) l
    by Greater e p = absurd (subst T (sym p) tt)

not_up_to : (x key : Key) → is_le (key_cmp x key) ≡ false → IsBelow key x
not_up_to x key h = by (key_cmp x key) refl h
  where
    by : (o : Ordering) → key_cmp x key ≡ o → is_le o ≡ false → IsBelow key x
    by Less e p = absurd (subst T p tt)
    by Equal e p = absurd (subst T p tt)
    by Greater e p = keys_total.antisymm key x ∙ ap ordering_reverse e

-- ---- chunks

pub record HasFirst (rs : List Record) : Type 0 where
  pub head : Record
  pub others : List Record
  pub is : rs ≡ head ∷ others

first_of : (rs : List Record) → 0 < length rs → HasFirst rs
first_of [] h = absurd (omega arith)
first_of (r ∷ rs) h = record { head = r; others = rs; is = refl }

pub all_left : {A : Type 0} (P : A → Type 0) (xs ys : List A) → All P (xs ++ ys) → All P xs
all_left P [] ys h = All-nil P
all_left P (x ∷ xs) ys h = All-cons P x xs (All-head P x (xs ++ ys) h) (all_left P xs ys (All-tail P x (xs ++ ys) h))

pub all_right : {A : Type 0} (P : A → Type 0) (xs ys : List A) → All P (xs ++ ys) → All P ys
all_right P [] ys h = h
all_right P (x ∷ xs) ys h = all_right P xs ys (All-tail P x (xs ++ ys) h)

module _ {X : Type 0} (f : X → List Record) where
  pub chunk_is : (cs : List X) (i : ℕ) (e : X) → i < length cs → chunk_at f cs i ≡ f (get_or cs i e)
  chunk_is [] i e h = absurd (omega arith)
  chunk_is (c ∷ cs) zero e h = refl
  chunk_is (c ∷ cs) (suc i) e h = chunk_is cs i e (omega arith)

  pub chunk_past : (cs : List X) (i : ℕ) → length cs ≤ i → chunk_at f cs i ≡ []
  chunk_past [] i h = refl
  chunk_past (c ∷ cs) zero h = absurd (omega arith)
  chunk_past (c ∷ cs) (suc i) h = chunk_past cs i (omega arith)

  -- the same of a chunk that was read
  pub chunk_read : (cs : List X) (i : ℕ) (x : X) (rs : List Record) → true ≡ nat_lt i (length cs) → x ≡ get_or cs i x → rs ≡ f x → chunk_at f cs i ≡ rs
  chunk_read cs i x rs within at is = chunk_is cs i x (ltb-true i (length cs) (sym within)) ∙ ap f (sym at) ∙ sym is

  -- the chunks before an index, the one there, and those behind it
  pub joined_at : (cs : List X) (i : ℕ) → flat_map f cs ≡ flat_map f (take i cs) ++ (chunk_at f cs i ++ flat_map f (drop (suc i) cs))
  joined_at [] zero = refl
  joined_at [] (suc i) = refl
  joined_at (c ∷ cs) zero = refl
  joined_at (c ∷ cs) (suc i) = ap (λ l. f c ++ l) (joined_at cs i) ∙ sym (append_assoc (f c) (flat_map f (take i cs)) (chunk_at f cs i ++ flat_map f (drop (suc i) cs)))

  pub joined_place : (cs : List X) (i j : ℕ) → flat_map f cs ≡ before f cs i j ++ from f cs i j
  joined_place cs i j =
      joined_at cs i
      ∙ ap (λ l. flat_map f (take i cs) ++ (l ++ flat_map f (drop (suc i) cs))) (sym (take-append-drop j (chunk_at f cs i)))
      ∙ ap (λ l. flat_map f (take i cs) ++ l) (append_assoc (take j (chunk_at f cs i)) (drop j (chunk_at f cs i)) (flat_map f (drop (suc i) cs)))
      ∙ sym (append_assoc (flat_map f (take i cs)) (take j (chunk_at f cs i)) (from f cs i j))

  all_in : (P : Record → Type 0) (cs : List X) (i : ℕ) (e : X) → i < length cs → All P (flat_map f cs) → All P (f (get_or cs i e))
  all_in P [] i e l h = absurd (omega arith)
  all_in P (c ∷ cs) zero e l h = all_left P (f c) (flat_map f cs) h
  all_in P (c ∷ cs) (suc i) e l h = all_in P cs i e (omega arith) (all_right P (f c) (flat_map f cs) h)

  module _ (cs : List X) (all : AreChunks f cs) (key : Key) where
    abbrev begun : X → Bool
    begun c = begins_up_to key (f c)

    chunk_rises : (j : ℕ) → KeysRise (flat_map f (take j cs) ++ (chunk_at f cs j ++ flat_map f (drop (suc j) cs)))
    chunk_rises j = subst KeysRise (joined_at cs j) all.rises

    pub piece_rises : (j : ℕ) → KeysRise (chunk_at f cs j)
    piece_rises j = front_rises (chunk_at f cs j) (flat_map f (drop (suc j) cs)) (back_rises (flat_map f (take j cs)) _ (chunk_rises j))

    rest_rises : (j : ℕ) → KeysRise (flat_map f (drop (suc j) cs))
    rest_rises j = back_rises (chunk_at f cs j) _ (back_rises (flat_map f (take j cs)) _ (chunk_rises j))

    -- each record before a chunk is below those of the chunk
    before_chunk : (j : ℕ) → All (λ x. AreAbove (chunk_at f cs j) x.key) (flat_map f (take j cs))
    before_chunk j =
        All-weaker (λ x. AreAbove (chunk_at f cs j ++ flat_map f (drop (suc j) cs)) x.key) (λ x. AreAbove (chunk_at f cs j) x.key)
        (λ x. all_left (λ r. IsBelow x.key r.key) (chunk_at f cs j) (flat_map f (drop (suc j) cs)))
        (flat_map f (take j cs)) (apart (flat_map f (take j cs)) (chunk_at f cs j ++ flat_map f (drop (suc j) cs)) (chunk_rises j))

    -- each record before a chunk that begins up to the key is below the key
    below_begun : (j : ℕ) (e : X) → j < length cs → begun (get_or cs j e) ≡ true → AreBelow (flat_map f (take j cs)) key
    below_begun j e l h =
        let one = first_of (f (get_or cs j e)) (all.filled j e l) in
        let le : is_le (key_cmp one.head.key key) ≡ true = subst (λ rs. begins_up_to key rs ≡ true) one.is h in
        All-weaker (λ x. AreAbove (chunk_at f cs j) x.key) (λ x. IsBelow x.key key)
        (λ x a. up_to x.key one.head.key key (All-head (λ r. IsBelow x.key r.key) one.head one.others (subst (λ rs. AreAbove rs x.key) (chunk_is cs j e l ∙ one.is) a)) le)
        (flat_map f (take j cs)) (before_chunk j)

    pub partitioned : IsPartitionedBy begun cs
    partitioned i j d le lt h = by (nat_lt i j) refl
      where
        by : (b : Bool) → nat_lt i j ≡ b → begun (get_or cs i d) ≡ true
        by false e = let same : i ≡ j = omega (arith, ltb-false i j e) in subst (λ k. begun (get_or cs k d) ≡ true) (sym same) h
        by true e =
            let l : i < j = ltb-true i j e in
            let one = first_of (f (get_or cs i d)) (all.filled i d (omega arith)) in
            let inside : i < length (take j cs) = omega (arith, length-take-le j cs (omega arith)) in
            let below = all_in (λ x. IsBelow x.key key) (take j cs) i d inside (below_begun j d lt h) in
            let head = All-head (λ x. IsBelow x.key key) one.head one.others (subst (λ rs. AreBelow rs key) (ap f (get_or-take j cs i d l) ∙ one.is) below) in
            subst (λ rs. begins_up_to key rs ≡ true) (sym one.is) (ap is_le head)

    above_rest : (rest : List X) → KeysRise (flat_map f rest) → ((c : X) (others : List X) → rest ≡ c ∷ others → (begun c ≡ false) × (0 < length (f c))) → AreAbove (flat_map f rest) key
    above_rest [] rise h = All-nil (λ r. IsBelow key r.key)
    above_rest (c ∷ others) rise h =
        let it = h c others refl in
        let one = first_of (f c) it.1 in
        let low : IsBelow key one.head.key = not_up_to one.head.key key (subst (λ rs. begins_up_to key rs ≡ false) one.is it.0) in
        let all_of : flat_map f (c ∷ others) ≡ one.head ∷ (one.others ++ flat_map f others) = ap (λ l. l ++ flat_map f others) one.is in
        subst (λ rs. AreAbove rs key) (sym all_of) (All-cons (λ r. IsBelow key r.key) one.head (one.others ++ flat_map f others) low
        (All-weaker (λ r. IsBelow one.head.key r.key) (λ r. IsBelow key r.key) (λ r a. keys_total.trans key one.head.key r.key low a) (one.others ++ flat_map f others)
        (above_from one.head.key (one.others ++ flat_map f others) (first _ _ (subst KeysRise all_of rise)))))

    module _ (m i : ℕ) (point : IsPartitionPoint (λ c. begun c ≡ true) (λ c. begun c ≡ false) cs m) (most : m ≤ length cs) (is : i ≡ m - 1) where
      below_chunks : AreBelow (flat_map f (take i cs)) key
      below_chunks = by m refl
        where
          by : (n : ℕ) → m ≡ n → AreBelow (flat_map f (take i cs)) key
          by zero e = let none : i ≡ 0 = omega arith in subst (λ k. AreBelow (flat_map f (take k cs)) key) (sym none) (All-nil (λ r. IsBelow r.key key))
          by (suc n) e = from_head cs refl
            where
              from_head : (ds : List X) → cs ≡ ds → AreBelow (flat_map f (take i cs)) key
              from_head [] none = absurd (omega (arith, ap length none))
              from_head (c ∷ ds) some = below_begun i c (omega arith) (point.0 i c (omega arith) (omega arith))

      above_chunks : AreAbove (flat_map f (drop (suc i) cs)) key
      above_chunks = above_rest (drop (suc i) cs) (rest_rises i) (λ c others e.
          let l : suc i + 0 < length cs = omega (arith, ap length e, length-drop (suc i) cs) in
          let here : get_or cs (suc i + 0) c ≡ c = sym (get_or-drop (suc i) cs 0 c) ∙ ap (λ rs. get_or rs 0 c) e in (
            subst (λ x. begun x ≡ false) here (point.1 (suc i + 0) c (omega arith) l),
            subst (λ x. 0 < length (f x)) here (all.filled (suc i + 0) c l),
          ))

      here : 0 < length cs → i < length cs
      here h = omega arith

      pub place_found : (j : ℕ) → j < length (chunk_at f cs i) → HoldsAt (λ r. r.key ≡ key) (chunk_at f cs i) j → IsPlace f cs key i j true
      place_found j l at =
          let d = (first_of (chunk_at f cs i) (omega arith)).head in
          let r = get_or (chunk_at f cs i) j d in
          let split : drop j (chunk_at f cs i) ≡ r ∷ drop (suc j) (chunk_at f cs i) = drop-cons (chunk_at f cs i) j d l in
          let p = chunk_at f cs i in
          let up : All (λ x. AreAbove (drop j p) x.key) (take j p) = apart (take j p) (drop j p) (subst KeysRise (sym (take-append-drop j p)) (piece_rises i)) in
          record {
            within = omega arith;
            inside = λ _. l;
            here = here;
            below = All-append (λ x. IsBelow x.key key) (flat_map f (take i cs)) (take j p) below_chunks
                (All-weaker (λ x. AreAbove (drop j p) x.key) (λ x. IsBelow x.key key)
                (λ x a. subst (IsBelow x.key) (at d) (All-head (λ y. IsBelow x.key y.key) r (drop (suc j) p) (subst (λ rs. AreAbove rs x.key) split a)))
                (take j p) up);
            above = (r, drop (suc j) p ++ flat_map f (drop (suc i) cs), ap (λ l. l ++ flat_map f (drop (suc i) cs)) split, at d);
          }

      pub place_free : (j : ℕ) → j ≤ length (chunk_at f cs i) → AreBelow (take j (chunk_at f cs i)) key → AreAbove (drop j (chunk_at f cs i)) key → IsPlace f cs key i j false
      place_free j l below above = record {
        within = l;
        inside = λ h. absurd cc;
        here = here;
        below = All-append (λ x. IsBelow x.key key) (flat_map f (take i cs)) (take j (chunk_at f cs i)) below_chunks below;
        above = All-append (λ x. IsBelow key x.key) (drop j (chunk_at f cs i)) (flat_map f (drop (suc i) cs)) above above_chunks;
      }

-- the first record from a place on is the one that was read there
pub first_read : {X : Type 0} (f : X → List Record) (cs : List X) (i j : ℕ) (r : Record) → j < length (chunk_at f cs i) → get_or (chunk_at f cs i) j r ≡ r → (others : List Record) × (from f cs i j ≡ r ∷ others)
first_read f cs i j r l at =
    let p = chunk_at f cs i in
    (drop (suc j) p ++ flat_map f (drop (suc i) cs), ap (λ q. q ++ flat_map f (drop (suc i) cs)) (drop-cons p j r l ∙ ap (λ y. y ∷ drop (suc j) p) at))
