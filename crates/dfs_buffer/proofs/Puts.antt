-- What a put does to the change set of records whose keys rise.
use Rattle.std.proofs.Common.{◌≡◌, Bool, true, false, cond, not, T, ◌&&◌, List, [], ◌∷◌, ◌++◌, suc, ◌-◌, ◌<◌, ◌≤◌, ◌+◌, length, take, drop, get_or, ◌==◌, eqb-true, arith, refl, sym, ap, subst, ◌∙◌}
use Rattle.std.specs.Prelude.{Some, None, is_some, All, flat_map, Result, Ok, Err, OnOk, OnErr}
use Rattle.std.specs.Ordering.{eq_by_cmp, is_eq, is_lt}
use Rattle.std.specs.FinMap.Entries.{below_all, length-put}
use Rattle.std.specs.Ordering.{ordering_reverse}
use Rattle.std.proofs.lemmas.List.Sums.{fold-append}
use Rattle.std.proofs.lemmas.List.{take_all}
use Rattle.dfs_buffer.specs.Buffer.{Buffered, StandsFor}
use Rattle.std.proofs.lemmas.List.Elements.{All-cons, All-append, All-head, All-tail}
use Rattle.dfs_record.specs.declared.Key.{Key}
use Rattle.dfs_record.specs.declared.Record.{Record}
use Rattle.dfs_record.specs.declared.Value.{Value}
use Rattle.dfs_record.specs.Key.{key_cmp, keys_total}
use Rattle.dfs_record.specs.KeyMap.{get, insert, empty, len}
use Rattle.dfs_record.specs.Delta.{Delta, with_record, delta, or_else, last_value}
use Rattle.dfs_record.specs.Record.{IsRecord, IsValue}
use Rattle.dfs_record.specs.Records.{KeysRise, IsBelow}
use Rattle.dfs_record.proofs.Maps.{get-insert, same_map, alike_keys, same_key}
use Rattle.dfs_record.proofs.Replays.{get-with_records, get-delta}
use Rattle.dfs_cursor.specs.Ranges.{pairs, first, second}
use Rattle.dfs_buffer.specs.Chunks.{AreBelow, AreAbove, BeginsWith, IsReplaced, AreChunks, chunk_limit}
use Rattle.dfs_buffer.proofs.Rising.{above_from, above_to, back_rises}
use Rattle.dfs_buffer.proofs.Places.{all_left, all_right}

-- a key below all records is none of theirs
absent : (q : Key) (rs : List Record) → AreAbove rs q → last_value q rs ≡ None
absent q [] h = refl
absent q (r ∷ rs) h =
    ap (λ o. or_else o (cond (eq_by_cmp key_cmp q r.key) (Some r.value) None)) (absent q rs (All-tail (λ x. IsBelow q x.key) r rs h))
    ∙ ap (λ o. cond (is_eq o) (Some r.value) None) (All-head (λ x. IsBelow q x.key) r rs h)

-- what stands before a record and behind it, where none behind it has its key
get_parts : (a b : List Record) (r : Record) (q : Key) → get (delta (a ++ r ∷ b)) q ≡ or_else (last_value q b) (cond (eq_by_cmp key_cmp q r.key) (Some r.value) (get (delta a) q))
get_parts a b r q =
    ap (λ d. get d q) (fold-append with_record empty a (r ∷ b))
    ∙ get-with_records (with_record (delta a) r) b q
    ∙ ap (or_else (last_value q b)) (get-insert (delta a) r.key r.value q)

get_front : (a b : List Record) (q : Key) → get (delta (a ++ b)) q ≡ or_else (last_value q b) (get (delta a) q)
get_front a b q = ap (λ d. get d q) (fold-append with_record empty a b) ∙ get-with_records (delta a) b q

module _ (a b : List Record) (r : Record) (above : AreAbove b r.key) where
  -- the put of a key that none has
  pub delta_free : delta (a ++ r ∷ b) ≡ with_record (delta (a ++ b)) r
  delta_free = same_map _ _ (λ q. get_parts a b r q ∙ by q (eq_by_cmp key_cmp q r.key) refl ∙ sym (get-insert (delta (a ++ b)) r.key r.value q))
    where
      by : (q : Key) (t : Bool) → eq_by_cmp key_cmp q r.key ≡ t → or_else (last_value q b) (cond (eq_by_cmp key_cmp q r.key) (Some r.value) (get (delta a) q)) ≡ cond (eq_by_cmp key_cmp q r.key) (Some r.value) (get (delta (a ++ b)) q)
      by q true e = ap (λ t. or_else (last_value q b) (cond t (Some r.value) (get (delta a) q))) e ∙ ap (λ o. or_else o (Some r.value)) (ap (λ k. last_value k b) (alike_keys q r.key e) ∙ absent r.key b above) ∙ sym (ap (λ t. cond t (Some r.value) (get (delta (a ++ b)) q)) e)
      by q false e = ap (λ t. or_else (last_value q b) (cond t (Some r.value) (get (delta a) q))) e ∙ sym (get_front a b q) ∙ sym (ap (λ t. cond t (Some r.value) (get (delta (a ++ b)) q)) e)

  -- the put of a key that stands there
  pub delta_found : (v : Value) → delta (a ++ record r { value = v } ∷ b) ≡ insert (delta (a ++ r ∷ b)) r.key v
  delta_found v = same_map _ _ (λ q. get_parts a b (record r { value = v }) q ∙ by q (eq_by_cmp key_cmp q r.key) refl ∙ sym (get-insert (delta (a ++ r ∷ b)) r.key v q))
    where
      by : (q : Key) (t : Bool) → eq_by_cmp key_cmp q r.key ≡ t → or_else (last_value q b) (cond (eq_by_cmp key_cmp q r.key) (Some v) (get (delta a) q)) ≡ cond (eq_by_cmp key_cmp q r.key) (Some v) (get (delta (a ++ r ∷ b)) q)
      by q true e = ap (λ t. or_else (last_value q b) (cond t (Some v) (get (delta a) q))) e ∙ ap (λ o. or_else o (Some v)) (ap (λ k. last_value k b) (alike_keys q r.key e) ∙ absent r.key b above) ∙ sym (ap (λ t. cond t (Some v) (get (delta (a ++ r ∷ b)) q)) e)
      by q false e =
          ap (λ t. or_else (last_value q b) (cond t (Some v) (get (delta a) q))) e
          ∙ sym (ap (λ t. or_else (last_value q b) (cond t (Some r.value) (get (delta a) q))) e)
          ∙ sym (get_parts a b r q)
          ∙ sym (ap (λ t. cond t (Some v) (get (delta (a ++ r ∷ b)) q)) e)

absent_below : (q : Key) (rs : List Record) → AreBelow rs q → last_value q rs ≡ None
absent_below q [] h = refl
absent_below q (r ∷ rs) h =
    ap (λ o. or_else o (cond (eq_by_cmp key_cmp q r.key) (Some r.value) None)) (absent_below q rs (All-tail (λ x. IsBelow x.key q) r rs h))
    ∙ ap (λ o. cond (is_eq o) (Some r.value) None) (keys_total.antisymm q r.key ∙ ap ordering_reverse (All-head (λ x. IsBelow x.key q) r rs h))

-- what a key has where it would stand between records, and where it stands
pub value_free : (a back old : List Record) (key : Key) → old ≡ a ++ back → AreBelow a key → AreAbove back key → None ≡ get (delta old) key
value_free a back old key parts below above =
    sym (ap (λ l. get (delta l) key) parts ∙ get_front a back key ∙ ap (λ o. or_else o (get (delta a) key)) (absent key back above) ∙ get-delta a key ∙ absent_below key a below)

abbrev pub first_or : List Record → Record → Record
first_or [] d = d
first_or (r ∷ rs) d = r

module _ (a back old : List Record) (key : Key) (parts : old ≡ a ++ back) (begins : BeginsWith true back key) (r : Record) (at : first_or back r ≡ r) where
  is_first : r ≡ begins.0
  is_first = sym at ∙ ap (λ l. first_or l r) begins.2

  pub value_found : KeysRise old → Some r.value ≡ get (delta old) key
  value_found rises =
      let whole : old ≡ a ++ begins.0 ∷ begins.1 = parts ∙ ap (λ l. a ++ l) begins.2 in
      let above = above_from begins.0.key begins.1 (first _ _ (back_rises a (begins.0 ∷ begins.1) (subst KeysRise whole rises))) in
      ap (λ x. Some x.value) is_first
      ∙ sym (ap (λ l. get (delta l) key) whole
      ∙ get_parts a begins.1 begins.0 key
      ∙ ap (λ o. or_else o (cond (eq_by_cmp key_cmp key begins.0.key) (Some begins.0.value) (get (delta a) key))) (absent key begins.1 (subst (AreAbove begins.1) begins.3 above))
      ∙ ap (λ k. cond (eq_by_cmp key_cmp key k) (Some begins.0.value) (get (delta a) key)) begins.3
      ∙ ap (λ t. cond t (Some begins.0.value) (get (delta a) key)) (same_key key))

  pub valid_found : All IsRecord old → IsValue r.value
  valid_found valid =
      let whole : old ≡ a ++ begins.0 ∷ begins.1 = parts ∙ ap (λ l. a ++ l) begins.2 in
      subst (λ x. IsValue x.value) (sym is_first) (All-head IsRecord begins.0 begins.1 (all_right IsRecord a (begins.0 ∷ begins.1) (subst (All IsRecord) whole valid))).value

-- ---- the keys still rise

both : (a b : Bool) → T a → T b → T (a && b)
both true b p q = q
both false b p q = p

below_free : (k : Key) (a b : List Record) (r : Record) → IsBelow k r.key → T (below_all key_cmp k (pairs (a ++ b))) → T (below_all key_cmp k (pairs (a ++ r ∷ b)))
below_free k [] b r l h = both _ _ (subst (λ o. T (is_lt o)) (sym l) tt) h
below_free k (x ∷ a) b r l h = both _ _ (first _ _ h) (below_free k a b r l (second _ _ h))

pub rises_free : (a b : List Record) (r : Record) → AreBelow a r.key → AreAbove b r.key → KeysRise (a ++ b) → KeysRise (a ++ r ∷ b)
rises_free [] b r below above h = both _ _ (above_to r.key b above) h
rises_free (x ∷ a) b r below above h =
    both _ _ (below_free x.key a b r (All-head (λ y. IsBelow y.key r.key) x a below) (first _ _ h)) (rises_free a b r (All-tail (λ y. IsBelow y.key r.key) x a below) above (second _ _ h))

below_found : (k : Key) (a b : List Record) (r : Record) (v : Value) → T (below_all key_cmp k (pairs (a ++ r ∷ b))) → T (below_all key_cmp k (pairs (a ++ record r { value = v } ∷ b)))
below_found k [] b r v h = h
below_found k (x ∷ a) b r v h = both _ _ (first _ _ h) (below_found k a b r v (second _ _ h))

pub rises_found : (a b : List Record) (r : Record) (v : Value) → KeysRise (a ++ r ∷ b) → KeysRise (a ++ record r { value = v } ∷ b)
rises_found [] b r v h = h
rises_found (x ∷ a) b r v h = both _ _ (below_found x.key a b r v (first _ _ h)) (rises_found a b r v (second _ _ h))

-- ---- a put

abbrev first_key : List Record → Key → Key
first_key [] k = k
first_key (r ∷ rs) k = r.key

pub record IsPut (old new : List Record) (rec : Record) : Type 0 where
  pub rises : KeysRise new
  pub valid : All IsRecord new
  pub held : delta new ≡ with_record (delta old) rec

module _ (a back old new : List Record) (rec : Record) (parts : old ≡ a ++ back) (rises : KeysRise old) (valid : All IsRecord old) (one : IsRecord rec) where
  pub put_free : AreBelow a rec.key → AreAbove back rec.key → new ≡ a ++ rec ∷ back → IsPut old new rec
  put_free below above is =
      let all = subst (All IsRecord) parts valid in
      record {
        rises = subst KeysRise (sym is) (rises_free a back rec below above (subst KeysRise parts rises));
        valid = subst (All IsRecord) (sym is) (All-append IsRecord a (rec ∷ back) (all_left IsRecord a back all) (All-cons IsRecord rec back one (all_right IsRecord a back all)));
        held = ap delta is ∙ delta_free a back rec above ∙ ap (λ l. with_record (delta l) rec) (sym parts);
      }

  pub put_found : BeginsWith true back rec.key → IsReplaced a back new rec.value → IsPut old new rec
  put_found begins r =
      let whole : old ≡ a ++ r.first ∷ r.others = parts ∙ ap (λ l. a ++ l) r.was in
      let up : KeysRise (a ++ r.first ∷ r.others) = subst KeysRise whole rises in
      let all : All IsRecord (a ++ r.first ∷ r.others) = subst (All IsRecord) whole valid in
      let behind : All IsRecord (r.first ∷ r.others) = all_right IsRecord a (r.first ∷ r.others) all in
      let was : IsRecord r.first = All-head IsRecord r.first r.others behind in
      let key : r.first.key ≡ rec.key = ap (λ l. first_key l rec.key) (sym r.was ∙ begins.2) ∙ begins.3 in
      let above : AreAbove r.others r.first.key = above_from r.first.key r.others (first _ _ (back_rises a (r.first ∷ r.others) up)) in
      record {
        rises = subst KeysRise (sym r.is) (rises_found a r.others r.first rec.value up);
        valid = subst (All IsRecord) (sym r.is)
            (All-append IsRecord a (record r.first { value = rec.value } ∷ r.others) (all_left IsRecord a (r.first ∷ r.others) all)
            (All-cons IsRecord (record r.first { value = rec.value }) r.others (record { key = was.key; value = one.value }) (All-tail IsRecord r.first r.others behind)));
        held = ap delta r.is ∙ delta_found a r.others r.first above rec.value ∙ (λ i. insert (delta (sym whole i)) (key i) rec.value);
      }

-- what stands in chunks after a put, and after one that was refused
module _ {X : Type 0} (f : X → List Record) (cs ds : List X) where
  pub chunks_put : (rec : Record) → IsPut (flat_map f cs) (flat_map f ds) rec → All (λ c. 0 < length (f c)) ds → All (λ c. length (f c) ≤ chunk_limit) ds → AreChunks f ds
  chunks_put rec p filled short = record { rises = p.rises; valid = p.valid; filled = filled; short = short }

  pub chunks_same : AreChunks f cs → flat_map f ds ≡ flat_map f cs → All (λ c. 0 < length (f c)) ds → All (λ c. length (f c) ≤ chunk_limit) ds → AreChunks f ds
  chunks_same all same filled short = record { rises = subst KeysRise (sym same) all.rises; valid = subst (All IsRecord) (sym same) all.valid; filled = filled; short = short }

pub either_way : {A E : Type 0} (r : Result A E) {P Q G : Type 0} → OnOk r P → OnErr r Q → (P → G) → (Q → G) → G
either_way (Ok a) p q f g = f p
either_way (Err e) p q f g = g q

pub ok_then : {A E : Type 0} (r : Result A E) {P Q : Type 0} → OnOk r P → (P → Q) → OnOk r Q
ok_then (Ok a) p f = f p
ok_then (Err e) p f = tt

pub unturned : (b : Bool) → not b ≡ true → b ≡ false
unturned true h = absurd cc
unturned false h = refl

pub turned_back : (b : Bool) → not b ≡ false → b ≡ true
turned_back true h = refl
turned_back false h = absurd cc

-- ---- the records that a buffer stands for

pub last_of : (b : Buffered) (rs : List Record) (q : Key) → StandsFor b rs → get b.held q ≡ last_value q rs
last_of b rs q s = ap (λ d. get d q) s.held ∙ get-delta rs q

-- what stands behind the first record
pub all_behind : (P : Record → Type 0) (rs more : List Record) → All P (rs ++ more) → All P (take (length rs - 1) (drop 1 rs) ++ more)
all_behind P [] more h = h
all_behind P (r ∷ rs) more h =
    let same : take (suc (length rs) - 1) rs ≡ rs = take_all (suc (length rs) - 1) rs (omega arith) in
    subst (λ l. All P (l ++ more)) (sym same) (All-tail P r (rs ++ more) h)

-- the records of the first chunk, and the chunks behind it
pub record Begins {X : Type 0} (f : X → List Record) (rs : List Record) (cs : List X) : Type 0 where
  pub rises : KeysRise (rs ++ flat_map f cs)
  pub valid : All IsRecord (rs ++ flat_map f cs)
  pub filled : All (λ c. 0 < length (f c)) cs
  pub begun : 0 < length cs → 0 < length rs

pub first_chunk : {X : Type 0} (f : X → List Record) (rs p : List Record) (cs : List X) (x : X) → (length rs == 0) ≡ true → 0 < length cs → x ≡ get_or cs 0 x → p ≡ f x
    → KeysRise (rs ++ flat_map f cs) → All IsRecord (rs ++ flat_map f cs) → All (λ c. 0 < length (f c)) cs → Begins f p (take (length cs - 1) (drop 1 cs))
first_chunk f rs p [] x none some at is rises valid filled = absurd (omega arith)
first_chunk f (r ∷ rs) p (c ∷ cs) x none some at is rises valid filled = absurd (omega (arith, eqb-true (suc (length rs)) 0 none))
first_chunk f [] p (c ∷ cs) x none some at is rises valid filled =
    let same : take (suc (length cs) - 1) cs ≡ cs = take_all (suc (length cs) - 1) cs (omega arith) in
    let here : p ≡ f c = is ∙ ap f at in
    subst (Begins f p) (sym same) (record {
      rises = subst (λ l. KeysRise (l ++ flat_map f cs)) (sym here) rises;
      valid = subst (λ l. All IsRecord (l ++ flat_map f cs)) (sym here) valid;
      filled = All-tail (λ d. 0 < length (f d)) c cs filled;
      begun = λ _. subst (λ l. 0 < length l) (sym here) (All-head (λ d. 0 < length (f d)) c cs filled);
    })

-- a put adds one key at most
pub one_key_more : (d : Delta) (r : Record) → len (with_record d r) ≤ len d + 1
one_key_more d r = by (is_some (get d r.key)) (length-put key_cmp keys_total r.key r.value d.entries d.sorted)
  where
    by : (b : Bool) → length (with_record d r).entries ≡ cond b (length d.entries) (length d.entries + 1) → length (with_record d r).entries ≤ length d.entries + 1
    by true e = omega (arith, e)
    by false e = omega (arith, e)
