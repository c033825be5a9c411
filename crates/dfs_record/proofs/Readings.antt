-- What is read is spelled so, and what is spelled so is read.
use Rattle.std.proofs.Common.{◌≡◌, ℕ, zero, suc, ◌+◌, ◌-◌, ◌^◌, ◌<◌, ◌≤◌, Bool, true, false, cond, ltb, ◌&&◌, List, [], ◌∷◌, ◌++◌, length, get_or, take, drop, Option, Some, None, refl, sym, ap, subst, ◌∙◌, append_assoc, arith, inl, inr}
use Rattle.std.specs.Prelude.{nat_le, IsTrue}
use Rattle.std.specs.Int.{Width, w16, w32, w64, byte_len, from_be_bytes, to_be_bytes}
use Rattle.std.proofs.lemmas.Bool.{cases_lt, ltb-false, le-ltb, leb-true, le-leb}
use Rattle.std.proofs.lemmas.List.{take_at, drop_at, take-append-drop, length-append, length-take, length-drop, get_or-drop, get_or-take, get_or_past}
use Rattle.std.proofs.lemmas.Nat.{be_bytes_2, be_bytes_4, be_bytes_8, from_be_bytes-to_be_bytes_2, from_be_bytes-to_be_bytes_4, from_be_bytes-to_be_bytes_8}
use Rattle.dfs_record.specs.declared.DirId.{DirId}
use Rattle.dfs_record.specs.declared.Key.{Key}
use Rattle.dfs_record.specs.declared.Entry.TheVariants.{Dir, File}
use Rattle.dfs_record.specs.declared.Value.{Value}
use Rattle.dfs_record.specs.declared.Value.TheVariants.{Del, Put}
use Rattle.dfs_record.specs.declared.Record.{Record}
use Rattle.dfs_record.specs.Name.{is_name, is_reference, IsName, IsReference}
use Rattle.dfs_record.specs.Record.{IsId, IsKey, IsValue, IsRecord, short_text, id_bytes, key_bytes, value_bytes, spelling}
use Rattle.dfs_record.specs.Reading.{◌>>=◌, paired, mapped, guarded, number_at, text_at, name_at, reference_at, id_at, made_at, mode_at, key_at, dir_at, file_at, value_at, record_at}

abbrev pub IsBytes : List ℕ → Type 0
IsBytes bytes = (i : ℕ) → get_or bytes i 0 < 256

pub IsBytes-drop : (n : ℕ) (bytes : List ℕ) → IsBytes bytes → IsBytes (drop n bytes)
IsBytes-drop n bytes h i = rw get_or-drop (h (n + i))

IsBytes-take : (n : ℕ) (bytes : List ℕ) → IsBytes bytes → IsBytes (take n bytes)
IsBytes-take n bytes h i =
    elim (cases_lt i n) [
      | inl lt ↦ rw (get_or-take n bytes i 0 lt) (h i)
      | inr le ↦ rw (get_or_past (take n bytes) i 0 (omega (arith, length-take n bytes))) (omega arith)
    ]

IsBytes-rest : (b : ℕ) (bytes : List ℕ) → IsBytes (b ∷ bytes) → IsBytes bytes
IsBytes-rest b bytes h i = h (suc i)

-- the value of a step that gave one
bind_some : {A B : Type 0} (r : Option A) (f : A → Option B) (y : B) → (r >>= f) ≡ Some y → (x : A) × (r ≡ Some x) × (f x ≡ Some y)
bind_some (Some x) f y e = (x, refl, e)
bind_some None f y e = absurd cc

-- a test that passed
guard_some : {A : Type 0} (b : Bool) (x y : A) → cond b (Some x) None ≡ Some y → (b ≡ true) × (x ≡ y)
guard_some true x y e = (refl, cc)
guard_some false x y e = absurd cc

-- a test that did not fail
guard_not : {A : Type 0} (b : Bool) (x y : A) → cond b None (Some x) ≡ Some y → (b ≡ false) × (x ≡ y)
guard_not true x y e = absurd cc
guard_not false x y e = (refl, cc)

pub some_is : {A : Type 0} (x y : A) → Some x ≡ Some y → x ≡ y
some_is x y e = cc

-- what a reader took from the front
pub record Takes (bytes text rest : List ℕ) : Type 0 where
  pub parts : bytes ≡ text ++ rest
  pub rest_fits : IsBytes rest

Takes-then : (a x b y c : List ℕ) → Takes a x b → Takes b y c → Takes a (x ++ y) c
Takes-then a x b y c p q = record { parts = p.parts ∙ ap (λ (t : List ℕ). x ++ t) q.parts ∙ sym (append_assoc x y c); rest_fits = q.rest_fits }

-- what is read is spelled so and valid, and what is valid and spelled so is read
pub record Reads {A : Type 0} (Valid : A → Type 0) (text : A → List ℕ) (read : List ℕ → Option (A × List ℕ)) : Type 0 where
  pub takes : (bytes : List ℕ) (x : A) (rest : List ℕ) → IsBytes bytes → read bytes ≡ Some (x, rest) → Valid x × Takes bytes (text x) rest
  pub again : (x : A) (rest : List ℕ) → Valid x → read (text x ++ rest) ≡ Some (x, rest)

-- ---- numbers

pub record IsWide (w : Width) (limit : ℕ) : Type 0 where
  pub len : (n : ℕ) → length (to_be_bytes w n) ≡ byte_len w
  pub back : (bytes : List ℕ) → length bytes ≡ byte_len w → IsBytes bytes → to_be_bytes w (from_be_bytes w bytes) ≡ bytes
  pub again : (n : ℕ) → n < limit → from_be_bytes w (to_be_bytes w n) ≡ n
  pub below : (bytes : List ℕ) → IsBytes bytes → from_be_bytes w bytes < limit

pub wide16 : IsWide w16 (2 ^ 16)
wide16 = record {
  len = λ n. refl;
  back = λ bytes len fits. be_bytes_2 bytes _ len fits refl;
  again = λ n lt. from_be_bytes-to_be_bytes_2 n lt;
  below = λ bytes fits. omega (arith, fits 0, fits 1);
}

pub wide32 : IsWide w32 (2 ^ 32)
wide32 = record {
  len = λ n. refl;
  back = λ bytes len fits. be_bytes_4 bytes _ len fits refl;
  again = λ n lt. from_be_bytes-to_be_bytes_4 n lt;
  below = λ bytes fits. omega (arith, fits 0, fits 1, fits 2, fits 3);
}

pub wide64 : IsWide w64 (2 ^ 64)
wide64 = record {
  len = λ n. refl;
  back = λ bytes len fits. be_bytes_8 bytes _ len fits refl;
  again = λ n lt. from_be_bytes-to_be_bytes_8 n lt;
  below = λ bytes fits. omega (arith, fits 0, fits 1, fits 2, fits 3, fits 4, fits 5, fits 6, fits 7);
}

pub number_takes : (w : Width) (limit : ℕ) (wide : IsWide w limit) (bytes : List ℕ) (n : ℕ) (rest : List ℕ) → IsBytes bytes → number_at w bytes ≡ Some (n, rest) → (n < limit) × Takes bytes (to_be_bytes w n) rest
number_takes w limit wide bytes n rest fits e =
    let g = guard_not (ltb (length bytes) (byte_len w)) (from_be_bytes w (take (byte_len w) bytes), drop (byte_len w) bytes) (n, rest) e in
    let long : byte_len w ≤ length bytes = ltb-false _ _ g.0 in
    let n-is : from_be_bytes w (take (byte_len w) bytes) ≡ n = ap (λ (p : ℕ × List ℕ). p.0) g.1 in
    let rest-is : drop (byte_len w) bytes ≡ rest = ap (λ (p : ℕ × List ℕ). p.1) g.1 in
    let front : to_be_bytes w n ≡ take (byte_len w) bytes = rw (← n-is) (wide.back (take (byte_len w) bytes) (omega (arith, length-take (byte_len w) bytes)) (IsBytes-take (byte_len w) bytes fits)) in
    (rw (← n-is) (wide.below (take (byte_len w) bytes) (IsBytes-take (byte_len w) bytes fits)), record { parts = rw (front, ← rest-is) (sym (take-append-drop (byte_len w) bytes)); rest_fits = rw (← rest-is) (IsBytes-drop (byte_len w) bytes fits) })

pub number_again : (w : Width) (limit : ℕ) (wide : IsWide w limit) (n : ℕ) (rest : List ℕ) → n < limit → number_at w (to_be_bytes w n ++ rest) ≡ Some (n, rest)
number_again w limit wide n rest lt =
    let len = wide.len n in
    let long : ltb (length (to_be_bytes w n ++ rest)) (byte_len w) ≡ false = le-ltb _ _ (omega (arith, length-append (to_be_bytes w n) rest)) in
    rw (long, take_at (to_be_bytes w n) rest (byte_len w) len, drop_at (to_be_bytes w n) rest (byte_len w) len, wide.again n lt) refl

pub numbers : (w : Width) (limit : ℕ) → IsWide w limit → Reads (λ n. n < limit) (to_be_bytes w) (number_at w)
numbers w limit wide = record { takes = number_takes w limit wide; again = number_again w limit wide }

-- ---- a length and a text

text_takes : (bytes x rest : List ℕ) → IsBytes bytes → text_at bytes ≡ Some (x, rest) → Unit {0} × Takes bytes (short_text x) rest
text_takes [] x rest fits e = absurd cc
text_takes (k ∷ bytes) x rest fits e =
    let g = guard_not (ltb (length bytes) k) (take k bytes, drop k bytes) (x, rest) e in
    let long : k ≤ length bytes = ltb-false _ _ g.0 in
    let len : length (take k bytes) ≡ k = omega (arith, length-take k bytes) in
    let parts : k ∷ bytes ≡ short_text (take k bytes) ++ drop k bytes = rw len (ap (λ (t : List ℕ). k ∷ t) (sym (take-append-drop k bytes))) in
    let whole : Takes (k ∷ bytes) (short_text (take k bytes)) (drop k bytes) = record { parts = parts; rest_fits = IsBytes-drop k bytes (IsBytes-rest k bytes fits) } in
    (tt, subst (λ (p : List ℕ × List ℕ). Takes (k ∷ bytes) (short_text p.0) p.1) g.1 whole)

text_again : (x rest : List ℕ) → Unit {0} → text_at (short_text x ++ rest) ≡ Some (x, rest)
text_again x rest v =
    let long : ltb (length (x ++ rest)) (length x) ≡ false = le-ltb _ _ (omega (arith, length-append x rest)) in
    rw (long, take_at x rest (length x) refl, drop_at x rest (length x) refl) refl

pub texts : Reads (λ _. Unit {0}) short_text text_at
texts = record { takes = text_takes; again = text_again }

-- ---- readers made of readers

module _ {A B : Type 0} where
  pub pairs : (V : A → Type 0) (W : B → Type 0) (f : A → List ℕ) (g : B → List ℕ) (r : List ℕ → Option (A × List ℕ)) (s : List ℕ → Option (B × List ℕ))
      → Reads V f r → Reads W g s → Reads {A = A × B} (λ p. V p.0 × W p.1) (λ p. f p.0 ++ g p.1) (paired r s)
  pairs V W f g r s p q = record {
    takes = λ bytes x rest fits e.
        let a = bind_some (r bytes) (λ x. s x.1 >>= λ y. Some ((x.0, y.0), y.1)) (x, rest) e in
        let b = bind_some (s a.0.1) (λ y. Some ((a.0.0, y.0), y.1)) (x, rest) a.2 in
        let t = p.takes bytes a.0.0 a.0.1 fits a.1 in
        let u = q.takes a.0.1 b.0.0 b.0.1 t.1.rest_fits b.1 in
        let made : (A × B) × List ℕ = ((a.0.0, b.0.0), b.0.1) in
        subst (λ (y : (A × B) × List ℕ). (V y.0.0 × W y.0.1) × Takes bytes (f y.0.0 ++ g y.0.1) y.1) (some_is made (x, rest) b.2) ((t.0, u.0), Takes-then bytes (f a.0.0) a.0.1 (g b.0.0) b.0.1 t.1 u.1);
    again = λ x rest v.
        let regrouped : (f x.0 ++ g x.1) ++ rest ≡ f x.0 ++ (g x.1 ++ rest) = append_assoc (f x.0) (g x.1) rest in
        ap (paired r s) regrouped ∙ ap (λ (o : Option (A × List ℕ)). o >>= λ y. s y.1 >>= λ z. Some ((y.0, z.0), z.1)) (p.again x.0 (g x.1 ++ rest) v.0) ∙ ap (λ (o : Option (B × List ℕ)). o >>= λ z. Some ((x.0, z.0), z.1)) (q.again x.1 rest v.1);
  }

  pub maps : (V : A → Type 0) (W : B → Type 0) (f : A → List ℕ) (g : B → List ℕ) (r : List ℕ → Option (A × List ℕ)) (to : A → B) (back : B → A)
      → ((b : B) → to (back b) ≡ b) → ((b : B) → W b → V (back b)) → ((a : A) → V a → W (to a)) → ((a : A) → g (to a) ≡ f a) → Reads V f r → Reads W g (mapped to r)
  maps V W f g r to back inverse inside out same p = record {
    takes = λ bytes x rest fits e.
        let a = bind_some (r bytes) (λ x. Some (to x.0, x.1)) (x, rest) e in
        let t = p.takes bytes a.0.0 a.0.1 fits a.1 in
        let made : B × List ℕ = (to a.0.0, a.0.1) in
        subst (λ (y : B × List ℕ). W y.0 × Takes bytes (g y.0) y.1) (some_is made (x, rest) a.2) (out a.0.0 t.0, rw (same a.0.0) t.1);
    again = λ x rest v.
        let text : g x ≡ f (back x) = ap g (sym (inverse x)) ∙ same (back x) in
        ap (λ (l : List ℕ). mapped to r (l ++ rest)) text ∙ ap (λ (o : Option (A × List ℕ)). o >>= λ y. Some (to y.0, y.1)) (p.again (back x) rest (inside x v)) ∙ ap (λ (b : B). Some (b, rest)) (inverse x);
  }

pub guards : {A : Type 0} (V : A → Type 0) (f : A → List ℕ) (test : A → Bool) (r : List ℕ → Option (A × List ℕ)) → Reads V f r → Reads (λ x. V x × IsTrue (test x)) f (guarded test r)
guards {A} V f test r p = record {
  takes = λ bytes x rest fits e.
      let a = bind_some (r bytes) (λ x. cond (test x.0) (Some x) None) (x, rest) e in
      let g = guard_some (test a.0.0) a.0 (x, rest) a.2 in
      let t = p.takes bytes a.0.0 a.0.1 fits a.1 in
      subst (λ (y : A × List ℕ). (V y.0 × IsTrue (test y.0)) × Takes bytes (f y.0) y.1) g.1 ((t.0, g.0), t.1);
  again = λ x rest v.
      ap (λ (o : Option (A × List ℕ)). o >>= λ y. cond (test y.0) (Some y) None) (p.again x rest v.0) ∙ ap (λ (b : Bool). cond b (Some (x, rest)) None) v.1;
}

-- ---- the parts of a record

pub names : Reads (λ name. Unit {0} × IsName name) short_text name_at
unfolding name_at
names = guards (λ _. Unit {0}) short_text is_name text_at texts

pub references : Reads (λ reference. Unit {0} × IsReference reference) short_text reference_at
unfolding reference_at
references = guards (λ _. Unit {0}) short_text is_reference text_at texts

pub ids : Reads IsId id_bytes id_at
unfolding id_at
ids =
    maps {A = ℕ × ℕ} {B = DirId} (λ p. (p.0 < 2 ^ 32) × (p.1 < 2 ^ 32)) IsId (λ p. to_be_bytes w32 p.0 ++ to_be_bytes w32 p.1) id_bytes (paired (number_at w32) (number_at w32))
    (λ p. record { job = p.0; counter = p.1 }) (λ id. (id.job, id.counter)) (λ _. refl) (λ _ v. v) (λ _ v. v) (λ _. refl)
    (pairs (λ n. n < 2 ^ 32) (λ n. n < 2 ^ 32) (to_be_bytes w32) (to_be_bytes w32) (number_at w32) (number_at w32) (numbers w32 (2 ^ 32) wide32) (numbers w32 (2 ^ 32) wide32))

made : Reads (λ id. IsId id × IsTrue (nat_le 1 id.job && nat_le 1 id.counter)) id_bytes made_at
unfolding made_at
made = guards IsId id_bytes (λ id. nat_le 1 id.job && nat_le 1 id.counter) id_at ids

pub modes : Reads (λ n. (n < 2 ^ 16) × IsTrue (nat_le n 4095)) (to_be_bytes w16) mode_at
unfolding mode_at
modes = guards (λ n. n < 2 ^ 16) (to_be_bytes w16) (λ n. nat_le n 4095) (number_at w16) (numbers w16 (2 ^ 16) wide16)

pub times : Reads (λ n. n < 2 ^ 64) (to_be_bytes w64) (number_at w64)
times = numbers w64 (2 ^ 64) wide64

pub keys : Reads IsKey key_bytes key_at
unfolding key_at
keys =
    maps {A = DirId × List ℕ} {B = Key} (λ p. IsId p.0 × (Unit {0} × IsName p.1)) IsKey (λ p. id_bytes p.0 ++ short_text p.1) key_bytes (paired id_at name_at)
    (λ p. record { parent = p.0; name = p.1 }) (λ key. (key.parent, key.name)) (λ _. refl) (λ _ v. (v.parent, (tt, v.name))) (λ _ v. record { parent = v.0; name = v.1.1 }) (λ _. refl)
    (pairs IsId (λ name. Unit {0} × IsName name) id_bytes short_text id_at name_at ids names)

-- the value of a reader's other form
mapped_some : {A B : Type 0} (to : A → B) (r : List ℕ → Option (A × List ℕ)) (bytes : List ℕ) (y : B) (rest : List ℕ) → mapped to r bytes ≡ Some (y, rest) → (a : A) × (r bytes ≡ Some (a, rest)) × (to a ≡ y)
mapped_some to r bytes y rest e =
    let a = bind_some (r bytes) (λ x. Some (to x.0, x.1)) (y, rest) e in
    let same = some_is (to a.0.0, a.0.1) (y, rest) a.2 in
    (a.0.0, a.1 ∙ ap (λ l. Some (a.0.0, l)) (ap (λ p. p.1) same), ap (λ p. p.0) same)

abbrev DirParts : Type 0
DirParts = (DirId × ℕ) × ℕ

abbrev FileParts : Type 0
FileParts = ((ℕ × ℕ) × ℕ) × List ℕ

abbrev IsMade : DirId → Type 0
IsMade id = IsId id × IsTrue (nat_le 1 id.job && nat_le 1 id.counter)

abbrev IsMode : ℕ → Type 0
IsMode n = (n < 2 ^ 16) × IsTrue (nat_le n 4095)

abbrev dir_text : DirParts → List ℕ
dir_text p = id_bytes p.0.0 ++ to_be_bytes w16 p.0.1 ++ to_be_bytes w64 p.1

abbrev file_text : FileParts → List ℕ
file_text p = to_be_bytes w16 p.0.0.0 ++ to_be_bytes w64 p.0.0.1 ++ to_be_bytes w64 p.0.1 ++ short_text p.1

dirs : Reads {A = DirParts} (λ p. (IsMade p.0.0 × IsMode p.0.1) × (p.1 < 2 ^ 64)) dir_text (paired (paired made_at mode_at) (number_at w64))
dirs =
    pairs (λ p. IsMade p.0 × IsMode p.1) (λ n. n < 2 ^ 64) (λ p. id_bytes p.0 ++ to_be_bytes w16 p.1) (to_be_bytes w64) (paired made_at mode_at) (number_at w64)
    (pairs IsMade IsMode id_bytes (to_be_bytes w16) made_at mode_at made modes) times

files : Reads {A = FileParts} (λ p. ((IsMode p.0.0.0 × (p.0.0.1 < 2 ^ 64)) × (p.0.1 < 2 ^ 64)) × (Unit {0} × IsReference p.1)) file_text (paired (paired (paired mode_at (number_at w64)) (number_at w64)) reference_at)
files =
    pairs (λ p. (IsMode p.0.0 × (p.0.1 < 2 ^ 64)) × (p.1 < 2 ^ 64)) (λ r. Unit {0} × IsReference r) (λ p. to_be_bytes w16 p.0.0 ++ to_be_bytes w64 p.0.1 ++ to_be_bytes w64 p.1) short_text (paired (paired mode_at (number_at w64)) (number_at w64)) reference_at
    (pairs (λ p. IsMode p.0 × (p.1 < 2 ^ 64)) (λ n. n < 2 ^ 64) (λ p. to_be_bytes w16 p.0 ++ to_be_bytes w64 p.1) (to_be_bytes w64) (paired mode_at (number_at w64)) (number_at w64)
    (pairs IsMode (λ n. n < 2 ^ 64) (to_be_bytes w16) (to_be_bytes w64) mode_at (number_at w64) modes times) times) references

pub both_true : (a b : Bool) → a ≡ true → b ≡ true → (a && b) ≡ true
both_true true b p q = q
both_true false b p q = p

pub first_true : (a b : Bool) → (a && b) ≡ true → a ≡ true
first_true true b p = refl
first_true false b p = p

pub second_true : (a b : Bool) → (a && b) ≡ true → b ≡ true
second_true true b p = p
second_true false b p = absurd cc

value_takes : (bytes : List ℕ) (x : Value) (rest : List ℕ) → IsBytes bytes → value_at bytes ≡ Some (x, rest) → IsValue x × Takes bytes (value_bytes x) rest
unfolding value_at dir_at file_at
value_takes [] x rest fits e = absurd cc
value_takes (zero ∷ bytes) x rest fits e =
    subst (λ (y : Value × List ℕ). IsValue y.0 × Takes (0 ∷ bytes) (value_bytes y.0) y.1) (some_is (Del, bytes) (x, rest) e) (tt, record { parts = refl; rest_fits = IsBytes-rest 0 bytes fits })
value_takes (suc zero ∷ bytes) x rest fits e =
    let m = mapped_some {A = DirParts} (λ p. Put (Dir p.0.0 p.0.1 p.1)) (paired (paired made_at mode_at) (number_at w64)) bytes x rest e in
    let t = dirs.takes bytes m.0 rest (IsBytes-rest 1 bytes fits) m.1 in
    let id = m.0.0.0 in
    let job : 1 ≤ id.job = leb-true _ _ (first_true (nat_le 1 id.job) (nat_le 1 id.counter) t.0.0.0.1) in
    let counter : 1 ≤ id.counter = leb-true _ _ (second_true (nat_le 1 id.job) (nat_le 1 id.counter) t.0.0.0.1) in
    let mode : m.0.0.1 ≤ 4095 = leb-true _ _ t.0.0.1.1 in
    subst (λ (y : Value). IsValue y × Takes (1 ∷ bytes) (value_bytes y) rest) m.2
    ((t.0.0.0.0, job, counter, mode, t.0.1), record { parts = ap (λ (l : List ℕ). 1 ∷ l) t.1.parts; rest_fits = t.1.rest_fits })
value_takes (suc (suc zero) ∷ bytes) x rest fits e =
    let m = mapped_some {A = FileParts} (λ p. Put (File p.0.0.0 p.0.0.1 p.0.1 p.1)) (paired (paired (paired mode_at (number_at w64)) (number_at w64)) reference_at) bytes x rest e in
    let t = files.takes bytes m.0 rest (IsBytes-rest 2 bytes fits) m.1 in
    let mode : m.0.0.0.0 ≤ 4095 = leb-true _ _ t.0.0.0.0.1 in
    subst (λ (y : Value). IsValue y × Takes (2 ∷ bytes) (value_bytes y) rest) m.2
    ((mode, t.0.0.0.1, t.0.0.1, t.0.1.1), record { parts = ap (λ (l : List ℕ). 2 ∷ l) t.1.parts; rest_fits = t.1.rest_fits })
value_takes (suc (suc (suc kind)) ∷ bytes) x rest fits e = absurd cc

value_again : (x : Value) (rest : List ℕ) → IsValue x → value_at (value_bytes x ++ rest) ≡ Some (x, rest)
unfolding value_at dir_at file_at
value_again Del rest v = refl
value_again (Put (Dir id mode time)) rest v =
    ap (λ (o : Option (DirParts × List ℕ)). o >>= λ y. Some (Put (Dir y.0.0.0 y.0.0.1 y.0.1), y.1))
    (dirs.again ((id, mode), time) rest (((v.0, both_true (nat_le 1 id.job) (nat_le 1 id.counter) (le-leb _ _ v.1) (le-leb _ _ v.2)), (omega (arith, v.3), le-leb _ _ v.3)), v.4))
value_again (Put (File mode time size reference)) rest v =
    ap (λ (o : Option (FileParts × List ℕ)). o >>= λ y. Some (Put (File y.0.0.0.0 y.0.0.0.1 y.0.0.1 y.0.1), y.1))
    (files.again (((mode, time), size), reference) rest ((((omega (arith, v.0), le-leb _ _ v.0), v.1), v.2), (tt, v.3)))

values : Reads IsValue value_bytes value_at
values = record { takes = value_takes; again = value_again }

pub records : Reads IsRecord spelling record_at
unfolding record_at
records =
    maps {A = Key × Value} {B = Record} (λ p. IsKey p.0 × IsValue p.1) IsRecord (λ p. key_bytes p.0 ++ value_bytes p.1) spelling (paired key_at value_at)
    (λ p. record { key = p.0; value = p.1 }) (λ r. (r.key, r.value)) (λ _. refl) (λ _ v. (v.key, v.value)) (λ _ v. record { key = v.0; value = v.1 }) (λ _. refl)
    (pairs IsKey IsValue key_bytes value_bytes key_at value_at keys values)

-- ---- the first bytes

-- the first n bytes are the text of x, which is valid
abbrev pub IsFirst : {A : Type 0} → (A → Type 0) → (A → List ℕ) → List ℕ → A → ℕ → Type 0
IsFirst V f bytes x n = (n ≤ length bytes) × (V x × (take n bytes ≡ f x))

module _ {A : Type 0} (V : A → Type 0) (f : A → List ℕ) (read : List ℕ → Option (A × List ℕ)) (reads : Reads V f read) where
  pub rest_within : (bytes : List ℕ) (x : A) (rest : List ℕ) → IsBytes bytes → read bytes ≡ Some (x, rest) → length rest ≤ length bytes
  rest_within bytes x rest fits e =
      let t = reads.takes bytes x rest fits e in
      omega (arith, ap length t.1.parts, length-append (f x) rest)

  pub first_read : (bytes : List ℕ) (x : A) (rest : List ℕ) → IsBytes bytes → read bytes ≡ Some (x, rest) → IsFirst V f bytes x (length bytes - length rest)
  first_read bytes x rest fits e =
      let t = reads.takes bytes x rest fits e in
      let len : length bytes ≡ length (f x) + length rest = ap length t.1.parts ∙ length-append (f x) rest in
      let n : length bytes - length rest ≡ length (f x) = omega (arith, len) in
      (omega arith, (t.0, rw (n, t.1.parts) (take_at (f x) rest (length (f x)) refl)))

  pub none_first : (bytes : List ℕ) → read bytes ≡ None → (n : ℕ) (x : A) → ¬ (IsFirst V f bytes x n)
  none_first bytes e n x first =
      let parts : bytes ≡ f x ++ drop n bytes = sym (take-append-drop n bytes) ∙ ap (λ (l : List ℕ). l ++ drop n bytes) first.1.1 in
      let some : read bytes ≡ Some (x, drop n bytes) = ap read parts ∙ reads.again x (drop n bytes) first.1.0 in
      absurd (cc (some, e))

  -- what was read is what the first bytes spell
  pub only_first : (bytes : List ℕ) (x : A) (rest : List ℕ) → IsBytes bytes → read bytes ≡ Some (x, rest) → (n : ℕ) (y : A) → IsFirst V f bytes y n → (x ≡ y) × (length bytes - length rest ≡ n)
  only_first bytes x rest fits e n y first =
      let parts : bytes ≡ f y ++ drop n bytes = sym (take-append-drop n bytes) ∙ ap (λ (l : List ℕ). l ++ drop n bytes) first.1.1 in
      let same : (x, rest) ≡ (y, drop n bytes) = some_is (x, rest) (y, drop n bytes) (sym e ∙ ap read parts ∙ reads.again y (drop n bytes) first.1.0) in
      let rest-is : rest ≡ drop n bytes = ap (λ (p : A × List ℕ). p.1) same in
      (ap (λ (p : A × List ℕ). p.0) same, omega (arith, first.0, ap length rest-is, length-drop n bytes))
