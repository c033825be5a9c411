-- A body that was spelled is read back, whatever stands behind it.
use Rattle.std.proofs.Common.{◌≡◌, ℕ, ◌+◌, ◌-◌, ◌<◌, ◌≤◌, ◌^◌, true, List, [], ◌∷◌, ◌++◌, length, take, drop, refl, sym, ◌∙◌, ap, arith, append_assoc, length-append}
use Rattle.std.specs.Prelude.{slice_index, Some, IsTrue, ◌==◌, nat_le}
use Rattle.std.proofs.lemmas.List.{drop_at, drop-drop, take_at}
use Rattle.std.proofs.lemmas.Bool.{and_parts, and_from, leb-true, le-leb, eq-eqb, cond-true}
use Rattle.std.proofs.Math.Seq.{take-append-add}
use Rattle.byteorder.specs.Endian.{big_bytes, big_number}
use Rattle.byteorder.specs.Numbers.{big_number-reads_back}
use Rattle.dfs_registry.specs.declared.listed.Listed.{Listed}
use Rattle.dfs_registry.specs.Body.{body, fields, has_body, read_body, body_size, is_listable}
use Rattle.dfs_registry.specs.Reading.{IsBody}

-- behind a piece at a place
behind_piece : (n m p : ℕ) (bytes piece rest : List ℕ) → p ≡ n + m → length piece ≡ m → drop n bytes ≡ piece ++ rest → drop p bytes ≡ rest
behind_piece n m p bytes piece rest sum size here =
    ap (λ i. drop i bytes) sum ∙ sym (drop-drop m n bytes) ∙ ap (λ (l : List ℕ). drop m l) here ∙ drop_at piece rest m size

made : List ℕ → ℕ → ℕ → ℕ → ℕ → Listed
made name job at len count = record { name = name; job = job; at = at; len = len; count = count }

same_made : (n o : List ℕ) (j k a b l m c d : ℕ) → n ≡ o → j ≡ k → a ≡ b → l ≡ m → c ≡ d → made n j a l c ≡ made o k b m d
same_made n o j k a b l m c d p q r s t = cc

pub same_fields : (a b : Listed) → a.name ≡ b.name → a.job ≡ b.job → a.at ≡ b.at → a.len ≡ b.len → a.count ≡ b.count → a ≡ b
unfolding made
same_fields a b p q r s t = same_made _ _ _ _ _ _ _ _ _ _ p q r s t

pub short_name : (b : Listed) → IsTrue (is_listable b) → length b.name ≤ 64
short_name b is =
    leb-true (length b.name) 64 ((and_parts _ _ (and_parts _ _ (and_parts _ _ is).0).0).1)

pub length-body : (b : Listed) → length (body b) ≡ 28 + length b.name
unfolding body
length-body b = simp length-append (omega arith)

module _ (b : Listed) (is : IsBody b) (rest : List ℕ) where
  k : ℕ
  k = length b.name

  bytes : List ℕ
  bytes = body b ++ rest

  behind_count : List ℕ
  behind_count = big_bytes 8 b.count ++ rest

  behind_len : List ℕ
  behind_len = big_bytes 4 b.len ++ behind_count

  behind_at : List ℕ
  behind_at = big_bytes 8 b.at ++ behind_len

  behind_job : List ℕ
  behind_job = big_bytes 4 b.job ++ behind_at

  name_at : drop 4 (body b ++ rest) ≡ b.name ++ behind_job
  unfolding body bytes behind_count behind_len behind_at behind_job
  name_at = regroup b.name (big_bytes 4 b.job) (big_bytes 8 b.at) (big_bytes 4 b.len) (big_bytes 8 b.count) rest
    where
      regroup : (n j a l c r : List ℕ) → ((((n ++ j) ++ a) ++ l) ++ c) ++ r ≡ n ++ (j ++ (a ++ (l ++ (c ++ r))))
      regroup n j a l c r = simp append_assoc

  job_at : drop (4 + k) bytes ≡ behind_job
  unfolding k bytes
  job_at = behind_piece 4 k (4 + k) bytes b.name behind_job refl refl name_at

  at_at : drop (8 + k) bytes ≡ behind_at
  unfolding behind_job
  at_at = behind_piece (4 + k) 4 (8 + k) bytes (big_bytes 4 b.job) behind_at (omega arith) refl job_at

  len_at : drop (16 + k) bytes ≡ behind_len
  unfolding behind_at
  len_at = behind_piece (8 + k) 8 (16 + k) bytes (big_bytes 8 b.at) behind_len (omega arith) refl at_at

  count_at : drop (20 + k) bytes ≡ behind_count
  unfolding behind_len
  count_at = behind_piece (16 + k) 4 (20 + k) bytes (big_bytes 4 b.len) behind_count (omega arith) refl len_at

  at_three : slice_index bytes 3 ≡ k
  unfolding body bytes k
  at_three = refl

  job_fits : b.job < 256 ^ 4
  job_fits = let high : b.job ≤ 4294967294 = leb-true b.job 4294967294 ((and_parts _ _ (and_parts _ _ is.listable).1).1) in omega arith

  name_here : drop 4 bytes ≡ b.name ++ behind_job
  unfolding bytes
  name_here = name_at

  name_long : length b.name ≡ k
  unfolding k
  name_long = refl

  read_fields : fields bytes ≡ b
  unfolding fields behind_job behind_at behind_len behind_count
  read_fields = same_fields (fields bytes) b
      (ap (λ n. take n (drop 4 bytes)) at_three ∙ ap (λ (l : List ℕ). take k l) name_here ∙ take_at b.name behind_job k name_long)
      (ap (λ n. big_number 4 (drop (4 + n) bytes)) at_three ∙ ap (λ (l : List ℕ). big_number 4 l) job_at ∙ big_number-reads_back 4 b.job behind_at job_fits)
      (ap (λ n. big_number 8 (drop (8 + n) bytes)) at_three ∙ ap (λ (l : List ℕ). big_number 8 l) at_at ∙ big_number-reads_back 8 b.at behind_len (omega (arith, is.at)))
      (ap (λ n. big_number 4 (drop (16 + n) bytes)) at_three ∙ ap (λ (l : List ℕ). big_number 4 l) len_at ∙ big_number-reads_back 4 b.len behind_count (omega (arith, is.len)))
      (ap (λ n. big_number 8 (drop (20 + n) bytes)) at_three ∙ ap (λ (l : List ℕ). big_number 8 l) count_at ∙ big_number-reads_back 8 b.count rest (omega (arith, is.count)))

  whole : nat_le (body_size (slice_index bytes 3)) (length bytes) ≡ true
  unfolding bytes k
  whole = le-leb _ _ (omega (arith, at_three, length-body b, length-append (body b) rest))

  -- the bytes behind the length
  behind_size : List ℕ
  behind_size = ((((1 ∷ length b.name ∷ []) ++ b.name ++ big_bytes 4 b.job) ++ big_bytes 8 b.at) ++ big_bytes 4 b.len) ++ big_bytes 8 b.count ++ rest

  size : (big_number 2 bytes == 26 + slice_index bytes 3) ≡ true
  unfolding bytes body k behind_size
  size = eq-eqb _ _ (big_number-reads_back 2 (26 + length b.name) behind_size (omega (arith, short_name b is.listable)) ∙ ap (λ n. 26 + n) (sym at_three))

  kind : (slice_index bytes 2 == 1) ≡ true
  unfolding bytes body
  kind = refl

  spells : has_body bytes ≡ true
  unfolding has_body
  spells = and_from _ _ (and_from _ _ whole (and_from _ _ size kind)) (ap is_listable read_fields ∙ is.listable)

pub reads_back : (b : Listed) → IsBody b → (rest : List ℕ) → read_body (body b ++ rest) ≡ Some b
unfolding read_body bytes
reads_back b is rest =
    let some = 92 - (28 + length b.name) in
    let long : length (body b) + some ≡ 92 = omega (arith, length-body b, short_name b is.listable) in
    let front : take 92 (body b ++ rest) ≡ body b ++ take some rest = ap (λ n. take n (body b ++ rest)) (sym long) ∙ take-append-add (body b) rest some in
    cond-true _ _ _ (ap has_body front ∙ spells b is (take some rest)) ∙ ap (λ (l : List ℕ). Some (fields l)) front ∙ ap Some (read_fields b is (take some rest))
