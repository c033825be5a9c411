-- The jobs of a registry's publications are no file 0.
use Rattle.std.proofs.Common.{◌≡◌, ◌≢◌, ℕ, zero, suc, ◌+◌, ◌≤◌, Bool, true, false, List, [], ◌∷◌, ◌++◌, length, Option, Some, None, refl, arith}
use Rattle.std.proofs.lemmas.Bool.{and_parts, leb-true}
use Rattle.std.specs.Prelude.{take, drop, slice_index, nat_le, ◌&&◌, if◌then◌else◌, IsTrue, IfSome}
use Rattle.std.specs.List.{AllByRecursion}
use Rattle.std.specs.Str.{bytes_eq}
use Rattle.dfs_record.specs.Name.{is_between, is_snap_name}
use Rattle.dfs_registry.specs.declared.listed.Listed.{Listed}
use Rattle.dfs_registry.specs.Body.{body_size, read_body, has_body, has_front, fields, repeats, is_listable}
use Rattle.dfs_registry.specs.Reading.{Reading, listing, not_a_registry, damaged, registry, follow, is_open, next_body, behind, step, unless_repeated, header}

abbrev pub HasFile : Listed → Type 0
HasFile l = l.job ≢ 0

abbrev pub AreNumbered : Reading → Type 0
AreNumbered (listing ls) = AllByRecursion HasFile ls
AreNumbered not_a_registry = Unit {0}
AreNumbered (damaged place) = Unit {0}

listable_numbered : (l : Listed) → IsTrue (is_listable l) → HasFile l
listable_numbered l is =
    let low : 1 ≤ l.job = leb-true 1 l.job (and_parts (nat_le 1 l.job) (nat_le l.job 4294967294) (and_parts (is_snap_name l.name) (is_between 1 4294967294 l.job) is).1).0 in
    λ none. absurd (omega (arith, low, none))

if_listed : (b : Bool) (l : Listed) → (b ≡ true → HasFile l) → IfSome (if b then Some l else None) HasFile
if_listed true l has = has refl
if_listed false l has = tt

body_numbered : (bytes : List ℕ) → IfSome (read_body bytes) HasFile
unfolding read_body has_body
body_numbered bytes =
    let l = take 92 bytes in
    if_listed (has_body l) (fields l) (λ has. listable_numbered (fields l) (and_parts (nat_le (body_size (slice_index l 3)) (length l) && has_front l) (is_listable (fields l)) has).1)

unrepeated : (before : List Listed) (o : Option Listed) → IfSome o HasFile → IfSome (unless_repeated before o) HasFile
unrepeated before None has = tt
unrepeated before (Some b) has = by (repeats before b)
  where
    by : (again : Bool) → IfSome (if again then None else Some b) HasFile
    by true = tt
    by false = has

next_numbered : (before : List Listed) (bytes : List ℕ) → IfSome (next_body before bytes) HasFile
unfolding next_body
next_numbered before bytes = unrepeated before (read_body bytes) (body_numbered bytes)

pushed : (ls : List Listed) (l : Listed) → AllByRecursion HasFile ls → HasFile l → AllByRecursion HasFile (ls ++ l ∷ [])
pushed [] l all has = (has, tt)
pushed (x ∷ ls) l all has = (all.0, pushed ls l all.1 has)

behind_numbered : (place : ℕ) (o : Option Listed) (go : Listed → Reading) → IfSome o HasFile → ((b : Listed) → HasFile b → AreNumbered (go b)) → AreNumbered (behind place o go)
behind_numbered place None go has each = tt
behind_numbered place (Some b) go has each = each b has

if_open : (b : Bool) (x y : Reading) → AreNumbered x → AreNumbered y → AreNumbered (if b then x else y)
if_open true x y p q = p
if_open false x y p q = q

follow_numbered : (left : ℕ) (before : List Listed) (place : ℕ) (bytes : List ℕ) → AllByRecursion HasFile before → AreNumbered (follow left before place bytes)
unfolding follow
follow_numbered zero before place bytes all = if_open (is_open bytes) (damaged (place + 1)) (listing before) tt all
follow_numbered (suc left) before place bytes all =
    let go : Listed → Reading = λ b. follow left (before ++ b ∷ []) (place + step b) (drop (step b) bytes) in
    let next = next_body before (drop 1 bytes) in
    if_open (is_open bytes) (behind (place + 1) next go) (listing before)
    (behind_numbered (place + 1) next go (next_numbered before (drop 1 bytes)) (λ b has. follow_numbered left (before ++ b ∷ []) (place + step b) (drop (step b) bytes) (pushed before b all has)))
    all

pub registry_numbered : (bytes : List ℕ) → AreNumbered (registry bytes)
unfolding registry
registry_numbered bytes =
    if_open (nat_le (length bytes) 9) (listing []) (if bytes_eq (take 8 bytes) header then follow 4096 [] 8 (drop 8 bytes) else not_a_registry) tt
    (if_open (bytes_eq (take 8 bytes) header) (follow 4096 [] 8 (drop 8 bytes)) not_a_registry (follow_numbered 4096 [] 8 (drop 8 bytes) tt) tt)
