-- Escaped words: `%` and two hexadecimal digits stand for a byte, other bytes for themselves.
use Rattle.std.specs.Prelude.{◌≡◌, ◌<◌, All, MatchOption, is_some, length, ℕ, ◌+◌, ◌-◌, ◌*◌, ◌/◌, ◌%◌, ◌&&◌, ◌||◌, ◌==◌, nat_le, nat_lt, if◌then◌else◌, List, [], ◌∷◌, flat_map, Option, Some, None, option_map, option_and_then}
use Rattle.std.specs.Borrow.{Bor}
use Rattle.dfs_record.specs.Name.{is_between}

-- the value of a hexadecimal digit of either case
abbrev pub hex_value : ℕ → Option ℕ
hex_value b = if is_between 48 57 b then Some (b - 48) else (if is_between 65 70 b then Some (b - 55) else (if is_between 97 102 b then Some (b - 87) else None))

abbrev pub hex_pair : ℕ → ℕ → Option ℕ
hex_pair c d = option_and_then (λ high. option_map (λ low. 16 * high + low) (hex_value d)) (hex_value c)

-- a byte that a word has, but for the percent sign
abbrev pub plain_byte : ℕ → Option ℕ
plain_byte b = if is_between 33 126 b && (nat_lt b 37 || nat_lt 37 b) then Some b else None

abbrev pub byte_before : Option ℕ → Option (List ℕ) → Option (List ℕ)
byte_before byte rest = option_and_then (λ b. option_map (λ bs. b ∷ bs) rest) byte

-- the bytes that an escaped word means
abbrev pub unescaped : List ℕ → Option (List ℕ)
unescaped [] = Some []
unescaped (b ∷ []) = byte_before (plain_byte b) (Some [])
unescaped (b ∷ c ∷ []) = byte_before (plain_byte b) (unescaped (c ∷ []))
unescaped (b ∷ c ∷ d ∷ bs) =
    let escape = byte_before (hex_pair c d) (unescaped bs) in
    let plain = byte_before (plain_byte b) (unescaped (c ∷ d ∷ bs)) in
    if b == 37 then escape else plain

-- an upper-case hexadecimal digit
abbrev pub hex_digit : ℕ → ℕ
hex_digit n = if nat_lt n 10 then 48 + n else 55 + n

-- a byte as it is printed: as it is, or as a percent sign and two digits
abbrev pub printed_byte : ℕ → List ℕ
printed_byte b = if nat_le b 32 || b == 37 || nat_le 127 b then 37 ∷ hex_digit (b / 16) ∷ hex_digit (b % 16) ∷ [] else b ∷ []

abbrev pub escaped : List ℕ → List ℕ
escaped bytes = flat_map printed_byte bytes

-- What stands behind the first byte or escape of a word, which means bytes where the rest does. Nothing does where the word means none.
abbrev pub ReadsOn : List ℕ → Option (Bor (List ℕ)) → Type 0
ReadsOn word behind = MatchOption behind (unescaped word ≡ None) (λ rest. (is_some (unescaped word) ≡ is_some (unescaped rest.now)) × (length rest.now < length word))

abbrev pub IsByte : ℕ → Type 0
IsByte b = b < 256

-- what is printed means what it was printed from
abbrev pub PrintedReadsBack : Type 0
PrintedReadsBack = (bytes : List ℕ) → All IsByte bytes → unescaped (escaped bytes) ≡ Some bytes
