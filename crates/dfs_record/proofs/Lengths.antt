-- How long spellings are.
use Rattle.std.proofs.Common.{ℕ, ◌≤◌, not, List, length, arith, length-append}
use Rattle.std.specs.Prelude.{nat_le, IsTrue}
use Rattle.std.specs.List.{list_all}
use Rattle.std.proofs.lemmas.Bool.{leb-true}
use Rattle.dfs_record.specs.declared.Key.{Key}
use Rattle.dfs_record.specs.declared.Entry.TheVariants.{Dir, File}
use Rattle.dfs_record.specs.declared.Value.{Value}
use Rattle.dfs_record.specs.declared.Value.TheVariants.{Del, Put}
use Rattle.dfs_record.specs.Name.{IsName, is_between, is_name_byte, is_dots}
use Rattle.dfs_record.specs.Record.{IsKey, IsValue, key_bytes, value_bytes, IsSpelledShort}
use Rattle.dfs_record.proofs.Readings.{first_true, second_true}

at_most : (low high n : ℕ) → IsTrue (is_between low high n) → n ≤ high
at_most low high n h = leb-true n high (second_true (nat_le low n) (nat_le n high) h)

name_length : (name : List ℕ) → IsName name → length name ≤ 255
name_length name h = at_most 1 255 (length name) (first_true (is_between 1 255 (length name)) (list_all is_name_byte name) (first_true _ (not (is_dots name)) h))

pub key_length : (key : Key) → IsKey key → length (key_bytes key) ≤ 264
key_length key valid = omega (arith, name_length key.name valid.name)

value_length : (v : Value) → IsValue v → length (value_bytes v) ≤ 275
value_length Del valid = omega arith
value_length (Put (Dir id mode time)) valid = omega arith
value_length (Put (File mode time size reference)) valid = omega (arith, at_most 1 255 (length reference) valid.3)

pub spelled_short : IsSpelledShort
spelled_short r valid = omega (arith, length-append (key_bytes r.key) (value_bytes r.value), key_length r.key valid.key, value_length r.value valid.value)
