-- What a buffer is seen as.
use Rattle.std.specs.Prelude.{◌≡◌, ℕ, ◌+◌, ◌^◌, ◌-◌, min, List, length, Option, Some, None, refl}
use Rattle.std.specs.Coded.{Coded, code_by, coded×, coded_ℕ, coded_option}
use Rattle.dfs_record.specs.declared.Entry.{Entry}
use Rattle.dfs_record.specs.declared.Record.{Record}
use Rattle.dfs_record.specs.declared.Value.{Value}
use Rattle.dfs_record.specs.declared.Value.TheVariants.{Del, Put}
use Rattle.dfs_record.specs.Delta.{Delta, delta, with_record}
use Rattle.dfs_record.specs.KeyMap.{empty, code}
use Rattle.dfs_record.specs.Namespace.{entry_code}

-- what the records that were put leave at each key, and how many were put, counted up to the greatest u32
pub record Buffered : Type 0 where
  pub held : Delta
  pub made : ℕ

abbrev pub nothing : Buffered
nothing = record { held = empty; made = 0 }

abbrev pub counted : ℕ → ℕ
counted n = min n (2 ^ 32 - 1)

abbrev pub after_put : Buffered → Record → Buffered
after_put b r = record { held = with_record b.held r; made = counted (b.made + 1) }

-- the buffer has what these records leave, and their number
pub record StandsFor (b : Buffered) (rs : List Record) : Type 0 where
  pub held : b.held ≡ delta rs
  pub made : b.made ≡ counted (length rs)

-- ---- a buffer stored as plain data

abbrev value_parts : Value → Option Entry
value_parts Del = None
value_parts (Put entry) = Some entry

abbrev value_from : Option Entry → Value
value_from None = Del
value_from (Some entry) = Put entry

pub value_back : (v : Value) → value_from (value_parts v) ≡ v
value_back Del = refl
value_back (Put entry) = refl

abbrev pub value_code : Coded Value
value_code = code_by (Option Entry) (coded_option entry_code) value_parts value_from value_back

abbrev pub buffered_code : Coded Buffered
buffered_code = code_by (Delta × ℕ) (coded× (code value_code) coded_ℕ) (λ b. (b.held, b.made)) (λ p. record { held = p.0; made = p.1 }) (λ _. refl)
