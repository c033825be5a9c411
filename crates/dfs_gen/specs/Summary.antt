-- What is said of the replies of a run: their counts and their bytes.
use Rattle.std.specs.Prelude.{ℕ, ◌+◌, ◌-◌, ◌^◌, min, Bool, not, ◌==◌, nat_eq, if◌then◌else◌, List, [], ◌∷◌, ◌++◌, length, count_by, sum_by, codes, decimal}
use Rattle.std.specs.List.{starts_with}

pub record Counts : Type 0 where
  -- replies that are not empty
  pub said : ℕ
  -- replies that begin with `ok`, and those that begin with `error`
  pub ok : ℕ
  pub error : ℕ
  -- the bytes of all replies
  pub bytes : ℕ

-- a number that would pass the last one of 64 bits stays there
abbrev pub capped : ℕ → ℕ
capped number = min number (2 ^ 64 - 1)

abbrev pub is_said : List ℕ → Bool
is_said reply = not (length reply == 0)

abbrev pub is_ok : List ℕ → Bool
is_ok reply = starts_with nat_eq reply (codes "ok")

abbrev pub is_error : List ℕ → Bool
is_error reply = starts_with nat_eq reply (codes "error")

-- the counts of some replies; a reply of several lines is one
abbrev pub counts_of : List (List ℕ) → Counts
counts_of replies = record {
  said = capped (count_by is_said replies);
  ok = capped (count_by is_ok replies);
  error = capped (count_by is_error replies);
  bytes = capped (sum_by length replies);
}

-- one reply more
abbrev pub one_if : Bool → ℕ
one_if passes = if passes then 1 else 0

abbrev pub counted : Counts → List ℕ → Counts
counted counts reply = record {
  said = capped (counts.said + one_if (is_said reply));
  ok = capped (counts.ok + one_if (is_ok reply));
  error = capped (counts.error + one_if (is_error reply));
  bytes = capped (counts.bytes + length reply);
}

-- the line that is said
abbrev pub summary_text : Counts → List ℕ
summary_text counts = codes "lines " ++ decimal counts.said ++ codes " ok " ++ decimal counts.ok ++ codes " error " ++ decimal counts.error ++ codes " bytes " ++ decimal counts.bytes ++ 10 ∷ []
