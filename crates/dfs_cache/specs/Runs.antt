-- Runs of calls, and what is found after them.
use Rattle.std.specs.Prelude.{◌≡◌, ◌<◌, false, if◌then◌else◌, List, fold, length, Option, Some, None}
use Rattle.std.specs.List.{AllByRecursion}
use Rattle.std.specs.Map.{lookup}
use Rattle.dfs_record.specs.declared.Key.{Key}
use Rattle.dfs_record.specs.declared.Entry.{Entry}
use Rattle.dfs_cache.specs.Latest.{Latest, IsLatest, brought_forward, put_first, same_key, taken_off}

pub data Call : Type 0 where
  getting : Key → Call
  putting : Key → Option Entry → Call
  forgetting : Key → Call

abbrev pub after : Latest → Call → Latest
after l (getting key) = brought_forward key l
after l (putting key found) = put_first key found l
after l (forgetting key) = taken_off key l

-- the call neither puts nor forgets this key
abbrev pub Leaves : Key → Call → Type 0
Leaves key (getting other) = Unit {0}
Leaves key (putting other found) = same_key key other ≡ false
Leaves key (forgetting other) = same_key key other ≡ false

-- What was put at a key is found after fewer further calls than the capacity, where none of them puts or forgets the key: the
-- pairs that go are those used longest ago.
abbrev pub StaysFound : Type 0
StaysFound = (l : Latest) (key : Key) (found : Option Entry) (calls : List Call) → AllByRecursion (Leaves key) calls → length calls < l.capacity
    → lookup (same_key key) (fold after (put_first key found l) calls).pairs ≡ Some found

-- nothing is found at a key that was forgotten, and the same as before at each other one
abbrev pub IsForgotten : Type 0
IsForgotten = (l : Latest) (key other : Key) → IsLatest l
    → lookup (same_key other) (taken_off key l).pairs ≡ (if same_key key other then None else lookup (same_key other) l.pairs)

-- a look-up changes what is found at no key
abbrev pub GettingChangesNothing : Type 0
GettingChangesNothing = (l : Latest) (key other : Key) → IsLatest l → lookup (same_key other) (brought_forward key l).pairs ≡ lookup (same_key other) l.pairs
