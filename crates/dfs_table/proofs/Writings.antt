-- Sources that are being written to logs.
use Rattle.std.proofs.Common.{◌≡◌, ◌≤◌, ◌<◌, ◌+◌, ◌++◌, ◌∷◌, [], ℕ, List, length, take, refl, ◌∙◌, sym, ap, subst, arith, append-nil}
use Rattle.std.specs.Prelude.{Some}
use Rattle.std.proofs.lemmas.List.{length-take, take-take}
use Rattle.dfs_host.specs.Host.{HostState, Told, bytes_of, Only}
use Rattle.dfs_host.proofs.Moments.{only_goes_on}
use Rattle.dfs_record.specs.declared.Key.{Key}
use Rattle.dfs_record.specs.declared.Record.{Record}
use Rattle.dfs_record.specs.declared.RecordRef.{RecordRef}
use Rattle.dfs_record.specs.declared.records.Head.{Head}
use Rattle.dfs_record.specs.declared.records.Head.TheVariants.{Item, Hungry, End}
use Rattle.dfs_record.specs.Records.{KeysRise, IsBelow, IsHead}
use Rattle.dfs_block.specs.Block.{first_key}
use Rattle.dfs_block.proofs.Rising.{below_second}
use Rattle.dfs_fence.proofs.Spelled.{some_is}
use Rattle.dfs_log.specs.Logs.{LogState, LogStands}
use Rattle.dfs_table.specs.Appending.{Appends}
use Rattle.dfs_table.specs.Writer.{WriterState, pushed}
use Rattle.dfs_table.specs.Written.{IsWriting}

-- what stands behind a record is above it
pub next_above : (r : Record) (rs : List Record) → KeysRise (r ∷ rs) → (key : Key) → first_key rs ≡ Some key → IsBelow r.key key
next_above r [] rise key first = absurd cc
next_above r (s ∷ rs) rise key first = subst (IsBelow r.key) (some_is s.key key first) (below_second r s rs rise)

-- where no record stands at the front, none of the loaded ones is left
pub none_left : (rest : List Record) (unread : ℕ) (head : Head) → ((r : RecordRef) → head ≡ Item r → ⊥) → IsHead rest unread head → rest ≡ []
none_left rest unread (Item r) not is = absurd (not r refl)
none_left rest unread Hungry not is = is.0
none_left rest unread End not is = is.0

longer : {start mid : HostState} {log_start log : LogState} → LogStands start log_start → LogStands mid log → log.file ≡ log_start.file → take log_start.len (bytes_of mid log_start.file) ≡ bytes_of start log_start.file → log_start.len ≤ log.len
longer {mid = mid} {log_start = log_start} stood stands same kept =
    omega (arith, ap length kept, length-take log_start.len (bytes_of mid log_start.file), stood.len, stands.len, ap (λ n. length (bytes_of mid n)) same)

-- ---- a call that appends after others

module _ {start mid new : HostState} {log_start log : LogState} (left : Appends start mid log_start log) (only : Only log.file mid new) where
  pub only_on : Only log_start.file start new
  only_on = only_goes_on left.only (subst (λ n. Only n mid new) left.file only)

module _ {start mid : HostState} {log_start log : LogState} (new : HostState) (stood : Told start (LogStands start log_start)) (stands : Told start (LogStands mid log)) (left : Appends start mid log_start log)
    (before : Told mid (take log.len (bytes_of new log.file) ≡ bytes_of mid log.file)) where
  pub before_on : Told start (take log_start.len (bytes_of new log_start.file) ≡ bytes_of start log_start.file)
  before_on tells =
      sym (take-take log_start.len log.len (bytes_of new log_start.file) (longer (stood tells) (stands tells) left.file (left.before tells)))
      ∙ ap (take log_start.len) (subst (λ n. take log.len (bytes_of new n) ≡ bytes_of mid n) left.file (before (left.only.tells ∙ tells)))
      ∙ left.before tells

  module _ {now : LogState} (only : Only log.file mid new) (reads : new.reads ≡ mid.reads) (file : now.file ≡ log.file) (limit : now.limit ≡ log.limit) (over : 0 < now.refused → now.limit < now.len + now.refused) where
    pub appends_on : Appends start new log_start now
    appends_on = record {
      before = before_on;
      only = only_on left only;
      reads = reads ∙ left.reads;
      file = file ∙ left.file;
      limit = limit ∙ left.limit;
      over = over;
    }

-- with no record left all were given to the writer
pub all_written : {start mid : HostState} {log_start log : LogState} {tables : ℕ} {all rest : List Record} {w : WriterState} → IsWriting start mid log_start log tables all rest w → rest ≡ [] → Told start (pushed (bytes_of mid log_start.file) w ≡ all)
all_written {mid = mid} {log_start = log_start} {w = w} h none tells = sym (append-nil _) ∙ ap (λ l. pushed (bytes_of mid log_start.file) w ++ l) (sym none) ∙ h.written tells
