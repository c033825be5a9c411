-- The steps of a writer on a host.
use Rattle.std.proofs.Common.{◌≡◌, ◌≤◌, ◌<◌, ◌+◌, ◌*◌, ◌++◌, ◌∷◌, [], ℕ, List, length, ◌∙◌, sym, ap, subst, arith}
use Rattle.std.proofs.lemmas.List.{append_cancel_left, length-append, length-take}
use Rattle.dfs_host.specs.Host.{HostState, Told, bytes_of}
use Rattle.dfs_log.specs.Logs.{LogState, LogStands}
use Rattle.dfs_block.specs.Block.{block_bytes, last_key}
use Rattle.dfs_fence.specs.Index.{AreApart, index_bytes, last_end, most_fences}
use Rattle.dfs_table.specs.Appending.{Appends, HasAppended}
use Rattle.dfs_table.specs.Steps.{ClosesBlock, ClosesTable, IsReady}
use Rattle.dfs_table.specs.declared.table.Table.{Table}
use Rattle.dfs_table.specs.Tables.{all_fences}
use Rattle.dfs_table.specs.Counts.{count_of}
use Rattle.dfs_table.specs.Writer.{AddsBlock, AddsTable, IsFull, IsSound, WriterStands, WriterState, begun, count_in, fences_of, owed, pushed}
use Rattle.dfs_table.proofs.Stays.{all_append}
use Rattle.std.specs.List.{AllByRecursion}
use Rattle.std.proofs.lemmas.List.Sums.{sum_by-append, sum_by-cons}
use Rattle.dfs_fence.specs.declared.fence.Fence.{Fence}
use Rattle.dfs_table.proofs.Closing.{block_ends, block_fences, block_pushed, block_rises, block_stands, table_fences, table_pushed, table_stands}
use Rattle.dfs_table.proofs.Lengths.{block_cost, index_cost}

begun_some : (w : WriterState) → 1 ≤ length w.records → begun w ≡ length w.closed + 1
begun_some w some = omega (arith, length-take 1 w.records)

long : {host : HostState} {log : LogState} → LogStands host log → 12 ≤ length (bytes_of host log.file)
long stands = omega (arith, stands.len, stands.header_inside)

module _ {host mid : HostState} {log next : LogState} {old new : WriterState} (log_stands : Told host (LogStands host log)) (stands : Told host (WriterStands (bytes_of host log.file) old)) where
  module _ (step : ClosesBlock log.len old new) (done : HasAppended host mid log next (block_bytes old.records)) where
    block_step : Told host (ClosesBlock (length (bytes_of host log.file)) old new)
    block_step tells = subst (λ n. ClosesBlock n old new) (sym (log_stands tells).len) step

    pub after_block : Told host (WriterStands (bytes_of mid log.file) new)
    after_block tells = subst (λ b. WriterStands b new) (sym (done.bytes tells)) (block_stands (bytes_of host log.file) old new (stands tells) (long (log_stands tells)) (block_step tells))

    pub same_after_block : Told host (pushed (bytes_of mid log.file) new ≡ pushed (bytes_of host log.file) old)
    same_after_block tells = ap (λ b. pushed b new) (done.bytes tells) ∙ block_pushed (bytes_of host log.file) old new (stands tells) (long (log_stands tells)) (block_step tells)

  module _ {job : ℕ} (step : ClosesTable job log.len old new) (done : HasAppended host mid log next (index_bytes old.fences)) where
    table_step : Told host (ClosesTable job (length (bytes_of host log.file)) old new)
    table_step tells = subst (λ n. ClosesTable job n old new) (sym (log_stands tells).len) step

    pub after_table : Told host (WriterStands (bytes_of mid log.file) new)
    after_table tells = subst (λ b. WriterStands b new) (sym (done.bytes tells)) (table_stands (bytes_of host log.file) old new (stands tells) (long (log_stands tells)) (table_step tells))

    pub same_after_table : Told host (pushed (bytes_of mid log.file) new ≡ pushed (bytes_of host log.file) old)
    same_after_table tells = ap (λ b. pushed b new) (done.bytes tells) ∙ table_pushed (bytes_of host log.file) old new (stands tells) (long (log_stands tells)) (table_step tells)

-- a block and then its table
module _ {host mid end : HostState} {log next now : LogState} {old between new : WriterState} {job : ℕ} (log_stands : Told host (LogStands host log)) (stands : Told host (WriterStands (bytes_of host log.file) old))
    (left : Appends host mid log next) (block : ClosesBlock log.len old between) (done : HasAppended host mid log next (block_bytes old.records))
    (table : ClosesTable job next.len between new) (then : HasAppended mid end next now (index_bytes between.fences)) where
  between_stands : Told host (Told mid (WriterStands (bytes_of mid next.file) between))
  between_stands tells _ = subst (λ n. WriterStands (bytes_of mid n) between) (sym left.file) (after_block log_stands stands block done tells)

  pub after_both : Told host (WriterStands (bytes_of end log.file) new)
  after_both tells = subst (λ n. WriterStands (bytes_of end n) new) left.file (after_table (λ _. done.stands tells) (between_stands tells) table then (left.only.tells ∙ tells))

  pub same_after_both : Told host (pushed (bytes_of end log.file) new ≡ pushed (bytes_of host log.file) old)
  same_after_both tells =
      ap (λ n. pushed (bytes_of end n) new) (sym left.file)
      ∙ same_after_table (λ _. done.stands tells) (between_stands tells) table then (left.only.tells ∙ tells)
      ∙ ap (λ n. pushed (bytes_of mid n) between) left.file ∙ same_after_block log_stands stands block done tells

-- ---- what may come next

module _ {place : ℕ} {old new : WriterState} (step : ClosesBlock place old new) (sound : IsSound old) where
  pub rises_after_block : AreApart (fences_of new)
  rises_after_block = block_rises place old new step sound.rise sound.above

  some_after_block : AllByRecursion (λ (f : Fence). 1 ≤ f.count) (fences_of new)
  some_after_block =
      subst (AllByRecursion (λ (f : Fence). 1 ≤ f.count)) (sym (block_fences place old new step))
      (all_append (λ (f : Fence). 1 ≤ f.count) (fences_of old) (step.fence ∷ []) sound.some (omega (arith, step.states.count, step.states.block.some), tt))

  counted_after_block : count_of (fences_of new) ≡ count_in old
  counted_after_block =
      omega (arith, ap count_of (block_fences place old new step), sum_by-append (λ (f : Fence). f.count) (fences_of old) (step.fence ∷ []), sum_by-cons (λ (f : Fence). f.count) step.fence [], step.states.count)

  pub ready_after_block : 1 ≤ length old.records → new.tables_left ≡ old.tables_left → length new.fences < most_fences → IsReady (last_key old.records) (count_in old) new
  ready_after_block some same few = record {
    records = step.records;
    full = subst (AllByRecursion IsFull) (sym step.closed) sound.full;
    some = some_after_block;
    counted = counted_after_block;
    few = few;
    rise = rises_after_block;
    last_is = block_ends place old new step;
    room = omega (arith, sound.begun, begun_some old some, ap length step.closed, same);
  }

  module _ {job at : ℕ} {end : WriterState} (next : ClosesTable job at new end) where
    same_fences : fences_of end ≡ fences_of new
    same_fences = table_fences job at new end next

    pub counted_after_table : count_of (fences_of end) ≡ count_in old
    counted_after_table = ap count_of same_fences ∙ counted_after_block

    pub ready_after_table : length new.fences ≡ most_fences → length end.closed < end.tables_left → IsReady (last_key old.records) (count_in old) end
    ready_after_table whole room = record {
      full = subst (AllByRecursion IsFull) (sym next.closed)
          (all_append IsFull new.closed (next.table ∷ []) (subst (AllByRecursion IsFull) (sym step.closed) sound.full) (ap length next.table_fences ∙ whole, tt));
      some = subst (AllByRecursion (λ (f : Fence). 1 ≤ f.count)) (sym same_fences) some_after_block;
      counted = counted_after_table;
      records = next.records ∙ step.records;
      few = omega (arith, ap length next.fences);
      rise = subst AreApart (sym same_fences) rises_after_block;
      last_is = ap last_end same_fences ∙ block_ends place old new step;
      room = room;
    }

-- ---- what the steps added

module _ {place : ℕ} {old new : WriterState} (step : ClosesBlock place old new) where
  pub added_block : AddsBlock place old new
  added_block = record {
    fence = step.fence;
    at = step.states.at;
    index_at = λ t e. absurd (omega (arith, ap length e, ap length step.closed, length-append old.closed (t ∷ [])));
    fences = block_fences place old new step;
    count = step.states.count;
    first = step.states.first;
    last = step.states.last;
  }

  module _ {job at : ℕ} {end : WriterState} (next : ClosesTable job at new end) (behind : at ≡ place + length (block_bytes old.records)) where
    index_behind : next.table.index_at ≡ place + step.fence.len
    index_behind = omega (arith, next.index_at, behind, step.states.len)

    tables_more : end.closed ≡ old.closed ++ next.table ∷ []
    tables_more = next.closed ∙ ap (λ ts. ts ++ next.table ∷ []) step.closed

    pub added_block_before : AddsBlock place old end
    added_block_before = record {
      fence = step.fence;
      at = step.states.at;
      index_at = λ t e.
          let same = append_cancel_left old.closed (next.table ∷ []) (t ∷ []) (sym tables_more ∙ e) in
          (subst (AllByRecursion (λ (u : Table). u.index_at ≡ place + step.fence.len)) same (index_behind, tt)).0;
      fences = table_fences job at new end next ∙ block_fences place old new step;
      count = step.states.count;
      first = step.states.first;
      last = step.states.last;
    }

    pub added_table : AddsTable place old end.closed
    added_table = record {
      table = next.table;
      fence = step.fence;
      at = step.states.at;
      index_at = index_behind;
      tables = tables_more;
      fences = next.table_fences ∙ step.fences;
      count = step.states.count;
      first = step.states.first;
      last = step.states.last;
    }

-- ---- what the steps cost

module _ {place : ℕ} {old new : WriterState} (step : ClosesBlock place old new) where
  pub block_owed : length (block_bytes old.records) + owed new ≤ owed old
  block_owed = omega (arith, block_cost old.records step.states.block, ap length step.records, ap length step.fences, length-append old.fences (step.fence ∷ []))

module _ {job place : ℕ} {old new : WriterState} (step : ClosesTable job place old new) where
  pub table_owed : length (index_bytes old.fences) + owed new ≤ owed old
  table_owed = omega (arith, index_cost old.fences step.index, ap length step.records, ap length step.fences)

-- as many records as blocks
counts_some : (fs : List Fence) → AllByRecursion (λ (f : Fence). 1 ≤ f.count) fs → length fs ≤ count_of fs
counts_some [] all = omega arith
counts_some (f ∷ fs) all = omega (arith, sum_by-cons (λ (f : Fence). f.count) f fs, counts_some fs all.1, all.0)

pub full_length : (ts : List Table) → AllByRecursion IsFull ts → length (all_fences ts) ≡ 4096 * length ts
full_length [] all = omega arith
full_length (t ∷ ts) all = omega (arith, length-append t.fences (all_fences ts), full_length ts all.1, all.0)

-- each closed table has 4,096 blocks, and each block a record
pub blocks_enough : (w : WriterState) → IsSound w → 4096 * length w.closed + length w.fences + length w.records ≤ count_in w
blocks_enough w sound = omega (arith, counts_some (fences_of w) sound.some, length-append (all_fences w.closed) w.fences, full_length w.closed sound.full)

pub closed_enough : (w : WriterState) → IsSound w → 4096 * length w.closed ≤ count_in w
closed_enough w sound = omega (arith, blocks_enough w sound)
