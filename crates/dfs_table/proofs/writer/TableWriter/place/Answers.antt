use Rattle.std.proofs.Common.{◌≡◌, ◌≤◌, ◌∷◌, ◌++◌, [], ℕ, List, cond, length, ◌∙◌, sym, ap, subst, arith}
use Rattle.std.specs.Prelude.{Option, Some, None}
use Rattle.dfs_record.specs.declared.Key.{Key}
use Rattle.dfs_record.specs.declared.Record.{Record}
use Rattle.dfs_record.specs.Lend.{record_of}
use Rattle.dfs_block.specs.Block.{block_bytes, last_key, most_bytes}
use Rattle.dfs_block.specs.Block.{IsAboveLast as IsAboveRecords}
use Rattle.dfs_fence.specs.Index.{IsAboveLast, last_end}
use Rattle.dfs_fence.proofs.Spelled.{some_is}
use Rattle.dfs_table.specs.Steps.{IsReady}
use Rattle.dfs_table.specs.Writer.{IsSound, WriterState, fences_of}
use Rattle.dfs_table.proofs.Lengths.{alone_fits}
use Rattle.dfs_table.proofs.writer.TableWriter.place.Goals as goal

-- above the last record, and so above the end of its fence
above_end : (o : Option Key) (key : Key) → IsAboveRecords o key → IsAboveLast o key
above_end None key above = tt
above_end (Some last) key above = above

-- the writer of a block that begins with this record
sound_with : (last : Option Key) (count : ℕ) (w : WriterState) (r : Record) → IsReady last count w → IsAboveLast last r.key → IsSound (record w { records = r ∷ [] })
sound_with last count w r ready above = record {
  few = ready.few;
  none = λ e. absurd cc;
  rise = ready.rise;
  above = λ key first. subst (IsAboveLast (last_end (fences_of w))) (some_is r.key key first) (subst (λ o. IsAboveLast o r.key) (sym ready.last_is) above);
  begun = omega (arith, ready.room);
  full = ready.full;
  some = ready.some;
}

pub returns-clause-sound : goal.returns-clause-sound
returns-clause-sound g c =
    let r = record_of c.args.rec in
    let w = c.next_block.new.self in
    let ready = c.in_ok-next_block.ensures.ready in
    let kept : c.push.new.self ≡ c.args.self.now.records =
    c.push.ensures.records ∙ ap (λ b. cond b (c.self.inside.block ++ r ∷ []) c.self.inside.block) c.if-push.false ∙ ap (λ (v : WriterState). v.records) c.self.view_is in
    let above = above_end (last_key c.push.new.self) r.key (subst (λ rs. IsAboveRecords (last_key rs) r.key) (sym kept) c.requires.above) in
    let none : c.self-2.inside.block ≡ [] = ap (λ (v : WriterState). v.records) c.self-2.view_is ∙ ready.records in
    let fits = c.push-2.ensures.fits.1 (subst (λ (rs : List Record). length (block_bytes (rs ++ r ∷ [])) ≤ most_bytes) (sym none) (alone_fits r c.requires.valid)) in
    let begun : c.push-2.new.self ≡ r ∷ [] =
    c.push-2.ensures.records ∙ ap (λ b. cond b (c.self-2.inside.block ++ r ∷ []) c.self-2.inside.block) fits ∙ ap (λ rs. rs ++ r ∷ []) none in
    subst IsSound
    (ap (λ rs. record w { records = rs }) (sym begun) ∙ sym (ap (λ (v : WriterState). record v { records = c.push-2.new.self }) c.self-2.view_is))
    (sound_with _ _ w r ready above)
