use Rattle.std.proofs.Common.{◌≤◌, ◌+◌, length, drop, arith, ap, sym, subst, ◌∙◌, ◌++◌, ◌∷◌, [], List}
use Rattle.dfs_record.specs.declared.Record.{Record}
use Rattle.dfs_record.specs.Lend.{record_of}
use Rattle.dfs_record.specs.Record.{spelling}
use Rattle.dfs_block.specs.Block.{IsAboveLast, last_key}
use Rattle.dfs_block.specs.Built.{IsBuilt}
use Rattle.dfs_block.specs.Front.{records_front}
use Rattle.dfs_block.proofs.Building.{one_more, again, seen, few}
use Rattle.dfs_block.proofs.Rising.{rise_above, last_more}
use Rattle.dfs_block.proofs.builder.BlockBuilder.push.Goals as goal

pub overflow_add-self : goal.overflow_add-self
overflow_add-self c = omega (arith, few _ _ _ c.self.invariant)

built : (c : goal.After-put_count) → IsBuilt c.put_count.new.bytes (c.self.inside.count + 1) (records_front c.self.inside.count (drop 2 c.self.inside.bytes.items) ++ record_of c.args.rec ∷ [])
built c =
    let r = record_of c.args.rec in
    let fits : length c.self.inside.bytes.items + length (spelling r) ≤ 4096 = omega (arith, c.if-len-record_len-gt-MOST_BYTES.false, c.len.ensures, c.record_len.ensures.len) in
    one_more c.self.inside.bytes c.append.new.bytes c.put_count.new.bytes c.self.inside.count _ r c.self.invariant c.requires.valid
    (rise_above (records_front c.self.inside.count (drop 2 c.self.inside.bytes.items)) r c.self.invariant.rise (subst (λ (rs : List Record). IsAboveLast (last_key rs) r.key) (sym c.self.view_is) c.requires.above)) fits c.append.ensures.items c.append.ensures.capacity c.put_count.ensures.items c.put_count.ensures.capacity

pub invariant_of-self : goal.invariant_of-self
invariant_of-self c = again c.put_count.new.bytes _ _ (built c)

pub returns-clause-records : goal.returns-clause-records
returns-clause-records c = seen c.put_count.new.bytes _ _ (built c) ∙ ap (λ (rs : List Record). rs ++ record_of c.args.rec ∷ []) c.self.view_is

pub returns-clause-last : goal.returns-clause-last
returns-clause-last c = λ _. ap last_key (seen c.put_count.new.bytes _ _ (built c)) ∙ last_more (records_front c.self.inside.count (drop 2 c.self.inside.bytes.items)) (record_of c.args.rec)
