use Rattle.std.proofs.Common.{arith, ap, sym, subst, refl, ◌∙◌}
use Rattle.dfs_record.specs.Lend.{record_of}
use Rattle.dfs_record.specs.Records.{KeysRise}
use Rattle.dfs_block.specs.Front.{records_front}
use Rattle.dfs_block.proofs.Spelled.{none_is, front_zero, front_none, front_more}
use Rattle.dfs_block.proofs.records.BlockRecords.at.Goals as goal

pub returns-then-count-eq0 : goal.returns-then-count-eq0
returns-then-count-eq0 c = c.none.ensures ∙ sym (ap (λ n. records_front n c.args.bytes.now) c.if-count-eq0.true ∙ front_zero c.args.bytes.now)

pub returns-in_default : goal.returns-in_default
returns-in_default c =
    c.none-in_default.ensures ∙ sym (front_none c.args.count c.args.bytes.now (none_is c.args.bytes.now (λ i. omega (arith, c.type_inv.bytes i)) (c.in_default.ensures.none.0 refl)))

pub invariant_of-result : goal.invariant_of-result
invariant_of-result c = record {
  rise = subst KeysRise (sym (front_more c.args.count c.args.bytes.now (record_of c.in-Some.rec) c.in-Some.len c.split_at.result.1.now (omega (arith, c.if-count-eq0.false)) c.in-Some.ensures.found c.split_at.ensures.back)) c.requires;
  valid = c.in-Some.ensures.found.1.0;
}

pub returns : goal.returns
returns c = front_more c.args.count c.args.bytes.now (record_of c.in-Some.rec) c.in-Some.len c.split_at.result.1.now (omega (arith, c.if-count-eq0.false)) c.in-Some.ensures.found c.split_at.ensures.back
