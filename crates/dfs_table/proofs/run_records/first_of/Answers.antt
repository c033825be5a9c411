use Rattle.std.proofs.Common.{arith, ap, sym, refl, ◌∙◌}
use Rattle.dfs_record.specs.Lend.{record_of}
use Rattle.dfs_block.specs.Front.{records_front}
use Rattle.dfs_block.proofs.Spelled.{none_is, front_zero, front_none, front_more}
use Rattle.dfs_table.proofs.run_records.first_of.Goals as goal

pub returns-then-left-eq0-clause-none : goal.returns-then-left-eq0-clause-none
returns-then-left-eq0-clause-none c = λ none. ap (λ n. records_front n c.args.bytes.now) c.if-left-eq0.true ∙ front_zero c.args.bytes.now

pub returns-in_err-rec-clause-none : goal.returns-in_err-rec-clause-none
returns-in_err-rec-clause-none c = λ none. front_none c.args.left c.args.bytes.now (none_is c.args.bytes.now (λ i. omega (arith, c.type_inv.bytes i)) (c.in_err-rec.ensures.none.0 refl))

pub returns-clause-some : goal.returns-clause-some
returns-clause-some c = (
  omega (arith, c.if-left-eq0.false),
  sym (front_more c.args.left c.args.bytes.now (record_of c.in_ok-rec.rec) c.in_ok-rec.len c.split_at.result.1.now (omega (arith, c.if-left-eq0.false)) c.in_ok-rec.ensures.found c.split_at.ensures.back),
)
