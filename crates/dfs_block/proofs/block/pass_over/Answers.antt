use Rattle.std.proofs.Common.{◌≡◌, ◌<◌, length, arith, ap, sym, ◌∙◌, refl}
use Rattle.std.specs.Prelude.{Some, option_map}
use Rattle.dfs_record.specs.Lend.{key_of, record_of}
use Rattle.dfs_block.proofs.Reading.{none_read, read_on, stuck, falls, left_over, ended, not_none, sought}
use Rattle.dfs_block.proofs.block.pass_over.Goals as goal

pub loop-turn-init : goal.loop-turn-init
loop-turn-init c = none_read c.args.bytes.now (option_map key_of c.args.key) (λ i. omega (arith, c.type_inv.bytes i))

pub returns-in_err-rec-clause-none : goal.returns-in_err-rec-clause-none
returns-in_err-rec-clause-none c = ((λ _. stuck c.loop-turn.invariant.read c.args.count c.loop-turn-test.true (c.in_err-rec.ensures.none.0 refl)), (λ _. c.from_residual.ensures))

pub returns-then-not-is_above-clause-none : goal.returns-then-not-is_above-clause-none
returns-then-not-is_above-clause-none c =
    ((λ _. falls c.loop-turn.invariant.read c.args.count c.loop-turn-test.true (record_of c.in_ok-rec.rec) c.in_ok-rec.len c.in_ok-rec.ensures.found (sym c.is_above.ensures ∙ c.if-not-is_above.true)), (λ _. refl))

pub loop-turn-preserved : goal.loop-turn-preserved
loop-turn-preserved c =
    read_on c.loop-turn.invariant (record_of c.in_ok-rec.rec) c.in_ok-rec.len c.in_ok-rec.ensures.found (sym c.is_above.ensures ∙ c.if-not-is_above.false) c.split_at.ensures.back refl c.value_with-value.ensures

pub returns-then-not-is_empty-clause-none : goal.returns-then-not-is_empty-clause-none
returns-then-not-is_empty-clause-none c =
    let some : 0 < length c.loop-turn.rest.now = grind arith in
    ((λ _. left_over c.loop-turn.invariant.read c.args.count (omega (arith, c.loop-turn-test.false, c.loop-turn.auto._turn-end)) some), (λ _. refl))

last_is : (c : goal.In-Some) → option_map key_of c.loop-turn.last ≡ Some (key_of c.in-Some.last)
last_is c = ap (option_map key_of) c.in-Some.is

pub returns-in-Some-clause-found : goal.returns-in-Some-clause-found
returns-in-Some-clause-found c =
    let none : length c.loop-turn.rest.now ≡ 0 = grind arith in
    ended c.loop-turn.invariant.read c.args.count (omega (arith, c.loop-turn-test.false, c.loop-turn.auto._turn-end)) none (key_of c.in-Some.last) (last_is c)

pub returns-in-Some-clause-none : goal.returns-in-Some-clause-none
returns-in-Some-clause-none c =
    let none : length c.loop-turn.rest.now ≡ 0 = grind arith in
    let end = ended c.loop-turn.invariant.read c.args.count (omega (arith, c.loop-turn-test.false, c.loop-turn.auto._turn-end)) none (key_of c.in-Some.last) (last_is c) in
    ((λ e. absurd cc), (λ no. absurd (no end.records end.are)))

pub returns-in-Some-clause-value : goal.returns-in-Some-clause-value
returns-in-Some-clause-value c =
    let none : length c.loop-turn.rest.now ≡ 0 = grind arith in
    sought c.loop-turn.invariant c.args.count (omega (arith, c.loop-turn-test.false, c.loop-turn.auto._turn-end)) none

pub returns-in-None-clause-none : goal.returns-in-None-clause-none
returns-in-None-clause-none c =
    absurd (not_none c.loop-turn.invariant.read (omega (arith, c.requires, c.loop-turn-test.false, c.loop-turn.auto._turn-end)) (ap (option_map key_of) c.in-None.is))
