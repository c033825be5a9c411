use Rattle.std.proofs.Common.{◌≡◌, ◌<◌, ◌≤◌, ◌+◌, ◌*◌, ◌-◌, ◌^◌, take, get_or, sym, ap, ◌∙◌, subst}
use Rattle.std.specs.Prelude.{Some}
use Rattle.std.proofs.lemmas.List.{take_all}
use Rattle.dfs_script.specs.Word.{worth}
use Rattle.dfs_script.proofs.Worth.{worth_more, no_worth, has_worth}
use Rattle.dfs_script.proofs.values.value_of.Goals as goal

pub loop-digit-preserved : goal.loop-digit-preserved
loop-digit-preserved c =
    let d = get_or c.args.digits.now c.loop-digit.digit-index 0 in
    record {
      fits = c.in-Some.ensures.fits;
      so_far = c.in-Some.ensures.next ∙ ap (λ n. c.args.base * n + (d - 48)) c.loop-digit.invariant.so_far
          ∙ sym (worth_more c.args.base c.args.digits.now c.loop-digit.digit-index c.loop-digit-test.true);
    }

pub returns-in-None : goal.returns-in-None
returns-in-None c =
    let i = c.loop-digit.digit-index in
    let d = get_or c.args.digits.now i 0 in
    let is : c.args.base * c.loop-digit.value + (d - 48) ≡ worth c.args.base (take (i + 1) c.args.digits.now) =
    ap (λ n. c.args.base * n + (d - 48)) c.loop-digit.invariant.so_far ∙ sym (worth_more c.args.base c.args.digits.now i c.loop-digit-test.true) in
    sym (no_worth c.args.base c.args.digits.now (i + 1) c.requires (subst (λ n. 2 ^ 64 ≤ n) is c.in-None.ensures.next))

pub returns : goal.returns
returns c =
    let whole : c.loop-digit.value ≡ worth c.args.base c.args.digits.now =
    c.loop-digit.invariant.so_far ∙ ap (worth c.args.base) (take_all c.loop-digit.digit-index c.args.digits.now c.loop-digit-test.false) in
    ap Some whole ∙ has_worth c.args.base c.args.digits.now (subst (λ n. n < 2 ^ 64) whole c.loop-digit.invariant.fits)
