use Rattle.std.proofs.Common.{◌+◌, ◌++◌, [], ◌∷◌, Some, take, drop, ap, ◌∙◌, arith, sym, subst}
use Rattle.std.specs.Prelude.{flat_map, Option}
use Rattle.std.proofs.lemmas.List.{length-append}
use Rattle.dfs_gen.specs.Script.{ended}
use Rattle.dfs_gen.specs.Line.{line_text, lines_behind}
use Rattle.dfs_gen.specs.GenSource.{bytes_left, IsWithin}
use Rattle.dfs_gen.specs.declared.line.Line.{Line}
use Rattle.dfs_gen.proofs.Moved.{moved}
use Rattle.dfs_gen.proofs.source.GenSource.give.Goals as goal

pub returns-else-count-left-clause-moved : goal.returns-else-count-left-clause-moved
returns-else-count-left-clause-moved c =
    let at = c.self.inside in
    let count = c.min-count.result in
    let text = line_text at.creates c.in-Some.line in
    let place : IsWithin at.creates (Some c.in-Some.line) at.given = subst (λ (line : Option Line). IsWithin at.creates line at.given) c.in-Some.is c.self.invariant in
    sym c.self.view_is
    ∙ ap (λ (line : Option Line). bytes_left at.creates line at.given) c.in-Some.is
    ∙ moved at.given count (ended text) (flat_map ended (lines_behind at.creates c.in-Some.line)) c.bytes.result.now (drop count c.args.out.now) c.copy_from_slice.new.self
    (omega (arith, place.1, length-append text (10 ∷ []))) (c.bytes.ensures ∙ c.text-text.ensures) (omega arith) c.copy_from_slice.ensures.after
    ∙ ap (λ (line : Option Line). take count (c.copy_from_slice.new.self ++ drop count c.args.out.now) ++ bytes_left at.creates line (at.given + count)) (sym c.in-Some.is)
