use Rattle.std.proofs.Common.{ap, ◌∙◌, arith, ◌+◌, ◌++◌, ◌∷◌, ◌*◌, List, ℕ, refl, subst}
use Rattle.dfs_gen.specs.Script.{publish_line}
use Rattle.dfs_gen.specs.Line.{IsLine, lines_behind, lines_after}
use Rattle.dfs_gen.specs.declared.line.Line.TheVariants.{MakeDir}
use Rattle.dfs_gen.proofs.Lines.{create_more, merge_more}
use Rattle.dfs_gen.proofs.line.Line.next.Goals as goal

pub returns-in-Merge-clause-lines : goal.returns-in-Merge-clause-lines
returns-in-Merge-clause-lines c =
    let arm = c.in-Merge in
    ap (lines_behind c.args.creates) arm.is
    ∙ ap (λ (l : List (List ℕ)). l ++ publish_line arm.group ∷ lines_after c.args.creates arm.group) (merge_more (arm.step + 1) (omega arith))

pub returns-in-MakeDir-clause-lines : goal.returns-in-MakeDir-clause-lines
returns-in-MakeDir-clause-lines c =
    let arm = c.in-MakeDir in
    let within : IsLine c.args.creates (MakeDir arm.group) = subst (IsLine c.args.creates) arm.is c.requires in
    ap (lines_behind c.args.creates) arm.is
    ∙ create_more c.args.creates arm.group (1000 * arm.group) (1000 * arm.group + 1) (omega (arith, within)) (omega arith) refl
