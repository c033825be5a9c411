use Rattle.std.proofs.Common.{sym, ◌∙◌}
use Rattle.dfs_table.specs.Identities.{is_within}
use Rattle.dfs_table.proofs.Opening.{agrees_by, all_true}
use Rattle.dfs_table.proofs.open.agrees.Goals as goal

pub returns-then-has_ends : goal.returns-then-has_ends
returns-then-has_ends c =
    let rs = c.in-Some.block in
    let ends = c.has_ends.ensures.0 c.if-has_ends.true in (
      (λ yes. record {
        records = rs;
        block = c.in-Some.ensures.found;
        count = ends.0;
        first = ends.1;
        last = ends.2;
        within = all_true (is_within c.args.job) rs (sym c.are_within.ensures ∙ yes);
      }),
      (λ agrees. c.are_within.ensures ∙ agrees_by c.args.job c.args.fence.now c.args.bytes.now rs c.in-Some.ensures.found agrees),
    )
