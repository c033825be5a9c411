use Rattle.std.proofs.Common.{◌∙◌, sym, ap, arith, Some, length}
use Rattle.dfs_block.proofs.Spelled.{at_least}
use Rattle.dfs_table.proofs.Closing.{first_at_most_last}
use Rattle.dfs_table.proofs.writer.fence_of.Goals as goal

pub returns-clause-fence : goal.returns-clause-fence
returns-clause-fence c =
    let is = c.in-Some.ensures.found in
    record {
      fields = record {
        at = c.ranges.at.fits;
        len = omega (arith, is.short);
        count = omega (arith, c.count.ensures, at_least c.in-Some.block, ap length is.spelled, is.short);
        first = c.in_ok-to_key.ensures.valid;
        last = c.in_ok-to_key-2.ensures.valid;
      };
      order = first_at_most_last c.in-Some.block c.in_ok-to_key.field-0 c.in_ok-to_key-2.field-0 is.rise
          (c.first_key.ensures.key ∙ ap Some (sym c.in_ok-to_key.ensures.equal)) (c.last_key.ensures.key ∙ ap Some (sym c.in_ok-to_key-2.ensures.equal));
    }
