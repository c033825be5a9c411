use Rattle.std.proofs.Common.{◌≡◌, ◌∙◌, sym, ap, subst, arith, length, map}
use Rattle.std.specs.Prelude.{Some, None, slice_get}
use Rattle.dfs_compact.specs.Compaction.{CompactionState, IsPartOf}
use Rattle.dfs_compact.specs.Parts.{tables_of}
use Rattle.dfs_compact.proofs.Staying.{set_each, set_length, set_tables}
use Rattle.dfs_compact.proofs.compaction.Compaction.keep.Goals as goal

pub invariant_of-self-2 : goal.invariant_of-self-2
invariant_of-self-2 c =
    let self = c.self.inside in
    let is = c.self.invariant.0 in
    let view = c.self.view_is in
    let runs = map (λ r. r.value) self.sources.items in
    let there : slice_get self.merged.items c.args.index ≡ Some None = ap (λ (s : CompactionState). slice_get s.merged c.args.index) view ∙ c.requires.within in
    let part : IsPartOf runs self.plan.keys self.plan.parts c.args.index c.args.run = subst (λ (s : CompactionState). IsPartOf s.sources s.keys s.parts c.args.index c.args.run) (sym view) c.requires.part in (
      record {
        len = set_length self.merged.items c.args.index (Some c.args.run) ∙ is.len;
        plan = is.plan;
        firsts = is.firsts;
        tables = omega (arith, set_tables self.merged.items c.args.index c.args.run there, ap (λ (s : CompactionState). length (tables_of s.merged)) view, c.requires.few);
        each = set_each self.merged.items c.args.index c.args.run (λ i r. IsPartOf runs self.plan.keys self.plan.parts i r) part is.each;
      },
      omega (arith, set_tables self.merged.items c.args.index c.args.run there, c.self.invariant.1, c.len.ensures.len),
      c.in_ok-reserve.ensures.items ∙ c.self.invariant.2,
      omega (arith, c.in_ok-reserve.ensures.ok),
    )
