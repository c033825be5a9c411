use Rattle.std.proofs.Common.{◌≡◌, ◌∙◌, sym, ap, subst, arith, length, map, List, Global}
use Rattle.std.specs.declared.rc.Rc.{Rc}
use Rattle.std.specs.Prelude.{Some, Option, slice_get}
use Rattle.std.specs.List.Sorted.{IsPermutation}
use Rattle.std.proofs.lemmas.List.{length-replicate}
use Rattle.dfs_record.specs.declared.Key.{Key}
use Rattle.dfs_table.specs.declared.run.Run.{Run}
use Rattle.dfs_table.specs.Writer.{AreIn}
use Rattle.dfs_compact.specs.Parts.{first_keys, tables_of}
use Rattle.dfs_compact.proofs.Covering.{none_at, none_have}
use Rattle.dfs_compact.proofs.compaction.Compaction.begin.Goals as goal

pub invariant_of-result : goal.invariant_of-result
invariant_of-result c =
    let none = c.in_ok-merged.ensures in
    let parts = c.in_ok-plan.ensures.parts in (
      record {
        len = ap length none ∙ length-replicate c.args.parts _ ∙ sym parts;
        plan = record { sorted = c.in_ok-plan.ensures.sorted; some = omega (arith, parts, c.requires.some); most = omega (arith, parts, c.requires.most) };
        firsts = subst (λ (keys : List Key). IsPermutation keys c.in_ok-plan.plan.keys) (c.in_ok-keys_of.ensures ∙ ap (λ (rs : List (Rc Run Global)). first_keys (map (λ r. r.value) rs)) c.deref.ensures.value) c.in_ok-plan.ensures.keys;
        tables = omega (arith, ap (λ (ms : List (Option Run)). length (tables_of ms)) none, ap length (none_have c.args.parts));
        each = λ i run at. absurd (none_at c.args.parts i run (subst (λ (ms : List (Option Run)). slice_get ms i ≡ Some (Some run)) none at));
      },
      ap (λ (ms : List (Option Run)). length (tables_of ms)) none ∙ ap length (none_have c.args.parts),
      c.new-2.ensures.items,
      omega arith,
    )

pub returns-clause-inside : goal.returns-clause-inside
returns-clause-inside c = λ file. subst (AreIn file) (sym (ap tables_of c.in_ok-merged.ensures ∙ none_have c.args.parts)) tt

pub returns-clause-stands : goal.returns-clause-stands
returns-clause-stands c = λ files file ds are.
    let none = c.in_ok-merged.ensures in
    record {
      sources = are;
      inside = subst (AreIn file) (sym (ap tables_of none ∙ none_have c.args.parts)) tt;
      each = λ i run at. absurd (none_at c.args.parts i run (subst (λ (ms : List (Option Run)). slice_get ms i ≡ Some (Some run)) none at));
      cut = λ i run at. absurd (none_at c.args.parts i run (subst (λ (ms : List (Option Run)). slice_get ms i ≡ Some (Some run)) none at));
    }
