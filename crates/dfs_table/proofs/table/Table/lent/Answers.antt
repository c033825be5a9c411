use Rattle.std.proofs.Common.{arith, ℕ, ap, sym, refl, ◌∙◌}
use Rattle.std.specs.Prelude.{option_map}
use Rattle.std.proofs.lemmas.Option.{slice_get_within, same_Some}
use Rattle.dfs_record.specs.Delta.{last_value}
use Rattle.dfs_record.specs.Lend.{key_of, value_of}
use Rattle.dfs_fence.specs.Cover.{CoversAt}
use Rattle.dfs_table.specs.Stored.{records_at}
use Rattle.dfs_table.proofs.Finding.{block_there, found_nowhere, found_there}
use Rattle.dfs_table.proofs.table.Table.lent.Goals as goal

pub returns-in_err-index-clause-value : goal.returns-in_err-index-clause-value
returns-in_err-index-clause-value c = λ file is.
    ap (option_map value_of) c.from_residual.ensures ∙ sym (found_nowhere file c.args.self.now.fences (key_of c.args.key) is.each (c.in_err-index.ensures.none.0 refl))

pub block_bytes-requires : goal.block_bytes-requires
block_bytes-requires c = let at = c.in_ok-index.ensures.found in omega (arith, slice_get_within c.args.self.now.fences c.in_ok-index.index at.0 at.1.0)

pub returns-in_err-value-clause-value : goal.returns-in_err-value-clause-value
returns-in_err-value-clause-value c = λ file is.
    let at = c.in_ok-index.ensures.found in
    absurd (c.in_err-value.ensures.none.0 refl (records_at file at.0) (block_there file c.args.self.now.fences c.in_ok-index.index at.0 c.in_ok-bytes.bytes.now is.each at.1.0 (c.in_ok-bytes.ensures file at.0 is at.1.0)))

pub returns-clause-value : goal.returns-clause-value
returns-clause-value c = λ file is.
    let at = c.in_ok-index.ensures.found in
    let only = λ (j : ℕ) (covers : CoversAt c.args.self.now.fences (key_of c.args.key) j). same_Some j c.in_ok-index.index (sym (c.in_ok-index.ensures.only j covers)) in
    c.in_ok-value.ensures.value
    ∙ ap (last_value (key_of c.args.key)) (c.in_ok-value.ensures.only (records_at file at.0) (block_there file c.args.self.now.fences c.in_ok-index.index at.0 c.in_ok-bytes.bytes.now is.each at.1.0 (c.in_ok-bytes.ensures file at.0 is at.1.0)))
    ∙ sym (found_there file c.args.self.now.fences (key_of c.args.key) c.in_ok-index.index at.0 is.each at.1.0 only)
