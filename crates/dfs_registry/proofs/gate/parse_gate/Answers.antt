use Rattle.std.proofs.Common.{sym, ◌∙◌, arith}
use Rattle.dfs_registry.proofs.Parsing.{whole, named_well, piece_fits}
use Rattle.dfs_registry.proofs.Pieces.{broken, on_error, readable, opened, fits}
use Rattle.dfs_registry.proofs.gate.parse_gate.Goals as goal

pub returns-then-not-has_body-clause-gate : goal.returns-then-not-has_body-clause-gate
returns-then-not-has_body-clause-gate c =
    broken c.args.piece.now c.requires (sym c.is_open.ensures.answer ∙ c.if-not-is_open.false) (sym c.has_body.ensures ∙ c.if-not-has_body.true)

pub read_fields-requires-clause-whole : goal.read_fields-requires-clause-whole
read_fields-requires-clause-whole c = (whole _ (sym c.has_body.ensures ∙ c.if-not-has_body.false)).long

pub read_fields-requires-clause-name : goal.read_fields-requires-clause-name
read_fields-requires-clause-name c = named_well _ (whole _ (sym c.has_body.ensures ∙ c.if-not-has_body.false))

pub returns-in_err-read_fields-clause-memory : goal.returns-in_err-read_fields-clause-memory
returns-in_err-read_fields-clause-memory c =
    on_error c.from_residual.result (readable c.args.piece.now c.requires (sym c.is_open.ensures.answer ∙ c.if-not-is_open.false) (sym c.has_body.ensures ∙ c.if-not-has_body.false))

pub returns-clause-gate : goal.returns-clause-gate
returns-clause-gate c =
    opened c.args.piece.now c.requires (piece_fits c.args.piece.now (λ i. omega (arith, c.type_inv.piece i)) _ 1) (sym c.is_open.ensures.answer ∙ c.if-not-is_open.false)
    (sym c.has_body.ensures ∙ c.if-not-has_body.false) _ c.in_ok-read_fields.ensures

pub returns-clause-body : goal.returns-clause-body
returns-clause-body c = fits _ (piece_fits c.args.piece.now (λ i. omega (arith, c.type_inv.piece i)) _ 1) (sym c.has_body.ensures ∙ c.if-not-has_body.false) _ c.in_ok-read_fields.ensures
