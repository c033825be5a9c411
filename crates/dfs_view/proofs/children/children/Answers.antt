use Rattle.std.proofs.Common.{◌∙◌, ap, arith}
use Rattle.std.specs.Prelude.{Some}
use Rattle.dfs_record.specs.Delta.{delta, records_of}
use Rattle.dfs_cursor.specs.Ranges.{part}
use Rattle.dfs_view.specs.Children.{listed}
use Rattle.dfs_view.specs.Layers.{layer_records}
use Rattle.dfs_view.proofs.Listing.{children_shown}
use Rattle.dfs_view.proofs.Parts.{layers_valid, ok_to}
use Rattle.dfs_view.proofs.children.children.Goals as goal

pub returns-clause-listing : goal.returns-clause-listing
returns-clause-listing c = λ host stand.
    let layers = c.args.layers.now in
    ok_to c.list_all.result (λ l. l) c.list_all.ensures.listing
    (ap listed (c.in_ok-records.ensures.rest host stand)
    ∙ (λ i. listed (records_of (delta (part (Some (c.in_ok-low.ensures i)) ((c.as_ref.ensures.value ∙ c.in_ok-high.ensures) i) (layer_records host layers)))))
    ∙ children_shown c.args.dir (layer_records host layers) (omega arith, omega arith) (layers_valid host layers stand c.in_ok-records.ensures.valid))
