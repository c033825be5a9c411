use Rattle.std.proofs.Common.{◌∙◌, ◌<◌, ◌≡◌, true, length, ap, arith, subst}
use Rattle.std.specs.Prelude.{Some, ◌↔◌}
use Rattle.dfs_record.specs.Delta.{delta, records_of}
use Rattle.dfs_cursor.specs.Ranges.{part}
use Rattle.dfs_view.specs.Children.{listed}
use Rattle.dfs_view.specs.Layers.{layer_records, layers_map}
use Rattle.dfs_view.proofs.Listing.{children_shown, has_some}
use Rattle.dfs_view.proofs.Parts.{layers_valid}
use Rattle.dfs_view.proofs.children.has_child.Goals as goal

pub returns : goal.returns
returns c = record {
  answer = λ host stand.
      let layers = c.args.layers.now in
      let same = ap listed (c.in_ok-records.ensures.rest host stand)
      ∙ (λ i. listed (records_of (delta (part (Some (c.in_ok-low.ensures i)) ((c.as_ref.ensures.value ∙ c.in_ok-high.ensures) i) (layer_records host layers)))))
      ∙ children_shown c.args.dir (layer_records host layers) (omega arith, omega arith) (layers_valid host layers stand c.in_ok-records.ensures.valid) in
      has_some c.args.dir (layers_map host layers) c.has_put.result (subst (λ l. (c.has_put.result ≡ true) ↔ (0 < length l)) same c.has_put.ensures);
}
