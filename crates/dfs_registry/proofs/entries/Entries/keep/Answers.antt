use Rattle.std.proofs.Common.{◌∙◌, ℕ, List, [], ◌∷◌, ◌++◌, ap}
use Rattle.std.specs.Map.{values_of}
use Rattle.std.specs.Str.{bytes_eq}
use Rattle.indexmap.proofs.CallerLemmas.{insert_entry-new}
use Rattle.dfs_registry.specs.declared.listed.Listed.{Listed}
use Rattle.dfs_registry.specs.Body.{lists_name}
use Rattle.dfs_registry.specs.Seen.{EntriesState}
use Rattle.dfs_registry.proofs.Names.{lookup-unlisted, indexed_push, values_of-push}
use Rattle.dfs_registry.proofs.entries.Entries.keep.Goals as goal

pub invariant_of-self : goal.invariant_of-self
invariant_of-self c =
    let old = c.self.inside.by_name in
    let items = ap (λ (e : EntriesState). e.items) c.self.view_is in
    let new = ap (λ (l : List Listed). lists_name l c.args.listed.name) items ∙ c.requires.new in
    let none = ap (λ (n : List ℕ). lists_name (values_of old.entries) n) c.requires.named ∙ new in
    let pushed = c.in-Ok.ensures.entries ∙ insert_entry-new bytes_eq old c.args.name c.args.listed (lookup-unlisted c.args.name old.entries c.self.invariant.named none) in
    indexed_push c.args.listed c.self.invariant c.requires.named pushed c.max-self-inside.ensures

pub returns-clause-items : goal.returns-clause-items
returns-clause-items c =
    let old = c.self.inside.by_name in
    let items = ap (λ (e : EntriesState). e.items) c.self.view_is in
    let new = ap (λ (l : List Listed). lists_name l c.args.listed.name) items ∙ c.requires.new in
    let none = ap (λ (n : List ℕ). lists_name (values_of old.entries) n) c.requires.named ∙ new in
    let pushed = c.in-Ok.ensures.entries ∙ insert_entry-new bytes_eq old c.args.name c.args.listed (lookup-unlisted c.args.name old.entries c.self.invariant.named none) in
    ap values_of pushed ∙ values_of-push old.entries c.args.name c.args.listed ∙ ap (λ (l : List Listed). l ++ c.args.listed ∷ []) items
