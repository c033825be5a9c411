use Rattle.std.proofs.Common.{ap, sym, ◌≡◌, ◌∙◌}
use Rattle.std.specs.Ordering.{is_eq}
use Rattle.dfs_record.specs.declared.Key.{Key}
use Rattle.dfs_record.specs.Key.{key_cmp}
use Rattle.dfs_record.specs.Lend.{key_of}
use Rattle.dfs_record.proofs.Maps.{alike_keys, same_key}
use Rattle.dfs_table.proofs.open.is_key.Goals as goal
use Rattle.dfs_table.proofs.open.is_key.Goals.{After-is_eq}

pub returns : goal.returns
returns c =
    let lent = key_of c.args.lent in
    let key = c.args.key.now in
    let is : c.is_eq.result ≡ is_eq (key_cmp lent key) = c.is_eq.ensures ∙ ap is_eq c.order.ensures ∙ ap (λ (k : Key). is_eq (key_cmp lent k)) c.lend.ensures.value in
    ((λ yes. alike_keys lent key (sym is ∙ yes)), (λ same. is ∙ ap (λ (k : Key). is_eq (key_cmp k key)) same ∙ same_key key))
