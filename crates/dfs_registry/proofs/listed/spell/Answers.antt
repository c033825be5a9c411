use Rattle.dfs_registry.proofs.Spelling.{spelled}
use Rattle.dfs_registry.proofs.listed.spell.Goals as goal

pub returns : goal.returns
returns c =
    spelled c.args.listed.now c.bytes-name.ensures.value
    c.to_be_bytes.ensures c.to_be_bytes-2.ensures c.to_be_bytes-3.ensures c.to_be_bytes-4.ensures c.to_be_bytes-5.ensures
    c.in_ok-bytes.ensures.items c.in_ok-extend_from_slice.ensures.items c.in_ok-extend_from_slice-2.ensures.items c.in_ok-extend_from_slice-3.ensures.items
    c.in_ok-extend_from_slice-4.ensures.items c.in_ok-extend_from_slice-5.ensures.items c.in_ok-extend_from_slice-6.ensures.items c.in_ok-extend_from_slice-7.ensures.items
    c.in_ok-extend_from_slice-8.ensures.items
