-- Things that are spelled one after the other, as fences are.
pub use Rattle.dfs_record.proofs.Readings.{some_is}
pub use Rattle.dfs_record.proofs.Listed.{all_more, flat_more, behind_front}
