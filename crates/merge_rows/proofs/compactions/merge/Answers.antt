use Rattle.merge_rows.proofs.compactions.merge.Goals as goal

pub merged_in-requires-clause-file : goal.merged_in-requires-clause-file
merged_in-requires-clause-file g c = c.in_ok-compaction.ensures.inside c.two_sources.new.log.file
