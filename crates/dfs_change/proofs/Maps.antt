-- Records of entries.
use Rattle.dfs_record.specs.declared.Key.{Key}
use Rattle.dfs_record.specs.declared.Record.{Record}
use Rattle.dfs_record.specs.declared.Value.{Value}

abbrev pub record_at : Key × Value → Record
record_at e = record { key = e.0; value = e.1 }
