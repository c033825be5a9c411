-- What a script can set: the word of each setting, and the values that it can have.
use Rattle.std.specs.Prelude.{ℕ, Bool, List, codes}
use Rattle.dfs_record.specs.Name.{is_between}
use Rattle.dfs_script.specs.declared.Setting.{Setting}
use Rattle.dfs_script.specs.declared.Setting.TheVariants.{Buffer, Cache, Parts, LogBytes}

abbrev pub setting_word : Setting → List ℕ
setting_word Buffer = codes "buffer"
setting_word Cache = codes "cache"
setting_word Parts = codes "parts"
setting_word LogBytes = codes "logbytes"

-- the values that a setting can have, both ends among them
abbrev pub is_in_range : Setting → ℕ → Bool
is_in_range Buffer value = is_between 1 65536 value
is_in_range Cache value = is_between 1 65536 value
is_in_range Parts value = is_between 1 256 value
is_in_range LogBytes value = is_between 4096 1099511627776 value
