-- The number that the program ends with, by its status.
use Rattle.std.specs.Prelude.{ℕ}
use Rattle.deltafs.specs.declared.status.Status.{Status}
use Rattle.deltafs.specs.declared.status.Status.TheVariants.{Done, Usage, NotRegistry, RegistryDamaged, DiskFault, OutputFault, SourceFault, NoMemory, LogFull, ScriptTooLong, Changed}

abbrev pub number_of : Status → ℕ
number_of Done = 0
number_of Usage = 2
number_of NotRegistry = 3
number_of (RegistryDamaged place) = 4
number_of DiskFault = 5
number_of OutputFault = 6
number_of SourceFault = 7
number_of NoMemory = 8
number_of LogFull = 9
number_of ScriptTooLong = 10
number_of Changed = 11
