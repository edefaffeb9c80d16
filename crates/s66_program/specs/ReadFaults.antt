-- Used by contracts: why reading to the end fails.
use Rattle.s66_device.specs.{Reader}
use Rattle.s66_program.specs.declared.fault.Fault.{Fault}
use Rattle.s66_program.specs.declared.fault.Fault.TheVariants as fault
use Rattle.s66_program.specs.Device.{ReadFails, ReadsSome}

abbrev pub IsReadFault : Reader → Reader → Fault → Type 0
IsReadFault old new fault.Read = ReadFails old new
IsReadFault old new fault.Memory = ReadsSome old new
IsReadFault old new (fault.Source e) = ⊥
IsReadFault old new (fault.NewSource e) = ⊥
IsReadFault old new fault.NoNewSource = ⊥
IsReadFault old new (fault.Document e) = ⊥
IsReadFault old new fault.Profile = ⊥
IsReadFault old new fault.Write = ⊥
