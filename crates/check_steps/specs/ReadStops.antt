-- What a shelf's refusal of a read means to the reading of a file.
use Rattle.shelf_core.specs.declared.outside.ShelfStop.{ShelfStop}
use Rattle.shelf_core.specs.declared.outside.ShelfStop.TheVariants.{Failed, Memory}
use Rattle.check_steps.specs.declared.files.ReadStop.{ReadStop}
use Rattle.check_steps.specs.declared.files.ReadStop.TheVariants as stop

-- a file isn't read: the outside failed, or memory ran out
abbrev pub stop_of : ShelfStop → ReadStop
stop_of Failed = stop.ReadFault
stop_of Memory = stop.Memory
