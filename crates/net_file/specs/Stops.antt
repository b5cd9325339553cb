-- What a stop says of a netlist's file.
use Rattle.std.specs.Prelude.{ℕ}
use Rattle.net_file.specs.declared.fault.NetKind.{NetKind}
use Rattle.net_file.specs.declared.fault.NetStop.{NetStop}
use Rattle.net_file.specs.declared.fault.NetStop.TheVariants.{Fault, Memory}

-- a fault is one of these; running out of memory says nothing of the file
abbrev pub IsStopBy : (NetKind → ℕ → Type 0) → NetStop → Type 0
IsStopBy IsFault (Fault fault) = IsFault fault.kind fault.at
IsStopBy IsFault Memory = Unit {0}
