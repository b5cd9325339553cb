-- The letters of ports, as the symbols of AIGER 1.9 have them: `i` for an input, `o` for an output.
use Rattle.std.specs.Prelude.{ℕ, ◌==◌, Option, None, Some, if◌then◌else◌}
use Rattle.circuits.specs.declared.port.PortKind.{PortKind}
use Rattle.circuits.specs.declared.port.PortKind.TheVariants.{Input, Output}

-- the byte that begins the symbol of a port of this kind
abbrev pub letter_of : PortKind → ℕ
letter_of Input = 105
letter_of Output = 111

-- the kind with this letter, if there is one
abbrev pub kind_of_letter : ℕ → Option PortKind
kind_of_letter letter = if letter == 105 then Some Input else if letter == 111 then Some Output else None
