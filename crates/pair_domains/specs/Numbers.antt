-- The numbers of signed pairs and of ports in tables, row by row.
use Rattle.std.specs.Prelude.{ℕ, ◌+◌, ◌*◌, Bool, true, false, List, slice_index_or, slice_set}
use Rattle.circuits.specs.declared.port.Pair.{Pair}
use Rattle.circuits.specs.declared.port.PortKind.{PortKind}
use Rattle.circuits.specs.declared.port.PortKind.TheVariants.{Input, Output}
use Rattle.net_core.specs.declared.graphs.Side.{Side}
use Rattle.net_core.specs.declared.graphs.Side.TheVariants.{First, Second}

-- a plain pair comes before the inverted one
abbrev pub sign_number : Bool → ℕ
sign_number false = 0
sign_number true = 1

-- the number of a pair among those of its kind, of which either circuit has this many ports
abbrev pub number_in : ℕ → Pair → ℕ
number_in ports pair = 2 * (pair.from * ports + pair.to) + sign_number pair.flip

-- how many signed pairs there are
abbrev pub pairs_of_ports : ℕ → ℕ → ℕ
pairs_of_ports inputs outputs = 2 * (inputs * inputs) + 2 * (outputs * outputs)

-- pairs of inputs come before those of outputs
abbrev pub number_from : ℕ → ℕ → PortKind → Pair → ℕ
number_from inputs outputs Input pair = number_in inputs pair
number_from inputs outputs Output pair = 2 * (inputs * inputs) + number_in outputs pair

-- the number of a pair: those of inputs come first
abbrev pub pair_number : ℕ → ℕ → Pair → ℕ
pair_number inputs outputs pair = number_from inputs outputs pair.kind pair

-- the number of a port: the inputs of both circuits come first, and the first circuit's of each kind
abbrev pub port_number : ℕ → ℕ → Side → PortKind → ℕ → ℕ
port_number inputs outputs First Input port = port
port_number inputs outputs Second Input port = inputs + port
port_number inputs outputs First Output port = 2 * inputs + port
port_number inputs outputs Second Output port = 2 * inputs + outputs + port

-- a table, changed at one place; the first value stands for what isn't there
abbrev pub with_at : {X : Type 0} → X → (X → X) → ℕ → List X → List X
with_at none change place table = slice_set table place (change (slice_index_or table place none))

-- a table of the ports, changed at both ports of a pair
abbrev pub at_ports : {X : Type 0} → X → (X → X) → ℕ → ℕ → Pair → List X → List X
at_ports none change inputs outputs pair table =
    with_at none change (port_number inputs outputs Second pair.kind pair.to)
    (with_at none change (port_number inputs outputs First pair.kind pair.from) table)

-- a table of the ports, with a value at both ports of a pair
abbrev pub put_at_ports : {X : Type 0} → X → ℕ → ℕ → Pair → List X → List X
put_at_ports value inputs outputs pair table = at_ports value (λ old. value) inputs outputs pair table
