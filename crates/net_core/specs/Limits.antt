-- How large a netlist may be that is read (this project's limits).
use Rattle.std.specs.Prelude.{ℕ}

-- inputs, and outputs
abbrev pub most_ports : ℕ
most_ports = 4096

-- gates of the graph
abbrev pub most_gates : ℕ
most_gates = 4000000

-- the greatest variable of an AIGER file: the ASCII form may leave gaps among its variables
abbrev pub most_variables : ℕ
most_variables = 16000000

-- bytes of a file: 64 MiB
abbrev pub most_bytes : ℕ
most_bytes = 67108864
