-- Report texts: where each port of a circuit goes, and which line of an account is rejected (this project's own texts).
use Rattle.std.specs.Prelude.{ℕ, ◌+◌, Bool, List, [], ◌∷◌, ◌++◌, codes, if◌then◌else◌, slice_index_or}
use Rattle.std.specs.Fmt.{decimal}
use Rattle.net_file.specs.declared.named.Named.{Named}
use Rattle.net_core.specs.declared.matching.Matching.{Matching}

-- a port by its kind, its number and its name: `input 0 a`
abbrev pub port_text : List ℕ → ℕ → List ℕ → List ℕ
port_text kind port name = kind ++ 32 ∷ decimal port ++ 32 ∷ name

-- the port with a number, by the names of the ports of its kind
abbrev pub port_among : List ℕ → List (List ℕ) → ℕ → List ℕ
port_among kind names port = port_text kind port (slice_index_or names port [])

-- where a port of the first circuit goes: `input 0 a = not input 1 b`, on a line of its own
abbrev pub entry_line : List ℕ → List (List ℕ) → List (List ℕ) → ℕ → ℕ × Bool → List ℕ
entry_line kind firsts seconds port entry =
    port_among kind firsts port ++ codes " = " ++ (if entry.1 then codes "not " else []) ++ port_among kind seconds entry.0 ++ 10 ∷ []

-- the lines of the ports from `port` on
abbrev pub entry_lines : List ℕ → List (List ℕ) → List (List ℕ) → ℕ → List (ℕ × Bool) → List ℕ
entry_lines kind firsts seconds port [] = []
entry_lines kind firsts seconds port (entry ∷ entries) =
    entry_line kind firsts seconds port entry ++ entry_lines kind firsts seconds (port + 1) entries

-- the names of a circuit's ports, in their order
pub record PortNames : Type 0 where
  pub inputs : List (List ℕ)
  pub outputs : List (List ℕ)

-- the names that a netlist's file gives to its ports
abbrev pub names_of : Named → PortNames
names_of named = record { inputs = named.input_names; outputs = named.output_names }

-- the port table of a matching: a line for each input of the first circuit in order, then one for each output
abbrev pub table_text : PortNames → PortNames → Matching → List ℕ
table_text first second matching =
    entry_lines (codes "input") first.inputs second.inputs 0 matching.inputs
    ++ entry_lines (codes "output") first.outputs second.outputs 0 matching.outputs

-- the first line of an account that is wrong, and what is wrong with it: `rejected line 7 refutation`
abbrev pub rejected_text : ℕ → List ℕ → List ℕ
rejected_text line word = codes "rejected line " ++ decimal line ++ 32 ∷ word ++ 10 ∷ []
