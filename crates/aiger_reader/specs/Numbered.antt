-- What the lines of a body read, by the signals of the variables, and the netlist's literals (AIGER 1.9).
use Rattle.std.specs.Prelude.{ℕ, ◌+◌, ◌*◌, ◌/◌, ◌%◌, ◌<◌, ◌≤◌, ◌==◌, ◌&&◌, ◌||◌, Bool, List, [], length, All, nat_lt, slice_index_or, if◌then◌else◌}
use Rattle.circuits.specs.Circuits.{Circuit}
use Rattle.circuits.specs.declared.netlist.Lit.{Lit}
use Rattle.circuits.specs.declared.definition.Def.{Def}
use Rattle.circuits.specs.declared.definition.Def.TheVariants.{And}
use Rattle.aiger_reader.specs.declared.body.AndLine.{AndLine}
use Rattle.aiger_reader.specs.declared.body.Literals.{Literals}
use Rattle.aiger_reader.specs.Headers.{AigerHeader}
use Rattle.aiger_reader.specs.Bodies.{roles_of, defined, lit_from}
use Rattle.aiger_reader.specs.Reading.{rows_of, input_lines_of, gate_lines_of, HasCounts, IsNumbering}

-- All announced lines are read, with literals in range, and the signals are of the variables that they define.
pub record IsSound (h : AigerHeader) (literals : Literals) (signals : List ℕ) : Type 0 where
  pub counts : HasCounts literals (input_lines_of h) h.outputs (gate_lines_of h)
  pub in_range : (k : ℕ) → k < length (rows_of literals)
      → All (λ literal. literal ≤ 2 * h.variables + 1) (slice_index_or (rows_of literals) k [])
  pub numbered : IsNumbering h.variables (defined (roles_of h) (rows_of literals)) signals

-- whether a literal is of the constant or of a variable that has a place
abbrev pub has_place : List ℕ → ℕ → Bool
has_place signals literal = literal / 2 == 0 || nat_lt 0 (slice_index_or signals (literal / 2) 0)

-- both operands of a gate are of variables that have a place or none
abbrev pub AreWithin : List ℕ → AndLine → Type 0
AreWithin signals line = (line.a / 2 < length signals) × (line.b / 2 < length signals)

-- whether both operands are
abbrev pub have_places : List ℕ → AndLine → Bool
have_places signals line = has_place signals line.a && has_place signals line.b

-- the literal of the netlist, by the signals of the variables
abbrev pub lit_in : List ℕ → ℕ → Lit
lit_in signals literal =
    lit_from (2 * (if literal / 2 == 0 then 0 else slice_index_or signals (literal / 2) 0) + literal % 2)

-- the definition of a gate, by the signals of the variables
abbrev pub def_in : List ℕ → AndLine → Def
def_in signals line = And (lit_in signals line.a) (lit_in signals line.b)

-- the netlist with these parts
abbrev pub circuit_from : ℕ → List Def → List Lit → Circuit
circuit_from inputs defs outputs = record { inputs = inputs; defs = defs; outputs = outputs }
