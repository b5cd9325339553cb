-- Which netlists and names an AIGER file can have, within the limits of the reader.
use Rattle.std.specs.Prelude.{◌≡◌, ◌≢◌, ◌-◌, ℕ, ◌≤◌, ◌==◌, List, [], ◌∷◌, ◌++◌, length, slice_index_or, slice_set, All, if◌then◌else◌}
use Rattle.text_core.specs.Lines.{IsLine}
use Rattle.circuits.specs.Netlists.{Net, IsOrdered}
use Rattle.net_core.specs.Limits.{most_gates, most_ports}
use Rattle.net_file.specs.declared.named.Named.{Named}

-- A name that a symbol's line can have: it isn't empty, has no line feed, and no carriage return at its end.
pub record IsSymbolName (name : List ℕ) : Type 0 where
  pub filled : name ≢ []
  pub on_line : IsLine name
  pub no_return : (front : List ℕ) → name ≢ front ++ 13 ∷ []

-- a name as its symbol is printed: a carriage return at its end, which would be read as part of the line's end, becomes
-- `_`
abbrev pub symbol_name : List ℕ → List ℕ
symbol_name name =
    if slice_index_or name (length name - 1) 0 == 13 then slice_set name (length name - 1) 95 else name

-- A netlist in order, of no more ports and gates than the readers take.
pub record IsWithinLimits (net : Net) : Type 0 where
  pub ordered : IsOrdered net
  pub inputs : net.inputs ≤ most_ports
  pub outputs : length net.outputs ≤ most_ports
  pub gates : length net.gates ≤ most_gates

-- And each port has a name that a symbol can give it.
pub record IsPrintable (named : Named) : Type 0 where
  pub within : IsWithinLimits named.graph
  pub inputs_named : length named.input_names ≡ named.graph.inputs
  pub outputs_named : length named.output_names ≡ length named.graph.outputs
  pub input_names : All IsSymbolName named.input_names
  pub output_names : All IsSymbolName named.output_names

-- a name of at most 3,000 bytes: 8,192 of them leave room for the gates in a file of 67,108,864
abbrev pub IsShortName : List ℕ → Type 0
IsShortName name = length name ≤ 3000

-- at most 1,000,000 gates: as BLIF, where each takes up to 48 bytes, they leave room for the ports in a file of
-- 67,108,864, and 4,000,000 don't
abbrev pub HasFewGates : Net → Type 0
HasFewGates net = length net.gates ≤ 1000000
