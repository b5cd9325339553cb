-- Names of ports: a letter and the port's position.
use Rattle.std.specs.Prelude.{◌≡◌, ℕ, List, ◌∷◌, length, map}
use Rattle.std.specs.Fmt.{decimal}
use Rattle.std.specs.List.{range_with_len}
use Rattle.net_file.specs.declared.named.Named.{Named}

-- the name of the port at a position, as `a3`
abbrev pub port_name : ℕ → ℕ → List ℕ
port_name letter position = letter ∷ decimal position

-- the names of so many ports of a kind, in order
abbrev pub port_names : ℕ → ℕ → List (List ℕ)
port_names letter count = map (port_name letter) (range_with_len 0 count)

-- The inputs are called by one letter, the outputs by another.
pub record HasNames (input output : ℕ) (named : Named) : Type 0 where
  pub inputs : named.input_names ≡ port_names input named.graph.inputs
  pub outputs : named.output_names ≡ port_names output (length named.graph.outputs)
