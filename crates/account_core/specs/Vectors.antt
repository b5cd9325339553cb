-- A vector on which paired outputs differ, whatever the inputs are that aren't paired (three values: Eichelberger, IBM
-- J. Res. Dev. 1965).
use Rattle.std.specs.Prelude.{◌≡◌, ◌≢◌, ℕ, ◌<◌, ◌==◌, ◌&&◌, Bool, List, [], ◌∷◌, length, map, Contains, Some, slice_index_or, if◌then◌else◌}
use Rattle.std.specs.List.{range_with_len}
use Rattle.circuits.specs.declared.port.Pair.{Pair}
use Rattle.circuits.specs.declared.port.PortKind.TheVariants.{Input, Output}
use Rattle.net_core.specs.Sides.{Graphs}
use Rattle.claim_core.specs.Images.{same_kind, pair_of}
use Rattle.word_sim.specs.declared.tri.Tri.{Tri}
use Rattle.word_sim.specs.declared.tri.Tri.TheVariants.{X}
use Rattle.word_sim.specs.ThreeValues.{tri_not, tri_outputs}

-- the value of port k, and X where there is none
abbrev pub value_at : List Tri → ℕ → Tri
value_at values k = slice_index_or values k X

-- a value, inverted where a sign says so; X stays
abbrev pub signed : Bool → Tri → Tri
signed flip value = if flip then tri_not value else value

-- what an input of the second circuit gets: the value of the input that is paired with it, and X where none is
abbrev pub value_sent : List Pair → List Tri → ℕ → Tri
value_sent [] values place = X
value_sent (pair ∷ pairs) values place =
    if same_kind pair.kind Input && (pair.to == place) then signed pair.flip (value_at values pair.from)
    else value_sent pairs values place

-- the values of all n inputs of the second circuit
abbrev pub values_sent : List Pair → ℕ → List Tri → List Tri
values_sent pairs n values = map (value_sent pairs values) (range_with_len 0 n)

-- The same as a relation: a paired input has its partner's value, by the sign, and every other one has X.
pub record AreSent (pairs : List Pair) (n : ℕ) (values sent : List Tri) : Type 0 where
  pub places : length sent ≡ n
  pub paired : (pair : Pair) → Contains pairs pair → pair.kind ≡ Input
      → value_at sent pair.to ≡ signed pair.flip (value_at values pair.from)
  pub others : (place : ℕ) → place < n
      → ((pair : Pair) → Contains pairs pair → pair.kind ≡ Input → pair.to ≢ place)
      → value_at sent place ≡ X

-- what an output has on these values of the first circuit's inputs
abbrev pub first_value : Graphs → List Tri → ℕ → Tri
first_value graphs values output = value_at (tri_outputs graphs.first values) output

-- what an output of the second circuit has on what the pairs make of values of the first circuit's inputs
abbrev pub second_value : Graphs → List Pair → List Tri → ℕ → Tri
second_value graphs pairs values place =
    value_at (tri_outputs graphs.second (values_sent pairs graphs.second.inputs values)) place

-- There is a value for each input of the first circuit, and on them the output and its partner are both definite, and
-- differ by the sign of their pair.
pub record ShowsDifference (graphs : Graphs) (pairs : List Pair) (output : ℕ) (values : List Tri) : Type 0 where
  pub pair : Pair
  pub paired : pair_of pairs Output output ≡ Some pair
  pub places : length values ≡ graphs.first.inputs
  pub first_definite : first_value graphs values output ≢ X
  pub second_definite : second_value graphs pairs values pair.to ≢ X
  pub differ : first_value graphs values output ≢ signed pair.flip (second_value graphs pairs values pair.to)
