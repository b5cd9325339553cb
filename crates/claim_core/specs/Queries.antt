-- What is asked of two circuits: a vector on which an output of each has a wanted value (a miter, Brand, ICCAD 1993).
use Rattle.std.specs.Prelude.{◌≡◌, ℕ, ◌+◌, ◌<◌, Bool, List, length, map, All}
use Rattle.std.specs.List.{range_with_len}
use Rattle.circuits.specs.Literals.{bit, differ}
use Rattle.circuits.specs.Netlists.{Net, function_of}
use Rattle.net_core.specs.Sides.{Graphs}
use Rattle.net_core.specs.Sides.{graph_of}
use Rattle.claim_core.specs.declared.query.Feed.{Feed}
use Rattle.claim_core.specs.declared.query.Feed.TheVariants.{Fixed, Wire}
use Rattle.claim_core.specs.declared.query.Cone.{Cone}
use Rattle.claim_core.specs.declared.query.Query.{Query}

-- the bit that an input gets where the vector is x
abbrev pub feed_bit : List Bool → Feed → Bool
feed_bit x (Fixed b) = b
feed_bit x (Wire place flip) = differ (bit x place) flip

-- the circuit of a cone
abbrev pub circuit_of : Graphs → Cone → Net
circuit_of graphs cone = graph_of graphs cone.side

-- the vector that the inputs of a cone's circuit get where the vector is x
abbrev pub fed : List Bool → Cone → List Bool
fed x cone = map (feed_bit x) cone.feed

-- the bit of a cone's output where the vector is x
abbrev pub cone_bit : Graphs → List Bool → Cone → Bool
cone_bit graphs x cone = bit (function_of (circuit_of graphs cone) (fed x cone)) cone.output

-- a vector is what is asked for
pub record MeetsQuery (graphs : Graphs) (query : Query) (x : List Bool) : Type 0 where
  pub left : cone_bit graphs x query.left ≡ query.left_value
  pub right : cone_bit graphs x query.right ≡ query.right_value

-- a wire's place is one of n
abbrev pub IsWired : ℕ → Feed → Type 0
IsWired n (Fixed b) = Unit {0}
IsWired n (Wire place flip) = place < n

-- A cone's output is there, and each of its circuit's n inputs gets a bit that is there.
pub record IsCone (graphs : Graphs) (n : ℕ) (cone : Cone) : Type 0 where
  pub inputs : (circuit_of graphs cone).inputs ≡ n
  pub output : cone.output < length (circuit_of graphs cone).outputs
  pub feed : length cone.feed ≡ n
  pub wires : All (IsWired n) cone.feed

-- how many bits the vector that is looked for has: as many as either circuit has inputs
abbrev pub bits_in : Graphs → Query → ℕ
bits_in graphs query = (circuit_of graphs query.left).inputs

-- A query fits two circuits.
pub record IsQuery (graphs : Graphs) (query : Query) : Type 0 where
  pub left : IsCone graphs (bits_in graphs query) query.left
  pub right : IsCone graphs (bits_in graphs query) query.right

-- the vector that an assignment has as its variables 1 to n
abbrev pub vector_in : ℕ → List Bool → List Bool
vector_in n assignment = map (λ i. bit assignment (1 + i)) (range_with_len 0 n)

-- no vector is what is asked for
abbrev pub IsUnmet : Graphs → Query → Type 0
IsUnmet graphs query = (x : List Bool) → length x ≡ bits_in graphs query → MeetsQuery graphs query x → ⊥
