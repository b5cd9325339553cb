-- Matches of two circuits, and NPNP equality (Katebi and Markov, DATE 2010, with negations).
use Rattle.std.specs.Prelude.{ℕ, ◌<◌, ◌≡◌, Bool, List, length}
use Rattle.circuits.specs.Literals.{bit, differ}
use Rattle.circuits.specs.Netlists.{Net, function_of}
use Rattle.circuits.specs.Circuits.{Circuit, FitsCircuit, circuit_outputs}
use Rattle.circuits.specs.Bijections.{IsSignedBijection, Moves, moved, place_of, sign_of}

-- each output of the first has the bit of the output that it goes to, inverted where the sign says so
abbrev pub OutputsAgree : List (ℕ × Bool) → List Bool → List Bool → Type 0
OutputsAgree q first second = (k : ℕ) → k < length q → bit first k ≡ differ (bit second (place_of q k)) (sign_of q k)

-- Signed bijections p of the inputs and q of the outputs are a match of two circuits: on every vector, under the
-- valuations that meet all definitions of either circuit at once, all outputs agree.
pub record IsMatch (first second : Circuit) (p q : List (ℕ × Bool)) : Type 0 where
  pub same_inputs : second.inputs ≡ first.inputs
  pub same_outputs : length second.outputs ≡ length first.outputs
  pub inputs : IsSignedBijection first.inputs p
  pub outputs : IsSignedBijection (length first.outputs) q
  pub agree : (x y v w : List Bool) → length x ≡ first.inputs
      → Moves p x y
      → FitsCircuit first x v
      → FitsCircuit second y w
      → OutputsAgree q (circuit_outputs first v) (circuit_outputs second w)

-- the same, said of the functions of two netlists in order
pub record IsMatchOfFunctions (first second : Net) (p q : List (ℕ × Bool)) : Type 0 where
  pub same_inputs : second.inputs ≡ first.inputs
  pub same_outputs : length second.outputs ≡ length first.outputs
  pub inputs : IsSignedBijection first.inputs p
  pub outputs : IsSignedBijection (length first.outputs) q
  pub agree : (x : List Bool) → length x ≡ first.inputs
      → OutputsAgree q (function_of first x) (function_of second (moved p x))

-- the same numbers of inputs and outputs, and signed bijections of them
pub record HavePorts (first second : Net) (p q : List (ℕ × Bool)) : Type 0 where
  pub same_inputs : second.inputs ≡ first.inputs
  pub same_outputs : length second.outputs ≡ length first.outputs
  pub inputs : IsSignedBijection first.inputs p
  pub outputs : IsSignedBijection (length first.outputs) q

-- all outputs agree on one vector of the first, by the functions
abbrev pub AgreeOn : Net → Net → List (ℕ × Bool) → List (ℕ × Bool) → List Bool → Type 0
AgreeOn first second p q x = OutputsAgree q (function_of first x) (function_of second (moved p x))

-- and on each vector
abbrev pub AgreeOnAll : Net → Net → List (ℕ × Bool) → List (ℕ × Bool) → Type 0
AgreeOnAll first second p q = (x : List Bool) → length x ≡ first.inputs → AgreeOn first second p q x

-- the inputs' signed bijection p is part of a match of the functions
abbrev pub IsPartOfMatch : Net → Net → List (ℕ × Bool) → Type 0
IsPartOfMatch first second p = (q : List (ℕ × Bool)) × IsMatchOfFunctions first second p q

-- some signed bijections are a match
abbrev pub AreNpnpEqual : Circuit → Circuit → Type 0
AreNpnpEqual first second = (p q : List (ℕ × Bool)) × IsMatch first second p q

-- the same, said of the functions of two netlists in order
abbrev pub HaveNpnpEqualFunctions : Net → Net → Type 0
HaveNpnpEqualFunctions first second = (p q : List (ℕ × Bool)) × IsMatchOfFunctions first second p q
