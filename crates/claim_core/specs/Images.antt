-- What a claim of the first circuit becomes where its ports go to ports of the second, with signs.
use Rattle.std.specs.Prelude.{◌≡◌, ◌⊎◌, ℕ, ◌<◌, ◌==◌, ◌&&◌, Bool, true, false, List, length, All, Contains, Option, find, nat_lt, option_and_then, option_map}
use Rattle.std.specs.Prelude.{slice_index_or, if◌then◌else◌}
use Rattle.circuits.specs.Literals.{differ}
use Rattle.circuits.specs.declared.port.PortKind.{PortKind}
use Rattle.circuits.specs.declared.port.PortKind.TheVariants.{Input, Output}
use Rattle.circuits.specs.declared.port.Pair.{Pair}
use Rattle.net_core.specs.declared.graphs.Side.TheVariants.{Second}
use Rattle.claim_core.specs.declared.claims.Shape.{Shape}
use Rattle.claim_core.specs.declared.claims.Shape.TheVariants.{Up, Down, Swap}
use Rattle.claim_core.specs.declared.claims.Claim.{Claim}

-- pairs agree with one another: no two different ones of one kind share a first or a second port
abbrev pub Agree : List Pair → Type 0
Agree pairs = (one other : Pair)
    → Contains pairs one
    → Contains pairs other
    → one.kind ≡ other.kind
    → (one.from ≡ other.from) ⊎ (one.to ≡ other.to)
    → one ≡ other

-- the entries of a matching for the ports of a kind: p of the inputs, q of the outputs
abbrev pub entries_of : PortKind → List (ℕ × Bool) → List (ℕ × Bool) → List (ℕ × Bool)
entries_of Input p q = p
entries_of Output p q = q

-- A matching has a pair: the pair's first port goes to its second one, with its sign.
pub record HasPair (p q : List (ℕ × Bool)) (pair : Pair) : Type 0 where
  pub there : pair.from < length (entries_of pair.kind p q)
  pub goes : slice_index_or (entries_of pair.kind p q) pair.from (0, false) ≡ (pair.to, pair.flip)

-- a matching extends a list of pairs: it has all of them
abbrev pub Extends : List Pair → List (ℕ × Bool) → List (ℕ × Bool) → Type 0
Extends pairs p q = All (HasPair p q) pairs

-- two inputs, or two outputs
abbrev pub same_kind : PortKind → PortKind → Bool
same_kind Input Input = true
same_kind Input Output = false
same_kind Output Input = false
same_kind Output Output = true

-- whether a pair is of this port of the first circuit
abbrev pub is_of : PortKind → ℕ → Pair → Bool
is_of kind port pair = same_kind pair.kind kind && (pair.from == port)

-- the pair of a port of the first circuit
abbrev pub pair_of : List Pair → PortKind → ℕ → Option Pair
pair_of pairs kind port = find (is_of kind port) pairs

-- one input with a value
abbrev pub one_input : ℕ → Bool → Shape
one_input i false = Up i
one_input i true = Down i

-- two inputs with their values, the lesser input first
abbrev pub two_inputs : ℕ → Bool → ℕ → Bool → Shape
two_inputs i a j b = if nat_lt i j then Swap i j a b else Swap j i b a

-- the value of an input goes with the input's sign; values are exchanged with the opposite ones where the output is
-- inverted
abbrev pub moved_value : Bool → Pair → Bool → Bool
moved_value exchanged input a = differ (differ a input.flip) exchanged

-- an input with a value at its place
abbrev pub moved_one : Bool → Bool → Pair → Shape
moved_one exchanged a input = one_input input.to (moved_value exchanged input a)

-- two inputs with their values at their places
abbrev pub moved_two : Bool → Bool → Bool → Pair → Pair → Shape
moved_two exchanged a b first second =
    two_inputs first.to (moved_value exchanged first a) second.to (moved_value exchanged second b)

-- a shape at its inputs' places; there is none where an input has no pair
abbrev pub moved_shape : List Pair → Bool → Shape → Option Shape
moved_shape pairs exchanged (Up i) = option_map (moved_one exchanged false) (pair_of pairs Input i)
moved_shape pairs exchanged (Down i) = option_map (moved_one exchanged true) (pair_of pairs Input i)
moved_shape pairs exchanged (Swap i j a b) =
    option_and_then
    (λ first. option_map (moved_two exchanged a b first) (pair_of pairs Input j))
    (pair_of pairs Input i)

-- a claim of an output of the second circuit
abbrev pub claim_of_second : ℕ → Shape → Claim
claim_of_second output shape = record { side = Second; output = output; shape = shape }

-- The claim at the places of its output and inputs. There is none where the output or an input has no pair.
abbrev pub image_of : List Pair → Claim → Option Claim
image_of pairs claim =
    option_and_then
    (λ output. option_map (claim_of_second output.to) (moved_shape pairs output.flip claim.shape))
    (pair_of pairs Output claim.output)

-- no pair is of this port
abbrev pub Lacks : List Pair → PortKind → ℕ → Type 0
Lacks pairs kind port = All (λ pair. is_of kind port pair ≡ false) pairs

-- no pair is of an input of the shape
abbrev pub LacksInput : List Pair → Shape → Type 0
LacksInput pairs (Up i) = Lacks pairs Input i
LacksInput pairs (Down i) = Lacks pairs Input i
LacksInput pairs (Swap i j a b) = Lacks pairs Input i ⊎ Lacks pairs Input j
