-- Simulation by three values: 0, 1 and X, which stands for either (Eichelberger, IBM J. Res. Dev. 1965).
use Rattle.std.specs.Prelude.{◌≡◌, ℕ, ◌<◌, Bool, true, false, List, ◌∷◌, length, map, slice_index_or, if◌then◌else◌}
use Rattle.circuits.specs.declared.netlist.Lit.{Lit}
use Rattle.circuits.specs.declared.netlist.Gate.{Gate}
use Rattle.circuits.specs.Literals.{bit, signal_of, is_negated}
use Rattle.circuits.specs.Netlists.{Net}
use Rattle.net_core.specs.Values.{Operations, with_values}
use Rattle.word_sim.specs.declared.tri.Tri.{Tri}
use Rattle.word_sim.specs.declared.tri.Tri.TheVariants.{Zero, One, X}

-- the value that is a bit
abbrev pub of_bit : Bool → Tri
of_bit true = One
of_bit false = Zero

-- NOT exchanges 0 and 1, and keeps X
abbrev pub tri_not : Tri → Tri
tri_not Zero = One
tri_not One = Zero
tri_not X = X

-- AND is 0 where an operand is 0, 1 where both are 1, and else X
abbrev pub tri_and : Tri → Tri → Tri
tri_and Zero Zero = Zero
tri_and Zero One = Zero
tri_and Zero X = Zero
tri_and One Zero = Zero
tri_and One One = One
tri_and One X = X
tri_and X Zero = Zero
tri_and X One = X
tri_and X X = X

-- gates over 0, 1 and X; a signal that isn't there is X
abbrev pub tris : Operations Tri
tris = record { absent = X; signed = λ value negated. if negated then tri_not value else value; and = tri_and }

-- the literal's value where each signal has the value given
abbrev pub tri_literal : List Tri → Lit → Tri
tri_literal v literal =
    if is_negated literal then tri_not (slice_index_or v (signal_of literal) X) else slice_index_or v (signal_of literal) X

-- the AND of a gate's operands where each signal has the value given
abbrev pub tri_gate : List Tri → Gate → Tri
tri_gate v gate = tri_and (tri_literal v gate.a) (tri_literal v gate.b)

-- the values so far, continued by one value for each gate
abbrev pub with_tri_gates : List Tri → List Gate → List Tri
with_tri_gates = with_values tris

-- each output's value where the inputs have these values
abbrev pub tri_outputs : Net → List Tri → List Tri
tri_outputs net x = map (tri_literal (with_tri_gates (Zero ∷ x) net.gates)) net.outputs

-- a bit is one that the value stands for
abbrev pub IsBitOf : Tri → Bool → Type 0
IsBitOf Zero b = b ≡ false
IsBitOf One b = b ≡ true
IsBitOf X b = Unit {0}

-- The vector fills the values in: it has 0 and 1 where they do, and either where they have X.
pub record FillsIn (values : List Tri) (vector : List Bool) : Type 0 where
  pub places : length vector ≡ length values
  pub bits : (k : ℕ) → k < length values → IsBitOf (slice_index_or values k X) (bit vector k)
