-- The pair of netlists that a number gives, and a match of them.
use Rattle.std.specs.Prelude.{◌≡◌, ℕ, Bool, List, map, length}
use Rattle.circuits.specs.Netlists.{Net}
use Rattle.gen_pair.specs.Drawing.{generator_of}
use Rattle.gen_pair.specs.Mixing.{made}
use Rattle.gen_pair.specs.Shuffles.{hidden_matching}
use Rattle.port_moves.specs.Moved.{moved_gate, AreMovedOutputs}

-- the size of a generated netlist
pub record HasSizes (net : Net) : Type 0 where
  pub inputs : net.inputs ≡ 64
  pub outputs : length net.outputs ≡ 32
  pub gates : length net.gates ≡ 2000

-- The first netlist and the matching are drawn one after the other. The second netlist is the first under the matching,
-- with the operands of each gate exchanged.
pub record ArePairOf (number : ℕ) (first second : Net) (inputs outputs : List (ℕ × Bool)) : Type 0 where
  pub first_gates : first.gates ≡ (made 32 (generator_of number)).gates
  pub first_outputs : first.outputs ≡ (made 32 (generator_of number)).outputs
  pub matching : (inputs, outputs) ≡ (hidden_matching (made 32 (generator_of number)).random).0
  pub second_gates : second.gates ≡ map (moved_gate inputs) first.gates
  pub second_outputs : AreMovedOutputs inputs outputs first.outputs second.outputs
