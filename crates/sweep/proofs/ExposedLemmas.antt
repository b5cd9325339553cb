-- The netlist each signal of which is an output.
use Rattle.std.proofs.Common.{◌<◌, ap, arith}
use Rattle.std.proofs.lemmas.List.FromFn.{get_or-map-range_with_len, length-map-range_with_len}
use Rattle.circuits.specs.Literals.{plain_literal, signal_of}
use Rattle.circuits.specs.Netlists.{Net, IsOrdered, signals_of}
use Rattle.circuits.proofs.Expansions.{signal_of-plain}
use Rattle.sweep.specs.Exposed.{exposed}

pub exposed_ordered : (net : Net) → IsOrdered net → IsOrdered (exposed net)
exposed_ordered net ordered = record {
  first_operands = ordered.first_operands;
  second_operands = ordered.second_operands;
  outputs = λ k d below.
      let there : k < signals_of net = omega (arith, below, length-map-range_with_len plain_literal 0 (signals_of net)) in
      omega (arith, there, ap signal_of (get_or-map-range_with_len plain_literal 0 (signals_of net) k k d there (omega arith)), signal_of-plain k);
}
