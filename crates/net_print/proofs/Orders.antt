-- Gates in order, without the first one.
use Rattle.std.proofs.Common.{◌≡◌, ℕ, suc, ◌+◌, ◌-◌, ◌<◌, ◌≤◌, List, [], ◌∷◌, length, take, drop, sym, ap, subst, ◌∙◌, arith}
use Rattle.std.specs.Prelude.{slice_index_or}
use Rattle.std.proofs.Math.Seq.{take-length}
use Rattle.circuits.specs.Literals.{signal_of}
use Rattle.circuits.specs.declared.netlist.Gate.{Gate}
use Rattle.net_core.specs.Graph.{AreInOrder}

order_of_tail : (variable : ℕ) (gate : Gate) (gates : List Gate) → AreInOrder variable (gate ∷ gates) → AreInOrder (variable + 1) gates
order_of_tail variable gate gates order = record {
  first_operands = λ k d there.
      subst (λ first. signal_of (slice_index_or gates k d).a < first) (omega arith) (order.first_operands (suc k) d (omega (arith, there)));
  second_operands = λ k d there.
      subst (λ first. signal_of (slice_index_or gates k d).b < first) (omega arith) (order.second_operands (suc k) d (omega (arith, there)));
}

pub order_of_rest : (variable : ℕ) (gates : List Gate) → 1 ≤ length gates → AreInOrder variable gates → AreInOrder (variable + 1) (take (length gates - 1) (drop 1 gates))
order_of_rest variable [] some order = absurd (omega (arith, some))
order_of_rest variable (gate ∷ gates) some order =
    let count : length (gate ∷ gates) - 1 ≡ length gates = omega arith in
    let rest = ap (λ n. take n gates) count ∙ take-length gates in
    subst (λ (after : List Gate). AreInOrder (variable + 1) after) (sym rest) (order_of_tail variable gate gates order)
