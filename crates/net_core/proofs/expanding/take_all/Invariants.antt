-- What is made so far, continued by the definitions that are left, is the whole.
use Rattle.std.proofs.Common.{◌≡◌, ◌+◌, vec_len, drop}
use Rattle.circuits.specs.Circuits.{signals_in}
use Rattle.circuits.specs.Expansion.{with_defs, no_gates}
use Rattle.net_core.proofs.expanding.take_all.Given as goal

abbrev pub invariant-loop-position : goal.invariant-loop-position
invariant-loop-position l = record {
  made : with_defs l.net (record { gates = l.expansion.gates.list.items; literals = l.expansion.literals.items }) (drop l.position-index l.order) ≡ with_defs l.net (no_gates l.net) l.order;
  first : l.expansion.gates.first ≡ 1 + l.net.inputs;
  entries : vec_len l.expansion.literals ≡ signals_in l.net;
}
