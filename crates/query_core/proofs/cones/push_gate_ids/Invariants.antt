-- The numbers so far, and those of the gates that are left, are those of all.
use Rattle.std.proofs.Common.{◌≡◌, ◌++◌, drop}
use Rattle.claim_core.specs.ConeClauses.{gate_ids}
use Rattle.query_core.proofs.cones.push_gate_ids.Given as goal

abbrev pub invariant-loop-gate : goal.invariant-loop-gate
invariant-loop-gate l =
    l.ids.items ++ gate_ids l.first (drop l.gate-index l.gates) ≡ l.fn.ids.items ++ gate_ids l.first l.gates
