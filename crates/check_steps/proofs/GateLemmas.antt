-- The graph by which accounts number a file's gates has few of them.
use Rattle.std.proofs.Common.{ℕ, ◌≤◌, inl, inr, List, length, arith}
use Rattle.circuits.specs.Circuits.{Circuit}
use Rattle.circuits.specs.Expansion.{gates_in}
use Rattle.circuits.specs.Levels.{IsOrderOf}
use Rattle.circuits.specs.Netlists.{Net}
use Rattle.circuits.proofs.GateCounts.{gates_in_order}
use Rattle.net_core.specs.Limits.{most_gates}
use Rattle.aiger_reader.specs.Aiger.{IsAiger}
use Rattle.aiger_reader.proofs.FewPorts.{aiger_closed}
use Rattle.aiger_reader.proofs.LimitLemmas.{accepted_limits}
use Rattle.aiger_reader.proofs.NetlistLemmas.{net_sizes}
use Rattle.aiger_reader.proofs.WholeLemmas.{gates_of_form}
use Rattle.blif_reader.proofs.BlifLemmas.{closed_blif}
use Rattle.check_steps.specs.Circuits.{IsCircuit}

aiger_gates : (bytes : List ℕ) (circuit : Circuit) (i o : List (List ℕ)) → IsAiger bytes circuit i o → gates_in circuit ≤ most_gates
aiger_gates bytes circuit i o is =
    omega (arith, (accepted_limits is.h is.netlist.begins.accepted).gates, (net_sizes bytes is.h circuit is.rest is.netlist).defs, gates_of_form is.h.binary bytes is.h is.netlist.rows circuit is.rest is.netlist.form)

pub few_gates : (bytes : List ℕ) (circuit : Circuit) (net : Net) (i o : List (List ℕ)) → IsCircuit bytes circuit i o → IsOrderOf circuit net → length net.gates ≤ most_gates
few_gates bytes circuit net i o is order =
    elim is [
      | inl (begins, aiger) ↦ omega (arith, aiger_gates bytes circuit i o aiger, gates_in_order circuit net (aiger_closed bytes circuit i o aiger) order)
      | inr (not, blif) ↦ omega (arith, blif.few_gates, gates_in_order circuit net (closed_blif bytes circuit i o blif) order)
    ]
