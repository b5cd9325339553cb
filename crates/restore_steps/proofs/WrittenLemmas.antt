-- The netlist that is printed is a file of one that has the first netlist's ports and computes what it does.
use Rattle.std.proofs.Common.{◌≡◌, ℕ, inl, inr, Bool, List, length, map, Option, Result, Ok, Err, refl, sym, ap, subst, ◌∙◌, arith}
use Rattle.std.proofs.lemmas.List.{length-map}
use Rattle.circuits.specs.Circuits.{Circuit}
use Rattle.circuits.specs.Functions.{Computes, as_circuit, gate_def}
use Rattle.net_file.specs.declared.named.Named.{Named}
use Rattle.net_print.specs.Files.{aig_text}
use Rattle.aiger_reader.specs.Aiger.{IsAiger}
use Rattle.print_laws.specs.Ordered.{greater_first, with_greater_first}
use Rattle.print_laws.specs.Printable.{IsPrintable, symbol_name}
use Rattle.print_laws.proofs.Aig.{aig_is}
use Rattle.print_laws.proofs.OperandOrder.{computes_too}
use Rattle.port_moves.proofs.EqualCircuits.{equal_circuits}
use Rattle.shelf_core.specs.State.{ShelfState}
use Rattle.shelf_core.proofs.FaultLemmas.{none_failed}
use Rattle.check_steps.specs.Held.{HasGraph, HasNetlist}
use Rattle.check_steps.specs.Lines.{line_of}
use Rattle.check_steps.specs.Reading.{netlist_of}
use Rattle.check_steps.specs.declared.outcome.Ending.{Ending}
use Rattle.check_steps.specs.declared.outcome.Outcome.{Outcome}
use Rattle.check_steps.specs.declared.outcome.Outcome.TheVariants.{Restored, Memory}
use Rattle.check_steps.proofs.GateLemmas.{few_gates}
use Rattle.run_steps.specs.Restore.{IsRestored}
use Rattle.run_steps.specs.Steps.{WritesText}
use Rattle.run_steps.proofs.PrintedLemmas.{printable}
use Rattle.restore_steps.specs.Restoring.{HasFirstPorts, Restores}

-- two files were read, and this is the second netlist with the first one's ports
module _ (content other : Option (List ℕ)) (circuit : Circuit) (first second restored : Named)
    (holds : HasNetlist content (netlist_of circuit first)) (computes : Computes first.graph circuit) (graph : HasGraph other second.graph)
    (ported : HasFirstPorts first second restored) where
  good : IsPrintable restored
  good =
      let net = graph.netlist in
      let gates = few_gates graph.holds.bytes net.circuit second.graph net.input_names net.output_names graph.holds.is graph.numbered in
      printable content circuit first restored holds computes ported.equal ported.sound.ordered (omega (arith, gates, ported.gates)) ported.input_names ported.output_names

  pub is_restored : IsRestored (netlist_of circuit first) second.graph (length restored.graph.gates) (aig_text restored)
  is_restored =
      let net = restored.graph in
      let printed = as_circuit (with_greater_first net) in
      record {
        circuit = printed;
        binary = refl;
        file = subst (λ names. IsAiger (aig_text restored) printed names (map symbol_name first.output_names)) ported.input_names
            (subst (IsAiger (aig_text restored) printed restored.input_names) ported.output_names (aig_is restored good));
        same = equal_circuits circuit printed first.graph net computes (computes_too net ported.sound.ordered) ported.equal;
        gates_are = length-map (map greater_first net.gates) gate_def ∙ length-map net.gates greater_first;
        no_more = omega (arith, ported.gates);
      }

-- there was no memory for the netlist
pub no_room : (tells : Bool) (first second : Named) (name : List ℕ) (state : ShelfState) (result : Result Ending Outcome) → result ≡ Err Memory → Restores tells first second name state state result
no_room tells first second name state result is =
    subst (λ r. Restores tells first second name state state r) (sym is) (record {
      others = λ t n other. refl;
      answer = tt;
      stopped = inr refl;
      part = λ t. inl refl;
      last = none_failed state state refl;
      failed = λ e. cc;
    })

-- it was written
pub written : (tells : Bool) (first second restored : Named) (name : List ℕ) (old new : ShelfState) (ending : Ending) → HasFirstPorts first second restored → ending.outcome ≡ Restored (length restored.graph.gates) → ending.report.items ≡ line_of ending.outcome → WritesText tells name (aig_text restored) old new (Ok tt) → Restores tells first second name old new (Ok ending)
written tells first second restored name old new ending ported is report writes = record {
  others = writes.others;
  answer = (restored, ported, is, report, writes.whole);
  stopped = tt;
  part = λ t. tt;
  last = writes.last;
  failed = λ e. cc;
}

-- or it wasn't
pub unwritten_netlist : (tells : Bool) (first second restored : Named) (name : List ℕ) (old new : ShelfState) (o : Outcome) (result : Result Ending Outcome) → result ≡ Err o → HasFirstPorts first second restored → WritesText tells name (aig_text restored) old new (Err o) → Restores tells first second name old new result
unwritten_netlist tells first second restored name old new o result is ported writes =
    subst (λ r. Restores tells first second name old new r) (sym is) (record {
      others = writes.others;
      answer = tt;
      stopped = writes.stopped;
      part = λ t. elim (writes.part t) [ inl same ↦ inl same | inr first_part ↦ inr (restored, ported, first_part) ];
      last = writes.last;
      failed = λ e. writes.failed (ap Err (cc e));
    })
