use Rattle.std.proofs.Common.{ap, ◌∙◌, ◌+◌, [], ◌∷◌, arith, length, bit_or, drop}
use Rattle.std.proofs.lemmas.List.{length-append}
use Rattle.claim_core.specs.Formulas.{reaching}
use Rattle.word_sim.specs.Columns.{lane}
use Rattle.circuits.specs.declared.netlist.Gate.{Gate}
use Rattle.sim_signature.proofs.SupportLemmas.{gates_more}
use Rattle.sim_signature.proofs.supports.push_gates.Goals as goal

pub loop-gate-preserved : goal.loop-gate-preserved
loop-gate-preserved c =
    let items = c.in_ok-push.ensures.items in
    let words = c.loop-gate.words.items in
    let gates = c.args.gates.now in
    let t = c.loop-gate.gate-index in
    let d : Gate = record { a = record { 0 = 0 }; b = record { 0 = 0 } } in
    let a = c.index.result.now in
    let b = c.index-in-loop-gate.result.now in
    record {
      count = omega (arith, ap length items, length-append words (bit_or a b ∷ []), c.loop-gate.invariant.count);
      lanes = λ v. ap (λ ws. reaching (lane v ws) (drop (t + 1) gates)) items ∙ gates_more v (length c.args.words.now.items) t words gates d c.signal.result c.signal-in-loop-gate.result a b (reaching (lane v c.args.words.now.items) gates) c.requires c.loop-gate.invariant.count c.loop-gate-test.true c.signal.ensures c.signal-in-loop-gate.ensures c.index.ensures c.index-in-loop-gate.ensures (c.loop-gate.invariant.lanes v);
    }
