-- The gates have their bits on each vector.
use Rattle.std.proofs.Common.{◌+◌, ◌∙◌, length, take, ap}
use Rattle.word_sim.specs.Columns.{row_of, with_gate_words}
use Rattle.sim_signature.proofs.Evaluating.{IsValuation-run}
use Rattle.sim_signature.proofs.gates.evaluate.Goals as goal

pub returns-clause-simulated : goal.returns-clause-simulated
returns-clause-simulated c w v h l =
    let inputs = c.args.inputs.now in
    let front = c.put_inputs.new.values in
    let gates = ap (with_gate_words (take (length inputs + 1) (row_of front w))) c.gates-gates.ensures.value in
    IsValuation-run c.args.graph.now inputs front c.run_gate_blocks.new.values w v h l c.put_inputs.ensures.front (c.run_gate_blocks.ensures.rows w h ∙ gates)
