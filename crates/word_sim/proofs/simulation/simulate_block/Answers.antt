-- The rows' words hold the outputs' bits.
use Rattle.std.proofs.Common.{◌+◌}
use Rattle.word_sim.specs.Columns.{row_of}
use Rattle.word_sim.proofs.Lanes.{lane-function}
use Rattle.word_sim.proofs.Rows.{AreEvaluated-more}
use Rattle.word_sim.proofs.simulation.simulate_block.Goals as goal

pub returns-clause-vectors : goal.returns-clause-vectors
returns-clause-vectors c =
    let net = c.args.graph.now in
    let inputs = c.args.inputs.now in
    let word = c.args.word in
    let taken = c.take_blocks.ensures in
    AreEvaluated-more net inputs c.args.outputs.now c.take_blocks.new.table word 8 c.requires.start taken.table taken.words taken.columns taken.others (λ l v less h.
    rw (taken.rows l less, c.outputs.ensures.value, c.run_gate_blocks.ensures.rows l less, c.gates-gates.ensures.value, c.columns.ensures.value, c.put_blocks.ensures.rows l less) (lane-function v net (row_of inputs.columns (word + l)) h))
