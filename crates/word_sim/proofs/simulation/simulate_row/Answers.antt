-- The row's words hold the outputs' bits.
use Rattle.std.proofs.Common.{◌≡◌, ◌+◌, arith}
use Rattle.word_sim.specs.Columns.{row_of}
use Rattle.word_sim.proofs.Lanes.{lane-function}
use Rattle.word_sim.proofs.Rows.{AreEvaluated-more}
use Rattle.word_sim.proofs.simulation.simulate_row.Goals as goal

pub returns-clause-vectors : goal.returns-clause-vectors
returns-clause-vectors c =
    let net = c.args.graph.now in
    let inputs = c.args.inputs.now in
    let word = c.args.word in
    let taken = c.take_row.ensures in
    AreEvaluated-more net inputs c.args.outputs.now c.take_row.new.table word 1 c.requires.start taken.table taken.words taken.columns taken.others (λ l v less h.
    let e : word + l ≡ word = omega (arith, less) in
    rw (e, taken.row, c.outputs.ensures.value, c.eval_gates.ensures.values, c.gates-gates.ensures.value, c.columns.ensures.value, c.put_row.ensures.row) (lane-function v net (row_of inputs.columns word) h))
