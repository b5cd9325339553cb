-- The blocks have the digits of all numbers.
use Rattle.std.proofs.Common.{ap, length, ◌≡◌, subst, sym, ◌∙◌, arith}
use Rattle.std.proofs.lemmas.List.{length_push}
use Rattle.circuits.proofs.EachLemmas.{each_push}
use Rattle.circuits.specs.Literals.{EachAt}
use Rattle.word_sim.specs.Columns.{word_bit}
use Rattle.sim_signature.proofs.Rows.{IsDigit, all-vectors}
use Rattle.sim_signature.proofs.vectors.all_vectors.Goals as goal

pub loop-input-preserved : goal.loop-input-preserved
loop-input-preserved c =
    let l = c.loop-input in
    let block = c.everywhere.result in
    let is = c.in_ok-push.ensures.items in
    let count : length l.blocks.items ≡ l.input = l.invariant.0 in
    let digits = subst (λ k. IsDigit k block) (sym count) (λ w v h k. ap (word_bit v) (c.everywhere.ensures w h) ∙ c.alternating.ensures v k) in
    (omega (arith, ap length is, length_push l.blocks.items block, count), subst (EachAt IsDigit) (sym is) (each_push IsDigit l.blocks.items block l.invariant.1 digits))

pub returns-clause-vectors : goal.returns-clause-vectors
returns-clause-vectors c w v h k =
    let l = c.loop-input in
    all-vectors l.blocks.items c.args.inputs w v (omega (arith, l.invariant.0, c.loop-input-test.false)) l.invariant.1 h k
