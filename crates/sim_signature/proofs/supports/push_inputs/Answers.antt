use Rattle.std.proofs.Common.{ap, ◌∙◌, [], ◌∷◌, arith, length}
use Rattle.std.proofs.lemmas.List.{length-append}
use Rattle.word_sim.specs.Columns.{lane}
use Rattle.sim_signature.proofs.SupportLemmas.{inputs_more}
use Rattle.sim_signature.proofs.supports.push_inputs.Goals as goal

pub loop-input-preserved : goal.loop-input-preserved
loop-input-preserved c =
    let items = c.in_ok-push.ensures.items in
    let words = c.loop-input.words.items in
    record {
      lanes = λ v below. ap (lane v) items ∙ inputs_more c.args.first v c.loop-input.input c.args.words.now.items words c.word_of.result (c.loop-input.invariant.lanes v below) (c.word_of.ensures v below);
      count = omega (arith, ap length items, length-append words (c.word_of.result ∷ []), c.loop-input.invariant.count);
    }
