use Rattle.std.proofs.Common.{arith}
use Rattle.pair_search.proofs.PivotLemmas.{no_choice_more, no_choice_yet}
use Rattle.pair_search.proofs.resolution.choice_between.Goals as goal

pub loop-place-init : goal.loop-place-init
loop-place-init c = no_choice_yet c.args.entries.now c.args.from

pub loop-place-preserved : goal.loop-place-preserved
loop-place-preserved c =
    no_choice_more c.args.entries.now c.args.from c.loop-place.place _ c.is_choice.result (omega (arith, c.loop-place-test.true, c.requires)) c.loop-place.invariant c.if-is_choice.false c.is_choice.ensures.1
