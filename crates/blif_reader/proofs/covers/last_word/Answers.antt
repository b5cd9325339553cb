use Rattle.blif_reader.proofs.BuildingLemmas.{ends_more}
use Rattle.std.proofs.Common.{◌∙◌}
use Rattle.blif_reader.proofs.covers.last_word.Goals as goal

pub loop-word-preserved : goal.loop-word-preserved
loop-word-preserved c =
    (ends_more c.loop-word.last c.in-Some.word _ _ _ c.loop-word.invariant.0 c.in-Some.ensures.word, c.in-Some.ensures.lines ∙ c.loop-word.invariant.1)
