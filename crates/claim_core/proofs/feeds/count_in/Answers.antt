use Rattle.std.proofs.Common.{length, sym, ap, ◌∙◌}
use Rattle.claim_core.specs.Feeds.{feeds_in}
use Rattle.claim_core.proofs.ClaimQueryLemmas.{values_count}
use Rattle.claim_core.proofs.MatchLemmas.{straight_count}
use Rattle.claim_core.proofs.feeds.count_in.Goals as goal

pub returns-in-Straight : goal.returns-in-Straight
returns-in-Straight c = sym (ap (λ f. length (feeds_in f)) c.in-Straight.is ∙ straight_count c.in-Straight.inputs)

pub returns-in-Valued : goal.returns-in-Valued
returns-in-Valued c =
    sym (ap (λ f. length (feeds_in f)) c.in-Valued.is ∙ values_count c.in-Valued.inputs c.in-Valued.field-1)
