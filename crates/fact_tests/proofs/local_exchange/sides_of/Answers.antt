-- What is listed of the signal gives the literal.
use Rattle.std.proofs.Common.{subst, ap, ◌∙◌}
use Rattle.circuits.specs.Literals.{signal_of}
use Rattle.net_core.specs.Values.{signed_word}
use Rattle.fact_tests.specs.LocalExchanges.{IsListed}
use Rattle.fact_tests.proofs.LocalLemmas.{listed_tells}
use Rattle.fact_tests.proofs.local_exchange.sides_of.Goals as goal

pub returns-in-Some : goal.returns-in-Some
returns-in-Some c =
    listed_tells c.args.lit c.args.near.now c.in-Some.sides c.signed.result (subst (IsListed c.args.near.now.changed (signal_of c.args.lit)) c.in-Some.is c.requires)
    (c.signed.ensures.one ∙ ap (signed_word c.in-Some.sides.one) c.is_negated.ensures) (c.signed.ensures.other ∙ ap (signed_word c.in-Some.sides.other) c.is_negated.ensures)
