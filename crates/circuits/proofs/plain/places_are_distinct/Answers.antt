-- An entry goes where an earlier one goes, or the entries so far stay apart.
use Rattle.std.proofs.Common.{sym, ◌∙◌}
use Rattle.std.proofs.lemmas.Bool.{false≢true}
use Rattle.circuits.proofs.Places.{not_apart, apart_more}
use Rattle.circuits.proofs.plain.places_are_distinct.Goals as goal

pub returns-then-goes_to : goal.returns-then-goes_to
returns-then-goes_to c =
    (λ h. absurd (false≢true h), λ pairs. absurd (not_apart c.args.entries.now c.loop-i.i c.loop-i-test.true (c.goes_to.ensures.0 c.if-goes_to.true) pairs))

pub loop-i-preserved : goal.loop-i-preserved
loop-i-preserved c =
    apart_more c.args.entries.now c.loop-i.i c.loop-i-test.true (λ any. false≢true (sym c.if-goes_to.false ∙ c.goes_to.ensures.1 any)) c.loop-i.invariant
