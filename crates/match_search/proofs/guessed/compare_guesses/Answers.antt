-- Guesses are compared one after the other.
use Rattle.std.proofs.Common.{refl}
use Rattle.match_search.proofs.CompareLemmas.{asked_none, may_ask_later}
use Rattle.fact_bans.proofs.ServeLemmas.{served_one, served_then, serves_ok, serves_err}
use Rattle.match_search.proofs.guessed.compare_guesses.Goals as goal

pub loop-count-init : goal.loop-count-init
loop-count-init g c = asked_none c.requires.may

pub compare_guess-requires : goal.compare_guess-requires
compare_guess-requires g c = record { may = may_ask_later c.requires.may c.loop-count.invariant }

pub returns-in_err-matching-clause-serves : goal.returns-in_err-matching-clause-serves
returns-in_err-matching-clause-serves g c =
    serves_err _ _ _ _ _ _ _ c.in_err-matching.field-0.0 c.from_residual.ensures.1 c.loop-count.invariant c.in_err-matching.ensures.serves

pub returns-in-Match-clause-serves : goal.returns-in-Match-clause-serves
returns-in-Match-clause-serves g c =
    serves_ok _ _ _ _ _ _ refl (served_then _ _ _ _ _ _ c.loop-count.invariant (served_one _ _ _ _ _ c.in_ok-matching.ensures.serves))

pub returns-in-Nothing-clause-serves : goal.returns-in-Nothing-clause-serves
returns-in-Nothing-clause-serves g c =
    serves_ok _ _ _ _ _ _ refl (served_then _ _ _ _ _ _ c.loop-count.invariant (served_one _ _ _ _ _ c.in_ok-matching.ensures.serves))

pub loop-count-preserved : goal.loop-count-preserved
loop-count-preserved g c = served_then _ _ _ _ _ _ c.loop-count.invariant (served_one _ _ _ _ _ c.in_ok-matching.ensures.serves)
