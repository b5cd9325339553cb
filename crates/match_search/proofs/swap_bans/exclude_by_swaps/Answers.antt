use Rattle.std.proofs.lemmas.List.Elements.{Contains-get_or}
use Rattle.match_search.proofs.StepLemmas.{goes_err, goes_ok, gone_more, gone_none, may_ask_on, never_if}
use Rattle.match_search.proofs.swap_bans.exclude_by_swaps.Goals as goal

pub loop-other-init : goal.loop-other-init
loop-other-init g c = gone_none c.requires.may

pub exclude_with-requires-clause-may : goal.exclude_with-requires-clause-may
exclude_with-requires-clause-may g c = may_ask_on c.requires.may c.loop-other.invariant

pub exclude_with-requires-clause-other : goal.exclude_with-requires-clause-other
exclude_with-requires-clause-other g c = Contains-get_or c.args.assigned.now c.loop-other.other-index _ c.loop-other-test.true

pub loop-other-preserved : goal.loop-other-preserved
loop-other-preserved g c = gone_more c.loop-other.invariant c.in_ok-ban.ensures.goes_on

pub returns-in_err-ban : goal.returns-in_err-ban
returns-in_err-ban g c = record {
  goes_on = goes_err c.from_residual.ensures.1 c.loop-other.invariant c.in_err-ban.ensures.goes_on;
  covers = never_if _ _ _ c.from_residual.ensures.1;
}

pub returns-in-Some : goal.returns-in-Some
returns-in-Some g c = record {
  goes_on = goes_ok (gone_more c.loop-other.invariant c.in_ok-ban.ensures.goes_on);
  covers = rw c.in-Some.is at c.in_ok-ban.ensures.covers;
}

pub returns : goal.returns
returns g c = record { goes_on = goes_ok c.loop-other.invariant; covers = tt }
