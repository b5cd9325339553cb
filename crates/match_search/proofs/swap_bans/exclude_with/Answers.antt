use Rattle.std.proofs.lemmas.List.Elements.{All-contains, Contains-get_or}
use Rattle.account_core.specs.Ports.{IsKnown}
use Rattle.match_search.proofs.StepLemmas.{goes_err, goes_ok, gone_more, gone_none, may_ask_on, never_if}
use Rattle.match_search.proofs.swap_bans.exclude_with.Goals as goal

pub returns-then-eq : goal.returns-then-eq
returns-then-eq g c = record { goes_on = goes_ok (gone_none c.requires.may); covers = tt }

pub loop-third-init : goal.loop-third-init
loop-third-init g c = gone_none c.requires.may

pub exclude_three-requires : goal.exclude_three-requires
exclude_three-requires g c =
    let known = All-contains (IsKnown c.args.graphs.now) c.args.assigned.now in
    record {
      may = may_ask_on c.requires.may c.loop-third.invariant;
      one_known = known c.args.latest c.requires.known c.requires.latest;
      other_known = known c.args.other c.requires.known c.requires.other;
      third_known = c.requires.known c.loop-third.third-index _ c.loop-third-test.true;
    }

pub loop-third-preserved : goal.loop-third-preserved
loop-third-preserved g c = gone_more c.loop-third.invariant c.in_ok-ban.ensures.goes_on

pub returns-in_err-ban : goal.returns-in_err-ban
returns-in_err-ban g c = record {
  goes_on = goes_err c.from_residual.ensures.1 c.loop-third.invariant c.in_err-ban.ensures.goes_on;
  covers = never_if _ _ _ c.from_residual.ensures.1;
}

pub returns-in-Some : goal.returns-in-Some
returns-in-Some g c = record {
  goes_on = goes_ok (gone_more c.loop-third.invariant c.in_ok-ban.ensures.goes_on);
  covers = rw c.in-Some.is at (c.in_ok-ban.ensures.covers c.args.assigned.now c.requires.latest c.requires.other (Contains-get_or c.args.assigned.now c.loop-third.third-index _ c.loop-third-test.true));
}

pub returns : goal.returns
returns g c = record { goes_on = goes_ok c.loop-third.invariant; covers = tt }
