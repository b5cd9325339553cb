use Rattle.match_search.proofs.AskLemmas.{known_of}
use Rattle.match_search.proofs.StepLemmas.{goes_err, goes_ok, gone_more, gone_none, may_ask_on}
use Rattle.match_search.proofs.asking.ask_output.Goals as goal

pub loop-number-init : goal.loop-number-init
loop-number-init g c = gone_none c.requires.may

pub ask_alone-requires-clause-may : goal.ask_alone-requires-clause-may
ask_alone-requires-clause-may g c = may_ask_on c.requires.may c.loop-number.invariant

pub loop-number-preserved : goal.loop-number-preserved
loop-number-preserved g c = gone_more c.loop-number.invariant c.in_ok-ask_alone.ensures

pub returns-in_err-ask_alone : goal.returns-in_err-ask_alone
returns-in_err-ask_alone g c =
    goes_err c.from_residual.ensures.1 c.loop-number.invariant c.in_err-ask_alone.ensures

pub returns : goal.returns
returns g c = goes_ok c.loop-number.invariant

pub ask_alone-requires-clause-known : goal.ask_alone-requires-clause-known
ask_alone-requires-clause-known g c =
    let d = c.args.domains.now in
    known_of c.args.graphs.now d.inputs d.outputs c.way_of-way.result c.requires.fit c.way_of-way.ensures.known
