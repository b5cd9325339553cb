use Rattle.std.proofs.lemmas.List.Elements.{Contains-get_or}
use Rattle.pair_search.proofs.GroundedLemmas.{covers_two}
use Rattle.pair_search.proofs.mismatch.made_beside.Goals as goal

pub returns-in-Some : goal.returns-in-Some
returns-in-Some c =
    covers_two c.args.bans.now c.args.way _ c.args.pairs.now c.in-Some.number (Contains-get_or c.args.pairs.now c.loop-with.with-index _ c.loop-with-test.true) c.in-Some.ensures
