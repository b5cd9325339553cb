-- One record more, and then all.
use Rattle.account_trim.proofs.LinkLemmas.{all_linked, all_placed, one_linked, one_placed}
use Rattle.account_trim.proofs.links.link_all.Goals as goal

pub loop-place-preserved : goal.loop-place-preserved
loop-place-preserved c = (
  one_linked c.args.graphs.now c.args.records.now c.loop-place.place c.loop-place.links c.add.new.links c.loop-place.places c.add.new.places c.index-records-place.result c.loop-place-test.true c.index-records-place.is c.in_ok-add.ensures.links c.in_ok-add.ensures.places c.loop-place.invariant.0,
  one_placed c.args.graphs.now c.args.records.now c.loop-place.place c.loop-place.places c.add.new.places c.index-records-place.result c.loop-place-test.true c.index-records-place.is c.in_ok-add.ensures.places c.loop-place.invariant.1,
)

pub returns-clause-links : goal.returns-clause-links
returns-clause-links c = all_linked c.args.graphs.now c.args.records.now c.loop-place.place c.loop-place.links c.loop-place.places c.loop-place-test.false c.loop-place.invariant.0

pub returns-clause-places : goal.returns-clause-places
returns-clause-places c = all_placed c.args.graphs.now c.args.records.now c.loop-place.place c.loop-place.places c.loop-place-test.false c.loop-place.invariant.1
