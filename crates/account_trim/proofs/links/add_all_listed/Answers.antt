-- One number more, and then all.
use Rattle.account_trim.specs.Links.{listed}
use Rattle.account_trim.proofs.ListLemmas.{flat_all, flat_next, flat_none}
use Rattle.account_trim.proofs.links.add_all_listed.Goals as goal

pub loop-number-init : goal.loop-number-init
loop-number-init c = flat_none (listed c.args.place c.args.places.now) c.args.names.now

pub loop-number-preserved : goal.loop-number-preserved
loop-number-preserved c = flat_next (listed c.args.place c.args.places.now) c.args.numbers.now c.args.names.now c.loop-number.number-index 0 c.loop-number.names c.add_listed.new.names c.loop-number-test.true c.loop-number.invariant c.in_ok-add_listed.ensures

pub returns : goal.returns
returns c = flat_all (listed c.args.place c.args.places.now) c.args.numbers.now c.args.names.now c.loop-number.number-index c.loop-number.names c.loop-number-test.false c.loop-number.invariant
