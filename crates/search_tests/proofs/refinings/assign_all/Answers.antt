use Rattle.search_tests.proofs.refinings.assign_all.Goals as goal

pub assign-requires-clause-trail : goal.assign-requires-clause-trail
assign-requires-clause-trail c = c.loop-pair.invariant.0

pub assign-requires-clause-shown : goal.assign-requires-clause-shown
assign-requires-clause-shown c = c.loop-pair.invariant.1
