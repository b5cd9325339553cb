use Rattle.std.proofs.Common.{arith}
use Rattle.match_search.proofs.StepLemmas.{may_go_on, steps_err, steps_ok, way_more, way_start}
use Rattle.match_search.proofs.unlike.delete_unlike.Goals as goal

pub loop-way-init : goal.loop-way-init
loop-way-init g c = record {
  way = way_start c.requires.may;
  deletes = record { assigned = c.requires.assigned; less = omega arith };
}

pub delete_way-requires : goal.delete_way-requires
delete_way-requires g c = record {
  may = may_go_on c.requires.may.may c.loop-way.invariant.way;
  assigned = c.loop-way.invariant.deletes.assigned;
}

pub returns-in_err-delete_way-clause-steps : goal.returns-in_err-delete_way-clause-steps
returns-in_err-delete_way-clause-steps g c = steps_err c.from_residual.ensures.1 c.loop-way.invariant.way c.in_err-delete_way.ensures.steps

pub loop-way-preserved : goal.loop-way-preserved
loop-way-preserved g c = record {
  way = way_more c.loop-way.invariant.way c.in_ok-delete_way.ensures.steps;
  deletes = record {
    assigned = c.in_ok-delete_way.ensures.deletes.assigned;
    less = omega (arith, c.loop-way.invariant.deletes.less, c.in_ok-delete_way.ensures.deletes.less);
  };
}

pub returns : goal.returns
returns g c = record { steps = steps_ok c.loop-way.invariant.way; deletes = c.loop-way.invariant.deletes }
