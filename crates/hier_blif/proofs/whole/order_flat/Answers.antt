use Rattle.std.proofs.Common.{Err, ap, sym, subst}
use Rattle.hier_blif.specs.Stops.{IsStopBy}
use Rattle.hier_blif.specs.Hierarchies.{IsHierFault}
use Rattle.hier_blif.proofs.WholeLemmas.{graph_of, place_there, cycle_of, gates_of}
use Rattle.hier_blif.proofs.whole.order_flat.Goals as goal

pub returns-in-Ok-clause-graph : goal.returns-in-Ok-clause-graph
returns-in-Ok-clause-graph c =
    graph_of c.args.input.now c.args.flat c.in-Ok.graph c.requires.file c.in-Ok.ensures.acyclic c.in-Ok.ensures.graph c.in-Ok.ensures.computes c.in-Ok.ensures.few

pub index-requires : goal.index-requires
index-requires c =
    place_there c.args.input.now c.args.flat c.in-Err-Cycle.definition c.requires.file (c.in-Err-Cycle.ensures.cycle c.in-Err-Cycle.definition (ap Err c.in-Err-Cycle.field-0-is))

pub returns-in-Err-Cycle-clause-stop : goal.returns-in-Err-Cycle-clause-stop
returns-in-Err-Cycle-clause-stop c =
    let looped = c.in-Err-Cycle.ensures.cycle c.in-Err-Cycle.definition (ap Err c.in-Err-Cycle.field-0-is) in
    subst (IsStopBy (IsHierFault c.args.input.now)) (sym c.fault_at.ensures) (cycle_of c.args.input.now c.args.flat c.in-Err-Cycle.definition c.index.result.now c.requires.file looped c.index.ensures)

pub returns-in-Err-TooManyGates-clause-stop : goal.returns-in-Err-TooManyGates-clause-stop
returns-in-Err-TooManyGates-clause-stop c =
    let many = c.in-Err-TooManyGates.ensures.too_many (ap Err c.in-Err-TooManyGates.field-0-is) in
    subst (IsStopBy (IsHierFault c.args.input.now)) (sym c.fault_at-in-Err-TooManyGates.ensures) (gates_of c.args.input.now c.args.flat c.requires.file many.0 many.1)
