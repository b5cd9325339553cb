use Rattle.pair_search.proofs.PivotLemmas.{front_of, assigned_not_open, placed_assigned}
use Rattle.pair_search.proofs.resolution.entry_of.Goals as goal

pub unreachable-requires : goal.unreachable-requires
unreachable-requires c =
    assigned_not_open c.args.domains.now.entries c.assigned_at.result c.assigned_at.ensures.assigned c.in-None.ensures.none

pub returns-clause-assigned : goal.returns-clause-assigned
returns-clause-assigned c =
    λ d. placed_assigned c.args.domains.now.entries c.assigned_at.result c.in-Some.place d c.entries-lawful.ensures.lawful.distinct c.assigned_at.ensures.assigned c.in-Some.ensures.found

pub returns-clause-front : goal.returns-clause-front
returns-clause-front c =
    let d = c.args.domains.now in
    front_of d.inputs d.outputs d.entries c.in-Some.place c.args.index c.assigned_at.result c.entries-lawful.ensures.lawful c.in-Some.ensures.found c.assigned_at.ensures.assigned c.requires c.assigned_at.ensures.value
