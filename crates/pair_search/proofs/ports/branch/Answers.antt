use Rattle.std.proofs.Common.{refl, subst}
use Rattle.pair_domains.specs.declared.entry.Entry.{Entry}
use Rattle.pair_domains.specs.declared.entry.Fate.TheVariants.{Assigned, Deleted}
use Rattle.pair_domains.specs.declared.entry.Cause.TheVariants.{Choice}
use Rattle.pair_domains.specs.declared.entry.Reason.TheVariants as reason
use Rattle.pair_domains.specs.Trails.{IsDeleted}
use Rattle.pair_search.proofs.PortLemmas.{open_of_free}
use Rattle.pair_search.proofs.StepLemmas.{clash_of, less_chosen, less_one, one_more_of, stays_none, stays_one}
use Rattle.pair_search.proofs.ports.branch.Goals as goal

pub assign-requires-clause-open : goal.assign-requires-clause-open
assign-requires-clause-open c =
    let es = c.args.domains.now.entries in
    let port = c.args.port in
    open_of_free es port.side port.kind port.number c.way_of-way.result c.requires.free c.way_of-way.ensures.kind c.way_of-way.ensures.port (λ gone. c.in-Some.ensures.is (subst (IsDeleted es) c.way_of-way.ensures.value gone))

pub delete-requires-clause-open : goal.delete-requires-clause-open
delete-requires-clause-open c =
    let es = c.args.domains.now.entries in
    let port = c.args.port in
    open_of_free es port.side port.kind port.number c.way_of-way.result c.requires.free c.way_of-way.ensures.kind c.way_of-way.ensures.port (λ gone. c.in-Some.ensures.is (subst (IsDeleted es) c.way_of-way.ensures.value gone))

pub returns-in_ok-assign-in-None-clause-less : goal.returns-in_ok-assign-in-None-clause-less
returns-in_ok-assign-in-None-clause-less c =
    let d = c.args.domains.now in
    let port = c.args.port in
    let way = c.way_of-way.result in
    let e : Entry = record { pair = way; fate = Assigned Choice } in
    let is = open_of_free d.entries port.side port.kind port.number way c.requires.free c.way_of-way.ensures.kind c.way_of-way.ensures.port (λ gone. c.in-Some.ensures.is (subst (IsDeleted d.entries) c.way_of-way.ensures.value gone)) in
    less_chosen d c.assign.new.self e (one_more_of d c.assign.new.self e c.in_ok-assign-in-None.ensures.assigned) c.entries-lawful.ensures.lawful c.way_of-way.ensures.known is refl

pub returns-in_ok-delete-in-Some-assigned_beside-clause-less : goal.returns-in_ok-delete-in-Some-assigned_beside-clause-less
returns-in_ok-delete-in-Some-assigned_beside-clause-less c =
    let d = c.args.domains.now in
    let port = c.args.port in
    let way = c.way_of-way.result in
    let e : Entry = record { pair = way; fate = Deleted (reason.Clash c.in-Some-assigned_beside.assigned) } in
    let is = open_of_free d.entries port.side port.kind port.number way c.requires.free c.way_of-way.ensures.kind c.way_of-way.ensures.port (λ gone. c.in-Some.ensures.is (subst (IsDeleted d.entries) c.way_of-way.ensures.value gone)) in
    less_one d c.delete.new.self e (one_more_of d c.delete.new.self e c.in_ok-delete-in-Some-assigned_beside.ensures.deleted) c.entries-lawful.ensures.lawful c.way_of-way.ensures.known is refl

pub returns-in_default-clause-stays : goal.returns-in_default-clause-stays
returns-in_default-clause-stays c = λ bans justified. stays_none bans c.args.domains.now justified

pub returns-in_ok-assign-in-None-clause-stays : goal.returns-in_ok-assign-in-None-clause-stays
returns-in_ok-assign-in-None-clause-stays c = λ bans justified.
    let d = c.args.domains.now in
    let e : Entry = record { pair = c.way_of-way.result; fate = Assigned Choice } in
    stays_one bans d c.assign.new.self e (one_more_of d c.assign.new.self e c.in_ok-assign-in-None.ensures.assigned) justified tt (λ graphs facts. tt)

pub returns-in_ok-delete-in-Some-assigned_beside-clause-stays : goal.returns-in_ok-delete-in-Some-assigned_beside-clause-stays
returns-in_ok-delete-in-Some-assigned_beside-clause-stays c = λ bans justified.
    let d = c.args.domains.now in
    let port = c.args.port in
    let way = c.way_of-way.result in
    let assigned = c.in-Some-assigned_beside.assigned in
    let e : Entry = record { pair = way; fate = Deleted (reason.Clash assigned) } in
    let is = open_of_free d.entries port.side port.kind port.number way c.requires.free c.way_of-way.ensures.kind c.way_of-way.ensures.port (λ gone. c.in-Some.ensures.is (subst (IsDeleted d.entries) c.way_of-way.ensures.value gone)) in
    stays_one bans d c.delete.new.self e (one_more_of d c.delete.new.self e c.in_ok-delete-in-Some-assigned_beside.ensures.deleted) justified (c.in-Some-assigned_beside.ensures.assigned, clash_of d.entries assigned way c.in-Some-assigned_beside.ensures.assigned is c.in-Some-assigned_beside.ensures.kind c.in-Some-assigned_beside.ensures.share) (λ graphs facts. tt)
