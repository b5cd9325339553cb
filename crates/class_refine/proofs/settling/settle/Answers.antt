use Rattle.pair_domains.specs.Trails.{assigned_in}
use Rattle.pair_search.proofs.PivotLemmas.{assigned_known}
use Rattle.class_refine.specs.Rows.{decided}
use Rattle.class_refine.proofs.NothingLemmas.{nothing_beside}
use Rattle.class_refine.proofs.SettleLemmas.{entry_settled, settles_now}
use Rattle.class_refine.proofs.settling.settle.Goals as goal

pub returns-in-Some : goal.returns-in-Some
returns-in-Some c =
    let g = c.args.grounds.now in
    let d = c.args.domains.now in
    let may = c.requires.may in
    let assigned = assigned_known g.graphs.now d.inputs d.outputs d.entries may.trail.fit c.entries-lawful.ensures.lawful in
    settles_now g c.args.book.now d c.args.way may.no_ban (entry_settled g c.args.book.now d c.args.way _ assigned.apart may.no_ban may.no_swap (λ there. nothing_beside g.graphs.now (decided g) (assigned_in d.entries) g.inputs.now assigned may.inputs_are may.no_facts c.args.way there) c.in-Some.ensures.found)
