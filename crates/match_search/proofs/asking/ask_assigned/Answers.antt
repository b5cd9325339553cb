use Rattle.std.proofs.Common.{All, sym, subst}
use Rattle.std.proofs.lemmas.List.Elements.{All-contains}
use Rattle.account_core.specs.Ports.{IsKnown}
use Rattle.pair_domains.specs.Trails.{assigned_in}
use Rattle.pair_search.proofs.PivotLemmas.{assigned_known}
use Rattle.match_search.proofs.StepLemmas.{may_go_on, steps_fail, steps_ok, way_bans, way_start}
use Rattle.match_search.proofs.asking.ask_assigned.Goals as goal

pub ask_alone-requires-clause-may : goal.ask_alone-requires-clause-may
ask_alone-requires-clause-may g c = c.requires.may.may

pub ask_alone-requires-clause-known : goal.ask_alone-requires-clause-known
ask_alone-requires-clause-known g c =
    let d = c.args.domains.now in
    All-contains (IsKnown c.args.graphs.now) (assigned_in d.entries) c.args.pair (assigned_known c.args.graphs.now d.inputs d.outputs d.entries c.requires.may.trail.trail.fit c.entries-lawful.ensures.lawful).known c.requires.assigned

pub returns-in_err-ask_alone : goal.returns-in_err-ask_alone
returns-in_err-ask_alone g c = record { steps = steps_fail c.from_residual.ensures.1 (way_start c.requires.may) c.in_err-ask_alone.ensures }

pub loop-other-init : goal.loop-other-init
loop-other-init g c = way_bans (way_start c.requires.may) c.in_ok-ask_alone.ensures

pub ask_two-requires : goal.ask_two-requires
ask_two-requires g c =
    let d = c.args.domains.now in
    let known = (assigned_known c.args.graphs.now d.inputs d.outputs d.entries c.requires.may.trail.trail.fit c.entries-lawful.ensures.lawful).known in
    record {
      may = (may_go_on c.requires.may.may c.loop-other.invariant).may;
      known = All-contains (IsKnown c.args.graphs.now) (assigned_in d.entries) c.args.pair known c.requires.assigned;
      other = subst (All (IsKnown c.args.graphs.now)) (sym c.pairs-assigned.ensures.value) known c.loop-other.other-index _ c.loop-other-test.true;
    }

pub returns-in_err-ask_two : goal.returns-in_err-ask_two
returns-in_err-ask_two g c = record { steps = steps_fail c.from_residual-in_err-ask_two.ensures.1 c.loop-other.invariant c.in_err-ask_two.ensures }

pub loop-other-preserved : goal.loop-other-preserved
loop-other-preserved g c = way_bans c.loop-other.invariant c.in_ok-ask_two.ensures

pub returns : goal.returns
returns g c = record { steps = steps_ok c.loop-other.invariant }
