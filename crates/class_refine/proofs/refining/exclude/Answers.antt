use Rattle.std.proofs.Common.{subst, sym}
use Rattle.account_core.specs.Assigned.{AreAssignable}
use Rattle.pair_search.proofs.PivotLemmas.{assigned_known}
use Rattle.class_refine.specs.Rows.{ShowNothingAt, decided}
use Rattle.class_refine.specs.Stable.{HaveNoBan, HaveNoSwapMismatch}
use Rattle.class_refine.proofs.TrailLemmas.{refines_bans, refines_then}
use Rattle.class_refine.proofs.refining.exclude.Goals as goal

pub exclude_assigned-requires-clause-assigned : goal.exclude_assigned-requires-clause-assigned
exclude_assigned-requires-clause-assigned c =
    let graphs = c.args.grounds.now.graphs.now in
    let d = c.args.domains.now in
    subst (AreAssignable graphs) (sym c.pairs.ensures.value) (assigned_known graphs d.inputs d.outputs d.entries c.requires.trail.fit c.entries-lawful.ensures.lawful)

pub returns-in_err-ban-clause-refines : goal.returns-in_err-ban-clause-refines
returns-in_err-ban-clause-refines c = refines_bans _ _ c.args.book.now c.exclude_assigned.new.book c.args.domains.now c.in_err-ban.ensures.adds

pub exclude_beside-requires-clause-may : goal.exclude_beside-requires-clause-may
exclude_beside-requires-clause-may c =
    let g = c.args.grounds.now in
    let more = c.exclude_assigned.new.book in
    record {
      are = c.requires.grounds;
      inputs_are = c.requires.inputs;
      no_facts = subst (ShowNothingAt g.graphs.now (decided g) g.inputs.now) c.pairs.ensures.value (rw c.in-None.is at c.in_ok-ban.ensures.no_facts);
      no_swap = subst (HaveNoSwapMismatch g.graphs.now (decided g)) c.pairs.ensures.value (rw c.in-None.is at c.in_ok-ban.ensures.no_swap);
      no_ban = subst (HaveNoBan more) c.pairs.ensures.value (rw c.in-None.is at c.in_ok-ban.ensures.no_ban);
      trail = (refines_bans g.graphs.now (decided g) c.args.book.now more c.args.domains.now c.in_ok-ban.ensures.adds).trail c.requires.trail;
    }

pub returns-in-Some-clause-refines : goal.returns-in-Some-clause-refines
returns-in-Some-clause-refines c = refines_bans _ _ c.args.book.now c.exclude_assigned.new.book c.args.domains.now c.in_ok-ban.ensures.adds

pub returns-in-None-clause-refines : goal.returns-in-None-clause-refines
returns-in-None-clause-refines c =
    let g = c.args.grounds.now in
    let d = c.args.domains.now in
    refines_then g.graphs.now (decided g) c.args.book.now c.exclude_assigned.new.book c.exclude_beside.new.book d d c.exclude_beside.new.domains (refines_bans g.graphs.now (decided g) c.args.book.now c.exclude_assigned.new.book d c.in_ok-ban.ensures.adds) c.exclude_beside.ensures.refines
