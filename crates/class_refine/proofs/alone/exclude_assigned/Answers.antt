use Rattle.std.proofs.Common.{◌≡◌, ◌++◌, List, subst, sym}
use Rattle.account_core.specs.declared.step.Ban.{Ban}
use Rattle.ban_book.proofs.BookLemmas.{covers_last}
use Rattle.class_refine.specs.Rows.{decided}
use Rattle.class_refine.specs.Refining.{AddsShown}
use Rattle.class_refine.proofs.InputLemmas.{both_among, inputs_known}
use Rattle.class_refine.proofs.NothingLemmas.{shown_more}
use Rattle.class_refine.specs.Stable.{HaveNoBan}
use Rattle.class_refine.proofs.ResultLemmas.{none_so}
use Rattle.class_refine.proofs.TrailLemmas.{shown_none, shown_one}
use Rattle.class_refine.proofs.alone.exclude_assigned.Goals as goal

pub ban_of_assigned-requires-clause-inputs : goal.ban_of_assigned-requires-clause-inputs
ban_of_assigned-requires-clause-inputs c = inputs_known _ _ _ c.requires.assigned c.requires.inputs

pub returns-in_err-hold-in-Some-2-clause-adds : goal.returns-in_err-hold-in-Some-2-clause-adds
returns-in_err-hold-in-Some-2-clause-adds c =
    let g = c.args.grounds.now in
    subst (λ (l : List Ban). AddsShown g.graphs.now (decided g) c.args.book.now l) (sym c.in_err-hold-in-Some-2.ensures.refused) (shown_none g.graphs.now (decided g) c.args.book.now)

pub returns-in_ok-hold-in-Some-2-clause-adds : goal.returns-in_ok-hold-in-Some-2-clause-adds
returns-in_ok-hold-in-Some-2-clause-adds c =
    let g = c.args.grounds.now in
    shown_one g.graphs.now (decided g) _ c.args.book.now c.hold.new.self c.in-Some-2.ban c.in_ok-hold-in-Some-2.ensures.added (rw c.in-Some-2.is at c.in_ok-ban.ensures.shown)

pub returns-in_ok-hold-in-Some-2-clause-found : goal.returns-in_ok-hold-in-Some-2-clause-found
returns-in_ok-hold-in-Some-2-clause-found c =
    let g = c.args.grounds.now in
    let assigned = c.args.assigned.now in
    let fewer = shown_more g.graphs.now (decided g) (g.inputs.now ++ assigned) assigned c.in-Some-2.ban (both_among assigned g.inputs.now c.requires.inputs) (rw c.in-Some-2.is at c.in_ok-ban.ensures.shown) in
    covers_last c.args.book.now c.hold.new.self c.in-Some-2.ban assigned _ c.in_ok-hold-in-Some-2.ensures.added c.in_ok-hold-in-Some-2.ensures.number fewer.within

pub returns-in-None-clause-no_ban : goal.returns-in-None-clause-no_ban
returns-in-None-clause-no_ban c =
    let assigned = c.args.assigned.now in
    none_so c.exclude_by_swaps.result (c.exclude_by_swaps.new.book ≡ c.args.book.now) (HaveNoBan c.exclude_by_swaps.new.book assigned) (λ same. subst (λ (l : List Ban). HaveNoBan l assigned) (sym same) c.in_default.ensures.none) c.exclude_by_swaps.ensures.same
