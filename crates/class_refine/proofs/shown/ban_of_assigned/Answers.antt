use Rattle.std.proofs.Common.{◌≡◌, ◌∷◌, ◌++◌, [], arith, subst}
use Rattle.std.proofs.lemmas.List.{take_all}
use Rattle.std.proofs.lemmas.List.Elements.{All-more, Contains-get_or}
use Rattle.circuits.specs.declared.port.Pair.{Pair}
use Rattle.circuits.specs.declared.port.PortKind.TheVariants.{Output}
use Rattle.ban_book.specs.Vectors.{HaveNoFacts}
use Rattle.class_refine.specs.Rows.{ShowNothingAt, decided}
use Rattle.class_refine.proofs.InputLemmas.{with_among}
use Rattle.class_refine.proofs.NothingLemmas.{shown_more}
use Rattle.class_refine.proofs.shown.ban_of_assigned.Goals as goal

pub returns-in-Some-clause-shown : goal.returns-in-Some-clause-shown
returns-in-Some-clause-shown c =
    let g = c.args.grounds.now in
    shown_more g.graphs.now (decided g) _ (c.args.inputs.now ++ c.args.assigned.now) c.in-Some.ban (with_among c.args.inputs.now c.args.assigned.now _ (Contains-get_or c.args.assigned.now c.loop-pair.pair-index _ c.loop-pair-test.true)) (rw c.in-Some.is at c.in_ok-ban.ensures.shown)

pub loop-pair-preserved : goal.loop-pair-preserved
loop-pair-preserved c =
    let g = c.args.grounds.now in
    All-more (λ (p : Pair). p.kind ≡ Output → HaveNoFacts g.graphs.now (decided g) (c.args.inputs.now ++ p ∷ [])) c.args.assigned.now c.loop-pair.pair-index _ c.loop-pair-test.true c.loop-pair.invariant (rw c.in_default.is at c.in_ok-ban.ensures.none)

pub returns-clause-none : goal.returns-clause-none
returns-clause-none c =
    let g = c.args.grounds.now in
    subst (ShowNothingAt g.graphs.now (decided g) c.args.inputs.now) (take_all c.loop-pair.pair-index c.args.assigned.now (omega (arith, c.loop-pair-test.false))) c.loop-pair.invariant
