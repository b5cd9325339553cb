use Rattle.std.proofs.Common.{List, map, refl, subst, sym}
use Rattle.account_core.specs.Given.{decided_by}
use Rattle.account_core.specs.declared.fact.Fact.{Fact}
use Rattle.pair_search.specs.Grounded.{AreGrounded}
use Rattle.fact_bans.proofs.MakingLemmas.{adds_none, makes_fail, makes_ok, makes_stop}
use Rattle.fact_bans.proofs.ServeLemmas.{served_one}
use Rattle.class_refine.proofs.TrailLemmas.{assigned_refined, shown_adds, shown_grows, shown_refined}
use Rattle.class_refine.proofs.refining.refine.Goals as goal

pub returns-in_err-rows-clause-makes : goal.returns-in_err-rows-clause-makes
returns-in_err-rows-clause-makes g c =
    makes_fail _ _ _ _ _ _ _ c.in_err-rows.field-0.0 c.from_residual.ensures.1 c.requires.may c.in_err-rows.ensures.serves

pub returns-in_err-rows-clause-trail : goal.returns-in_err-rows-clause-trail
returns-in_err-rows-clause-trail g c =
    shown_adds c.args.graphs.now _ _ c.args.book.now c.args.book.now c.args.domains.now c.in_err-rows.ensures.serves.grows (adds_none c.args.book.now) c.requires.trail

pub refine_by-requires-clause-shown : goal.refine_by-requires-clause-shown
refine_by-requires-clause-shown g c =
    subst (λ (l : List Fact). AreGrounded c.args.graphs.now (map decided_by l) c.args.domains.now.entries) (sym c.facts.ensures.value) (shown_grows c.args.graphs.now _ _ c.args.domains.now.entries c.in_ok-rows.ensures.serves.grows c.requires.trail.shown)

pub returns-in_err-refine_by-clause-makes : goal.returns-in_err-refine_by-clause-makes
returns-in_err-refine_by-clause-makes g c =
    makes_stop _ _ _ _ _ _ _ _ c.from_residual-in_err-refine_by.ensures.1 (assigned_refined c.args.graphs.now _ _ _ _ _ _ _ _ _ c.requires.may.valid (served_one _ _ _ _ _ c.in_ok-rows.ensures.serves) c.facts.ensures.value c.in_err-refine_by.ensures.refines)

pub returns-in_err-refine_by-clause-trail : goal.returns-in_err-refine_by-clause-trail
returns-in_err-refine_by-clause-trail g c =
    shown_refined c.args.graphs.now _ _ _ _ _ _ _ c.in_ok-rows.ensures.serves.grows c.requires.trail c.facts.ensures.value c.in_err-refine_by.ensures.refines

pub returns-clause-makes : goal.returns-clause-makes
returns-clause-makes g c =
    makes_ok _ _ _ _ _ _ _ _ _ refl (assigned_refined c.args.graphs.now _ _ _ _ _ _ _ _ _ c.requires.may.valid (served_one _ _ _ _ _ c.in_ok-rows.ensures.serves) c.facts.ensures.value c.in_ok-refine_by.ensures.refines)

pub returns-clause-trail : goal.returns-clause-trail
returns-clause-trail g c =
    shown_refined c.args.graphs.now _ _ _ _ _ _ _ c.in_ok-rows.ensures.serves.grows c.requires.trail c.facts.ensures.value c.in_ok-refine_by.ensures.refines
