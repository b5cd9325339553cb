use Rattle.std.proofs.Common.{List, refl, sym, subst}
use Rattle.circuits.specs.declared.port.Pair.{Pair}
use Rattle.ban_book.specs.Covering.{Covers}
use Rattle.account_core.specs.Assigned.{AreAssignable}
use Rattle.pair_search.proofs.PivotLemmas.{assigned_known}
use Rattle.match_search.proofs.StepLemmas.{goes_by, steps_fail, steps_ok, way_bans, way_start}
use Rattle.match_search.proofs.following.try_assigned.Goals as goal

pub foresee-requires : goal.foresee-requires
foresee-requires g c =
    let d = c.args.domains.now in
    record {
      may = c.requires.may.may;
      assigned = subst (AreAssignable c.args.graphs.now) (sym c.pairs.ensures.value) (assigned_known c.args.graphs.now d.inputs d.outputs d.entries c.requires.may.trail.trail.fit c.entries-lawful.ensures.lawful);
      trials = c.requires.may.trials;
    }

pub returns-in_err-ban-clause-steps : goal.returns-in_err-ban-clause-steps
returns-in_err-ban-clause-steps g c = steps_fail c.from_residual.ensures.1 (way_start c.requires.may) (goes_by c.in_err-ban.ensures.same c.in_err-ban.ensures.makes refl)

pub returns-in-Some : goal.returns-in-Some
returns-in-Some g c = record {
  steps = steps_ok (way_bans (way_start c.requires.may) (goes_by c.in_ok-ban.ensures.same c.in_ok-ban.ensures.makes refl));
  conflict = subst (λ (assigned : List Pair). Covers c.foresee.new.book assigned c.in-Some.ban) c.pairs.ensures.value (rw c.in-Some.is at c.in_ok-ban.ensures.covers);
}

pub returns-in-None-clause-steps : goal.returns-in-None-clause-steps
returns-in-None-clause-steps g c = steps_ok (way_bans (way_start c.requires.may) (goes_by c.in_ok-ban.ensures.same c.in_ok-ban.ensures.makes refl))
