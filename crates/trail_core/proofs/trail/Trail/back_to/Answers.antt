-- What is kept is what has no greater level.
use Rattle.std.proofs.Common.{◌≡◌, ℕ, ◌+◌, ◌-◌, ◌*◌, ◌<◌, ◌≤◌, All, Bool, List, length, take, drop, Option, refl, sym, subst, ap, ◌∙◌, arith}
use Rattle.std.proofs.lemmas.List.{take_rest}
use Rattle.trail_core.specs.declared.assigned.Assigned.{Assigned}
use Rattle.cnf_core.specs.Clauses.{variable_of}
use Rattle.trail_core.specs.Trails.{IsCutAt, Trailing}
use Rattle.trail_core.specs.Places.{AreUnassigned, IsKept, IsUnset}
use Rattle.trail_core.proofs.CutLemmas.{cut_back, kept_cut}
use Rattle.trail_core.proofs.TrailLemmas.{kept_as}
use Rattle.trail_core.proofs.ValueLemmas.{dropped_known, values_cut}
use Rattle.trail_core.proofs.trail.Trail.back_to.Goals as goal
use Rattle.circuits.proofs.Lists.{given_back}

pub invariant_of-self : goal.invariant_of-self
invariant_of-self c =
    let old = c.self.inside in
    let kept = c.kept_at-kept.result in
    let cut = subst (λ (es : List Assigned). IsCutAt c.args.level es kept) c.deref.ensures.value c.kept_at-kept.ensures in
    let all = c.deref-2.result.now in
    let rest : take (length all - kept) (drop kept all) ≡ drop kept old.entries.items = take_rest all kept ∙ ap (drop kept) c.deref-2.ensures.value in
    let unset = subst (λ (ps : List (Option ℕ)). IsUnset ps c.unset.new.places (drop kept old.entries.items) (length (drop kept old.entries.items))) c.deref_mut.ensures.value (subst (λ (ds : List Assigned). IsUnset c.deref_mut.result.now c.unset.new.places ds (length ds)) rest c.unset.ensures) in
    let low = subst (λ (t : Trailing). c.args.level ≤ t.level) (sym c.self.view_is) c.requires in
    let back = given_back old.places.len old.places.items c.deref_mut.result.now c.unset.new.places c.deref_mut.ensures.value c.unset.ensures.same_length (omega (arith, old.places.ok.0)) in
    let others = c.deref-3.result.now in
    let rest_others : take (length others - kept) (drop kept others) ≡ drop kept old.entries.items = take_rest others kept ∙ ap (drop kept) c.deref-3.ensures.value in
    let unassigned = subst (λ (vs : List (Option Bool)). AreUnassigned vs c.unassign_all.new.values (drop kept old.entries.items) (length (drop kept old.entries.items))) c.deref_mut-2.ensures.value (subst (λ (ds : List Assigned). AreUnassigned c.deref_mut-2.result.now c.unassign_all.new.values ds (length ds)) rest_others c.unassign_all.ensures) in
    let values_back = given_back old.values.len old.values.items c.deref_mut-2.result.now c.unassign_all.new.values c.deref_mut-2.ensures.value c.unassign_all.ensures.same_length (omega (arith, old.values.ok.0)) in
    let valued = values_cut old.entries old.places.items old.values.items c.unassign_all.new.values old.level old.walked kept c.self.invariant cut.within unassigned in
    let after = kept_cut old.entries c.truncate.new.self old.places.items c.unset.new.places old.values.items c.unassign_all.new.values old.level old.walked c.args.level kept c.self.invariant low cut unset c.truncate.ensures.items c.truncate.ensures.capacity valued in
    kept_as back values_back (subst (λ w. IsKept c.truncate.new.self c.unset.new.places c.unassign_all.new.values c.args.level w) (sym c.min-self-inside.ensures) after)

pub unassign_all-requires : goal.unassign_all-requires
unassign_all-requires c =
    let old = c.self.inside in
    let kept = c.kept_at-kept.result in
    let others = c.deref-3.result.now in
    let rest : take (length others - kept) (drop kept others) ≡ drop kept old.entries.items = take_rest others kept ∙ ap (drop kept) c.deref-3.ensures.value in
    let trail : Trailing = record { variables = length old.places.items; entries = old.entries.items; level = old.level; walked = old.walked } in
    let size = length c.deref_mut-2.result.now in
    subst (All (λ (e : Assigned). 2 * variable_of e.literal + 1 < size)) (sym rest) (dropped_known trail c.self.invariant.trail kept size (ap length c.deref_mut-2.ensures.value ∙ c.self.invariant.valued.size))

pub returns : goal.returns
returns c =
    let old = c.self.inside in
    let kept = c.kept_at-kept.result in
    let cut = subst (λ (es : List Assigned). IsCutAt c.args.level es kept) c.deref.ensures.value c.kept_at-kept.ensures in
    let places = given_back old.places.len old.places.items c.deref_mut.result.now c.unset.new.places c.deref_mut.ensures.value c.unset.ensures.same_length (omega (arith, old.places.ok.0)) in
    let variables = ap length places ∙ (c.unset.ensures.same_length ∙ ap length c.deref_mut.ensures.value) in
    let trail : Trailing = record { variables = length old.places.items; entries = old.entries.items; level = old.level; walked = old.walked } in
    cut_back trail c.args.self.now _ c.self.invariant.trail c.self.view_is c.args.level kept cut variables c.truncate.ensures.items refl c.min-self-inside.ensures
