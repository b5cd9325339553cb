-- What keeps watches fitting a trail.
use Rattle.std.proofs.Common.{◌≡◌, ℕ, ◌+◌, ◌/◌, ◌<◌, ◌≤◌, [], ◌∷◌, ◌++◌, length, None, Some, sym, ◌∙◌, ap, subst, arith}
use Rattle.std.proofs.lemmas.List.{get_or_append_left}
use Rattle.cnf_core.specs.declared.literal.SatLit.{SatLit}
use Rattle.trail_core.specs.declared.assigned.Assigned.{Assigned}
use Rattle.trail_core.specs.Trails.{IsBack, Trailing, nothing, with_assigned, with_decision}
use Rattle.trail_core.proofs.BackLemmas.{front_at, front_within, kept_at, low_at}
use Rattle.watch_lists.specs.Lists.{literal_at, partner}
use Rattle.watch_lists.specs.Watched.{AreUnattached, Fits, IsTrueBy, Watching}
use Rattle.watch_lists.proofs.FitLemmas.{true_by_further}
use Rattle.watch_lists.proofs.ListLemmas.{attached_half}

-- watches of which none is of an attached clause fit each trail
pub fits_unattached : (watching : Watching) (trail : Trailing) → AreUnattached watching → trail.variables ≡ watching.variables → Fits watching trail
fits_unattached watching trail unattached variables = record {
  variables = variables;
  watched = λ s within attached. absurd (unattached (s / 2) (omega arith) (attached_half watching.watches s attached));
}

-- one literal more changes nothing before it
fits_pushed : (watching : Watching) (trail : Trailing) (e : Assigned) (level : ℕ) → Fits watching trail → trail.walked ≤ length trail.entries → Fits watching (record trail { entries = trail.entries ++ e ∷ []; level = level })
fits_pushed watching trail e level fits few = record {
  variables = fits.variables;
  watched = λ s within attached j early inside at.
      let before : j < length trail.entries = omega (arith, early, few) in
      let same = get_or_append_left trail.entries (e ∷ []) nothing j before in
      let true_by = fits.watched s within attached j early before (sym (ap (λ (x : Assigned). x.literal.0) same) ∙ at) in
      let other = literal_at watching.watches (partner s) in
      subst (IsTrueBy (trail.entries ++ e ∷ []) other) (sym (ap (λ (x : Assigned). x.level) same)) (true_by_further trail.entries (e ∷ []) other _ true_by);
}

pub fits_decided : (watching : Watching) (trail : Trailing) (l : SatLit) → Fits watching trail → trail.walked ≤ length trail.entries → Fits watching (with_decision trail l)
fits_decided watching trail l fits few =
    fits_pushed watching trail (record { literal = l; level = trail.level + 1; reason = None }) (trail.level + 1) fits few

pub fits_assigned : (watching : Watching) (trail : Trailing) (l : SatLit) (id : ℕ) → Fits watching trail → trail.walked ≤ length trail.entries → Fits watching (with_assigned trail l id)
fits_assigned watching trail l id fits few =
    fits_pushed watching trail (record { literal = l; level = trail.level; reason = Some id }) trail.level fits few

-- where a literal stays after going back, one that is true at a level that isn't greater does too
pub fits_back : (watching : Watching) (old back : Trailing) (level : ℕ) → Fits watching old → IsBack old back level → Fits watching back
fits_back watching old back level fits is = record {
  variables = is.variables ∙ fits.variables;
  watched = λ s within attached j early inside at.
      let same = front_at old back level is j inside in
      let true_by = fits.watched s within attached j (omega (arith, early, is.walked)) (front_within old back level is j inside) (sym (ap (λ (e : Assigned). e.literal.0) same) ∙ at) in
      let low = low_at old back level is j inside in
      let still = kept_at old back level is true_by.at true_by.within (omega (arith, true_by.low, low, ap (λ (e : Assigned). e.level) same)) in
      record {
        at = still.0;
        within = still.1;
        is = ap (λ (e : Assigned). e.literal.0) still.2 ∙ true_by.is;
        low = omega (arith, true_by.low, ap (λ (e : Assigned). e.level) still.2, ap (λ (e : Assigned). e.level) same);
      };
}
