-- A learned clause is minimized: from its last literal down, a marked one gives way to the other literals of its reason.
use Rattle.std.proofs.Common.{◌≡◌, ◌≢◌, ℕ, ◌+◌, ◌<◌, ◌≤◌, ◌==◌, ◌&&◌, Bool, false, List, [], ◌∷◌, ◌++◌, length, slice_index_or, slice_set, take, inl, inr, sym, ◌∙◌, ap, arith}
use Rattle.std.proofs.lemmas.Bool.{and_right, ne_eqb}
use Rattle.std.proofs.lemmas.Bool.Decides.{leb_tells}
use Rattle.std.proofs.lemmas.List.{get_or-set_same, get_or-set_other, get_or-take, length-set, length-take}
use Rattle.circuits.specs.Literals.{bit}
use Rattle.cnf_core.specs.declared.literal.SatLit.{SatLit}
use Rattle.cnf_core.specs.Clauses.{clause_at, opposite, variable_of}
use Rattle.trail_core.specs.Trails.{IsTrail, Trailing, entry_at, nothing}
use Rattle.learn_solver.specs.declared.conflict.Analysis.{Analysis}
use Rattle.watch_lists.specs.Propagations.{IsReason, before}
use Rattle.learn_solver.specs.Analyses.{AreMarked, AreOnTrail, IsAnalysed, IsReduced, IsReducing, StayFrom, StayMarked, here_in, is_marked, kept_here}
use Rattle.learn_solver.proofs.DeriveLemmas.{IsAway, derive_away}
use Rattle.learn_solver.proofs.MarkLemmas.{apart, same_count}
use Rattle.learn_solver.proofs.PlaceLemmas.{ascend, is_counted, stands, variable_of-opposite}
use Rattle.cnf_core.proofs.LiteralLemmas.{no_literal}

-- at the analysis' end nothing is minimized yet
pub reduced_start : (clauses : List (List SatLit)) (t : Trailing) (marked : List Bool) (below here : ℕ) (steps : List ℕ) → IsAnalysed clauses t marked below here steps → here ≤ kept_here t.level → IsReduced clauses t marked below here steps below
reduced_start clauses t marked below here steps is few = record {
  size = is.size;
  within = is.within;
  low = omega arith;
  count = is.count;
  present = is.present;
  few = few;
  derives = is.derives;
}

-- marking a reason's variables and taking the mark of its literal away does that
pub away_from : (t : Trailing) → IsTrail t → (old marked : List Bool) (q v low : ℕ) (clause : List SatLit) → q < length t.entries → v ≡ variable_of (entry_at t.entries q).literal → v < length marked → length marked ≡ length old → StayMarked old marked → AreMarked marked clause → StayFrom t.entries (q + 1) old marked → IsAway t old (slice_set marked v false) q low clause
away_from t trail old marked q v low clause within at known size stay are_marked later = record {
  size = length-set marked v false ∙ size;
  gone = λ _. ap (bit (slice_set marked v false)) (sym at) ∙ get_or-set_same marked v false false known;
  stay = λ k other inside was. get_or-set_other marked v (variable_of (entry_at t.entries k).literal) false false (elsewhere k other inside) ∙ stay (variable_of (entry_at t.entries k).literal) was;
  later = λ k late _ inside. get_or-set_other marked v (variable_of (entry_at t.entries k).literal) false false (elsewhere k (λ same. omega (arith, same, late)) inside) ∙ later k (omega (arith, late)) inside;
  others = λ k inside falsity.
      let l = slice_index_or clause k no_literal in
      let s = stands t.entries q (opposite l) falsity in
      let there : variable_of (entry_at t.entries s.at).literal ≡ variable_of l = ap variable_of s.is ∙ variable_of-opposite l in
      let other : variable_of l ≢ v = λ same. elsewhere s.at (λ e. omega (arith, e, s.early)) s.within (there ∙ same) in
      get_or-set_other marked v (variable_of l) false false other ∙ are_marked k no_literal inside;
}
  where
    elsewhere : (k : ℕ) → k ≢ q → k < length t.entries → variable_of (entry_at t.entries k).literal ≢ v
    elsewhere k other inside same = apart t trail k q inside within other (same ∙ at)

-- marks of lower levels alone don't change how many are of the present one
away_here : (t : Trailing) → IsTrail t → (old new : List Bool) (q top : ℕ) (clause : List SatLit) → q < length t.entries → (entry_at t.entries q).level < t.level → IsAway t old new q top clause → here_in t new top ≡ here_in t old top
away_here t trail old new q top clause within lower away =
    same_count (is_counted t old) (is_counted t new) (take top t.entries) nothing (λ k inside.
    let short = length-take top t.entries in
    let there = get_or-take top t.entries k nothing (omega (arith, inside, short)) in
    ap (is_counted t new) there ∙ (same k (omega (arith, inside, short)) (omega (arith, inside, short)) ∙ sym (ap (is_counted t old) there)))
  where
    same : (k : ℕ) → k < top → k < length t.entries → is_counted t new (entry_at t.entries k) ≡ is_counted t old (entry_at t.entries k)
    same k low inside = elim (leb_tells (q + 1) k) [
      | inl (found, late) ↦ ap (λ b. b && ((entry_at t.entries k).level == t.level)) (away.later k (omega (arith, late)) low inside)
      | inr (found, early) ↦
          let other : (entry_at t.entries k).level ≢ t.level = λ e. omega (arith, e, lower, ascend t trail k q (omega (arith, early)) within) in
          let test = ne_eqb (entry_at t.entries k).level t.level other in
          and_right (is_marked new (entry_at t.entries k)) ((entry_at t.entries k).level == t.level) test ∙ sym (and_right (is_marked old (entry_at t.entries k)) ((entry_at t.entries k).level == t.level) test)
    ]

-- a literal gave way
pub reduced_away : (clauses : List (List SatLit)) (t : Trailing) → IsTrail t → (old new : List Bool) (below here q id : ℕ) (steps : List ℕ) → IsReduced clauses t old below here steps (q + 1) → IsReason clauses (before t.entries q) (entry_at t.entries q).literal id → (entry_at t.entries q).level < t.level → IsAway t old new q below (clause_at clauses id) → IsReduced clauses t new below here (steps ++ id ∷ []) q
reduced_away clauses t trail old new below here q id steps is reason lower away =
    let within : q < length t.entries = omega (arith, is.low, is.within) in
    record {
      size = away.size ∙ is.size;
      within = is.within;
      low = omega (arith, is.low);
      count = is.count ∙ sym (away_here t trail old new q below (clause_at clauses id) within lower away);
      present = is.present;
      few = is.few;
      derives = derive_away clauses t trail old new q below below id steps within (omega (arith, is.low)) (omega arith) (λ k early _. early) reason away is.derives;
    }

-- A clause is being minimized, with marks of variables that are on the trail.
pub record IsMinimizing (clauses : List (List SatLit)) (trail : Trailing) (marked : List Bool) (analysis : Analysis) (place below : ℕ) : Type 0 where
  pub reducing : IsReducing clauses trail marked analysis place
  pub on_trail : AreOnTrail trail.entries marked
  pub same : analysis.below ≡ below
