-- Marks of variables on the trail, and how they are taken away along it.
use Rattle.std.proofs.Common.{◌≡◌, ℕ, suc, ◌<◌, Bool, false, List, [], ◌∷◌, length, replicate, slice_set, refl, sym, ◌∙◌, ap, inl, inr}
use Rattle.std.proofs.lemmas.Bool.{both_ways, cases_eq, false≢true, false_from_ne_true}
use Rattle.std.proofs.lemmas.List.{get_or-set_same, get_or-set_other}
use Rattle.circuits.specs.Literals.{bit}
use Rattle.cnf_core.specs.declared.literal.SatLit.{SatLit}
use Rattle.cnf_core.specs.Clauses.{variable_of}
use Rattle.trail_core.specs.declared.assigned.Assigned.{Assigned}
use Rattle.trail_core.specs.Trails.{Trailing, entry_at}
use Rattle.learn_solver.specs.declared.conflict.Analysis.{Analysis}
use Rattle.learn_solver.specs.Analyses.{AreOnTrail, IsAnalysis}
use Rattle.learn_solver.proofs.AnalysisLemmas.{unmarked_bit}

-- An analysis is under way, with marks of variables that are on the trail.
pub record IsResolving (clauses : List (List SatLit)) (trail : Trailing) (marked : List Bool) (analysis : Analysis) : Type 0 where
  pub analysis_is : IsAnalysis clauses trail marked analysis
  pub on_trail : AreOnTrail trail.entries marked

pub unmarked_on_trail : (es : List Assigned) (n : ℕ) → AreOnTrail es (replicate n false)
unmarked_on_trail es n v was = absurd (false≢true (sym (unmarked_bit n v) ∙ was))

-- the marks of the first n literals were taken away
pub record IsClearing (trail : Trailing) (marked : List Bool) (count : ℕ) : Type 0 where
  pub size : length marked ≡ trail.variables
  pub on_trail : AreOnTrail trail.entries marked
  pub cleared : (j : ℕ) → j < count → bit marked (variable_of (entry_at trail.entries j).literal) ≡ false

pub unset_on_trail : (es : List Assigned) (marked : List Bool) (v : ℕ) → v < length marked → AreOnTrail es marked → AreOnTrail es (slice_set marked v false)
unset_on_trail es marked v known before w was = elim (cases_eq w v) [
  | inl same ↦ absurd (false≢true (sym (ap (bit (slice_set marked v false)) same ∙ get_or-set_same marked v false false known) ∙ was))
  | inr other ↦ before w (sym (get_or-set_other marked v w false false other) ∙ was)
]

all_unset : (marked : List Bool) → ((v : ℕ) → bit marked v ≡ false) → marked ≡ replicate (length marked) false
all_unset [] none = refl
all_unset (b ∷ bs) none = λ i. none 0 i ∷ all_unset bs (λ v. none (suc v)) i

-- no mark is left at the trail's end
pub clearing_done : (t : Trailing) (marked : List Bool) → IsClearing t marked (length t.entries) → marked ≡ replicate t.variables false
clearing_done t marked is = all_unset marked none ∙ ap (λ n. replicate n false) is.size
  where
    none : (v : ℕ) → bit marked v ≡ false
    none v = false_from_ne_true (bit marked v) (λ was.
        let p = is.on_trail v was in both_ways (bit marked v) (ap (bit marked) (sym p.there) ∙ is.cleared p.at p.within) was)
