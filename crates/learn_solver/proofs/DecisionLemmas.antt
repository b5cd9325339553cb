-- The variables of clauses, marked and listed.
use Rattle.std.proofs.Common.{◌≡◌, ℕ, ◌+◌, ◌<◌, Bool, true, false, List, [], length, set, slice_index_or, inl, inr, sym, ap, subst, ◌∙◌, arith}
use Rattle.std.proofs.lemmas.Bool.{cases_lt}
use Rattle.std.proofs.lemmas.List.{get_or_default, get_or-set_same, length-set}
use Rattle.circuits.specs.Literals.{bit}
use Rattle.cnf_core.specs.declared.literal.SatLit.{SatLit}
use Rattle.cnf_core.specs.Clauses.{clause_at, variable_of, AreKnown}
use Rattle.learn_solver.specs.Analyses.{AreMarked, StayMarked}
use Rattle.learn_solver.proofs.MarkLemmas.{still}

-- The variables of the first n literals of a clause are marked.
pub record IsMarkingClause (old marked : List Bool) (clause : List SatLit) (count : ℕ) : Type 0 where
  pub size : length marked ≡ length old
  pub stay : StayMarked old marked
  pub marked_are : (k : ℕ) (d : SatLit) → k < count → bit marked (variable_of (slice_index_or clause k d)) ≡ true

pub literal_marked : (old marked : List Bool) (clause : List SatLit) (count : ℕ) (none : SatLit) (v : ℕ) → AreKnown (length old) clause → IsMarkingClause old marked clause count → count < length clause → v ≡ variable_of (slice_index_or clause count none) → IsMarkingClause old (set marked v true) clause (count + 1)
literal_marked old marked clause count none v known marking within v_is = record {
  size = length-set marked v true ∙ marking.size;
  stay = λ u is. still marked v u true there (marking.stay u is);
  marked_are = λ k d below.
      elim (cases_lt k count) [
        | inl before ↦ still marked v (variable_of (slice_index_or clause k d)) true there (marking.marked_are k d before)
        | inr last ↦
            let e : k ≡ count = omega (arith, last, below) in
            let same : variable_of (slice_index_or clause k d) ≡ v = ap (λ n. variable_of (slice_index_or clause n d)) e ∙ (ap variable_of (get_or_default clause count d none within) ∙ sym v_is) in
            subst (λ n. bit (set marked v true) n ≡ true) (sym same) (get_or-set_same marked v true false there)
      ];
}
  where
    there : v < length marked
    there = omega (arith, v_is, known count none within, marking.size)

-- The variables of the first n clauses are marked.
pub record IsMarkingAll (old marked : List Bool) (clauses : List (List SatLit)) (count : ℕ) : Type 0 where
  pub size : length marked ≡ length old
  pub marked_are : (k : ℕ) (d : List SatLit) → k < count → AreMarked marked (slice_index_or clauses k d)

pub clause_marked : (old marked new : List Bool) (clauses : List (List SatLit)) (count : ℕ) (clause : List SatLit) → IsMarkingAll old marked clauses count → count < length clauses → clause ≡ clause_at clauses count → length new ≡ length marked → StayMarked marked new → AreMarked new clause → IsMarkingAll old new clauses (count + 1)
clause_marked old marked new clauses count clause marking within clause_is size stay own = record {
  size = size ∙ marking.size;
  marked_are = λ k d below.
      elim (cases_lt k count) [
        | inl before ↦ λ j e inside. stay (variable_of (slice_index_or (slice_index_or clauses k d) j e)) (marking.marked_are k d before j e inside)
        | inr last ↦
            let e : k ≡ count = omega (arith, last, below) in
            let same : slice_index_or clauses k d ≡ clause = ap (λ n. slice_index_or clauses n d) e ∙ (get_or_default clauses count d [] within ∙ sym clause_is) in
            subst (AreMarked new) (sym same) own
      ];
}
