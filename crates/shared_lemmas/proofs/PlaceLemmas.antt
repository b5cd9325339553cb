-- Lines that are written into another log have their numbers there.
use Rattle.std.proofs.Common.{◌≡◌, ℕ, ◌+◌, ◌-◌, ◌<◌, List, [], ◌∷◌, ◌++◌, length, Option, None, Some, slice_index_or, slice_set, inl, inr, sym, ◌∙◌, ap, subst, arith}
use Rattle.std.proofs.lemmas.Bool.{cases_eq}
use Rattle.std.proofs.lemmas.List.{get_or_append_left, get_or-append-add, get_or-map, get_or-set_same, get_or-set_other, length-append, length-map}
use Rattle.cnf_core.specs.declared.log.LogLine.{LogLine}
use Rattle.cnf_core.specs.Clauses.{clause_at}
use Rattle.cnf_core.specs.Derivations.{clauses_of}
use Rattle.cnf_core.proofs.LineLemmas.{clauses_more}
use Rattle.shared_lemmas.specs.Parts.{ArePlaced, IsThere}

-- a line is where it was when another is written
still_there : (count : ℕ) (source target : List LogLine) (own : LogLine) (place number : ℕ) → IsThere count source target place number → IsThere count source (target ++ own ∷ []) place number
still_there count source target own place number is = record {
  late = is.late;
  there = omega (arith, is.there, length-append target (own ∷ []));
  same =
      ap (λ cs. clause_at cs (number - count)) (clauses_more target own)
      ∙ (get_or_append_left (clauses_of target) (own.clause ∷ []) [] (number - count) (omega (arith, is.there, length-map target (λ (l : LogLine). l.clause))) ∙ is.same);
}

-- the line that is written last
written : (count : ℕ) (source target : List LogLine) (own : LogLine) (place : ℕ) → own.clause ≡ clause_at (clauses_of source) place → IsThere count source (target ++ own ∷ []) place (count + length target)
written count source target own place same =
    let at : count + length target - count ≡ length (clauses_of target) + 0 = omega (arith, length-map target (λ (l : LogLine). l.clause)) in
    record {
      late = omega arith;
      there = omega (arith, length-append target (own ∷ []));
      same =
          ap (λ cs. clause_at cs (count + length target - count)) (clauses_more target own)
          ∙ (ap (clause_at (clauses_of target ++ own.clause ∷ [])) at ∙ (get_or-append-add (clauses_of target) (own.clause ∷ []) 0 [] ∙ same));
    }

-- a number more is listed
pub listed : (count : ℕ) (source target : List LogLine) (numbers : List (Option ℕ)) (place number : ℕ) → ArePlaced count source target numbers → place < length numbers → IsThere count source target place number → ArePlaced count source target (slice_set numbers place (Some number))
listed count source target numbers place number placed low is p n at =
    elim (cases_eq p place) [
      | inl same ↦
          let found : Some number ≡ Some n = sym (get_or-set_same numbers place (Some number) None low) ∙ (ap (λ k. slice_index_or (slice_set numbers place (Some number)) k None) (sym same) ∙ at) in
          let n_is : number ≡ n = cc in
          subst (λ k. IsThere count source target p k) n_is (subst (λ k. IsThere count source target k number) (sym same) is)
      | inr other ↦ placed p n (sym (get_or-set_other numbers place p (Some number) None other) ∙ at)
    ]

-- a line more is written and listed
pub written_more : (count : ℕ) (source target : List LogLine) (numbers : List (Option ℕ)) (own d : LogLine) (place : ℕ) → ArePlaced count source target numbers → place < length source → place < length numbers → own.clause ≡ (slice_index_or source place d).clause → ArePlaced count source (target ++ own ∷ []) (slice_set numbers place (Some (count + length target)))
written_more count source target numbers own d place placed within low same =
    listed count source (target ++ own ∷ []) numbers place (count + length target) (λ p n at. still_there count source target own p n (placed p n at)) low (written count source target own place (same ∙ sym (get_or-map (λ (l : LogLine). l.clause) source place d [] within)))
