-- Once all gates were gone over, each is joined to the first that unfolds to its tree.
use Rattle.std.proofs.Common.{◌≡◌, ◌⊎◌, ℕ, zero, suc, ◌+◌, ◌-◌, ◌<◌, ◌≤◌, cond, Bool, List, [], ◌∷◌, ◌++◌, length, Contains, Option, slice_index_or, inl, inr, refl, sym, ◌∙◌, ap, subst, arith, length-append}
use Rattle.std.proofs.lemmas.List.{get_or-append-add}
use Rattle.cnf_core.specs.declared.literal.SatLit.{SatLit}
use Rattle.cnf_core.specs.declared.log.LogLine.{LogLine}
use Rattle.cnf_core.specs.Clauses.{clause_at, opposite, variable_of}
use Rattle.cnf_core.specs.Derivations.{clauses_of, is_same}
use Rattle.claim_core.specs.Formulas.{plain}
use Rattle.joint_hash.specs.declared.gates.ConeGate.{ConeGate}
use Rattle.joint_hash.specs.declared.twins.Twin.{Twin}
use Rattle.joint_hash.specs.Trees.{AreEqualBy, IsCongruence, IsFirst, IsJoined}
use Rattle.joint_hash.specs.Classes.{AreMerged, IsFound, IsKept, IsTwin, in_order, operands_of, representative, twin_literal}
use Rattle.cnf_core.proofs.LiteralLemmas.{same_from, same_itself, same_literal}
use Rattle.joint_hash.proofs.LiteralLemmas.{in_order_exchanged, plain_is, representative_opposite}
use Rattle.joint_hash.proofs.MergeLemmas.{AreNested, none_or_some, one_variable}
use Rattle.std.proofs.lemmas.Option.{same_Some}

other_default : (xs : List (List SatLit)) (k : ℕ) (d e : List SatLit) → k < length xs → slice_index_or xs k d ≡ slice_index_or xs k e
other_default [] k d e within = absurd (omega (arith, within))
other_default (x ∷ xs) zero d e within = refl
other_default (x ∷ xs) (suc k) d e within = other_default xs k d e (omega (arith, within))

-- a clause after the first ones is one of the others
among_others : (first others : List (List SatLit)) (id : ℕ) (clause : List SatLit) → length first ≤ id → id < length (first ++ others) → clause_at (first ++ others) id ≡ clause → Contains others clause
among_others first others id clause after within is =
    let at : length first + (id - length first) ≡ id = omega (arith, after) in
    let here : id - length first < length others = omega (arith, after, within, length-append first others) in
    (id - length first, here, other_default others (id - length first) clause [] here ∙ (sym (get_or-append-add first others (id - length first) []) ∙ (ap (clause_at (first ++ others)) at ∙ is)))

module _ (IsGate : ConeGate → Type 0) (nested : AreNested IsGate) (limit : ℕ) (clauses : List (List SatLit)) (lines : List LogLine) (firsts : SatLit × SatLit → Option ConeGate) (twins : ℕ → Option Twin)
    (merged : AreMerged IsGate limit (length clauses) (clauses ++ clauses_of lines) firsts twins) (all : (g : ConeGate) → IsGate g → g.id + 2 < limit) where
  found_for : (g : ConeGate) → IsGate g → IsFound firsts twins g
  found_for g is = merged.found g (record { is_gate = is; early = all g is })

  kept_for : (g : ConeGate) (is : IsGate g) → IsKept IsGate limit twins (operands_of twins g) (found_for g is).first
  kept_for g is = merged.kept (operands_of twins g) (found_for g is).first (found_for g is).found

  -- gates with the same operands have one representative
  meet : (g h : ConeGate) → IsGate g → IsGate h → operands_of twins g ≡ operands_of twins h → representative twins g.output ≡ representative twins h.output
  meet g h is there same =
      let one = found_for g is in
      let other = found_for h there in
      let first : one.first ≡ other.first = same_Some one.first other.first (sym one.found ∙ (ap firsts same ∙ other.found)) in
      one.stands ∙ (ap (λ (f : ConeGate). f.output) first ∙ sym other.stands)

  -- literals of one representative
  abbrev alike : SatLit → SatLit → Bool
  alike l m = is_same (representative twins l) (representative twins m)

  are_alike : IsCongruence IsGate alike
  are_alike = record {
    reflexive = λ l. same_itself (representative twins l);
    symmetric = λ l m e. same_from (representative twins m) (representative twins l) (sym (same_literal (representative twins l) (representative twins m) e));
    transitive = λ l m o e f. same_from (representative twins l) (representative twins o) (same_literal (representative twins l) (representative twins m) e ∙ same_literal (representative twins m) (representative twins o) f);
    opposites = λ l m e. same_from (representative twins (opposite l)) (representative twins (opposite m)) (representative_opposite twins l ∙ (ap opposite (same_literal (representative twins l) (representative twins m) e) ∙ sym (representative_opposite twins m)));
    gates = λ g h is there e f.
        let first = same_literal (representative twins g.first) (representative twins h.first) e in
        let second = same_literal (representative twins g.second) (representative twins h.second) f in
        same_from (representative twins g.output) (representative twins h.output) (meet g h is there (ap (λ (l : SatLit). in_order l (representative twins g.second)) first ∙ ap (in_order (representative twins h.first)) second));
    exchanged = λ g h is there e f.
        let first = same_literal (representative twins g.first) (representative twins h.second) e in
        let second = same_literal (representative twins g.second) (representative twins h.first) f in
        same_from (representative twins g.output) (representative twins h.output) (meet g h is there (ap (λ (l : SatLit). in_order l (representative twins g.second)) first
        ∙ (ap (in_order (representative twins h.second)) second ∙ in_order_exchanged (representative twins h.second) (representative twins h.first))));
  }

  first_of_all : (g : ConeGate) (is : IsGate g) → IsFirst IsGate (found_for g is).first
  first_of_all g is h there tree =
      let found = found_for g is in
      let first = found.first in
      let kept = kept_for g is in
      let other = found_for h there in
      let last = kept_for h there in
      let own : representative twins first.output ≡ first.output = ap (λ o. twin_literal o first.output) kept.itself in
      let outputs : first.output ≡ other.first.output = sym own ∙ (same_literal (representative twins first.output) (representative twins h.output) (tree alike are_alike) ∙ other.stands) in
      let operands = one_variable IsGate nested twins first other.first kept.visited.is_gate last.visited.is_gate (ap variable_of outputs) in
      let one : first ≡ other.first = same_Some first other.first (sym found.found ∙ (ap firsts (kept.operands_are ∙ (operands ∙ sym last.operands_are)) ∙ other.found)) in
      omega (arith, ap (λ (f : ConeGate). f.id) one, other.before)

  -- what a twin says of a gate and what stands for it
  equal_by : (g first : ConeGate) (twin : Twin) → IsGate g → IsTwin (length clauses) (clauses ++ clauses_of lines) (variable_of g.output) twin → twin.first ≡ first.output → AreEqualBy lines first.output g.output
  equal_by g first twin is says same =
      let this = plain_is g.output (nested.positive g is) in
      record {
        to = subst (Contains (clauses_of lines)) (ap (λ (l : SatLit). opposite l ∷ plain (variable_of g.output) ∷ []) same ∙ ap (λ (l : SatLit). opposite first.output ∷ l ∷ []) this) (among_others clauses (clauses_of lines) twin.to_variable (opposite twin.first ∷ plain (variable_of g.output) ∷ []) says.late_to says.there_to says.to_variable);
        back = subst (Contains (clauses_of lines)) (ap (λ (l : SatLit). l ∷ opposite (plain (variable_of g.output)) ∷ []) same ∙ ap (λ (l : SatLit). first.output ∷ opposite l ∷ []) this) (among_others clauses (clauses_of lines) twin.from_variable (twin.first ∷ opposite (plain (variable_of g.output)) ∷ []) says.late_from says.there_from says.from_variable);
      }

  joined_to : (g first : ConeGate) → IsGate g → representative twins g.output ≡ first.output → (g.output ≡ first.output) ⊎ AreEqualBy lines first.output g.output
  joined_to g first is stands =
      elim (none_or_some (twins (variable_of g.output))) [
        | inl none ↦ inl (sym (ap (λ o. twin_literal o g.output) none) ∙ stands)
        | inr (twin, there) ↦
            let same : twin.first ≡ first.output = sym (ap (λ o. twin_literal o g.output) there ∙ ap (λ b. cond b (opposite twin.first) twin.first) (nested.positive g is)) ∙ stands in
            inr (equal_by g first twin is (merged.are_twins (variable_of g.output) twin there) same)
      ]

  pub joined_all : (g : ConeGate) → IsGate g → IsJoined IsGate lines g
  joined_all g is =
      let found = found_for g is in
      let kept = kept_for g is in
      record {
        first = found.first;
        is_gate = kept.visited.is_gate;
        is_first = first_of_all g is;
        one_tree = λ same congruence. congruence.symmetric g.output found.first.output (ap (same g.output) (sym found.stands) ∙ merged.sound same congruence g.output);
        joined = joined_to g found.first is found.stands;
      }
