-- The clauses by which a gate implies another of its class lead to a conflict.
use Rattle.std.proofs.Common.{◌≡◌, ℕ, ◌+◌, ◌<◌, ◌≤◌, ◌||◌, cond, Bool, true, false, List, [], ◌∷◌, ◌++◌, length, Option, None, Some, inl, inr, refl, sym, ◌∙◌, ap, subst, arith, append_assoc, length-append}
use Rattle.std.proofs.lemmas.Bool.{or_left, or_right}
use Rattle.std.proofs.lemmas.List.{get_or_append_left}
use Rattle.std.specs.Bool.{beq}
use Rattle.std.specs.List.{AllByRecursion}
use Rattle.cnf_core.specs.declared.literal.SatLit.{SatLit}
use Rattle.cnf_core.specs.Clauses.{clause_at, is_negated, opposite, variable_of}
use Rattle.cnf_core.specs.Derivations.{is_false, is_same, is_true}
use Rattle.claim_core.specs.Formulas.{plain}
use Rattle.joint_hash.specs.declared.gates.ConeGate.{ConeGate}
use Rattle.joint_hash.specs.declared.twins.Twin.{Twin}
use Rattle.joint_hash.specs.Chains.{LeadOn, LeavesOnly}
use Rattle.joint_hash.specs.Merging.{HasClauses}
use Rattle.joint_hash.specs.Classes.{AreTwins, IsTwin, chain_ids, lemma_ids, operands_of, representative, twin_literal}
use Rattle.cnf_core.proofs.LiteralLemmas.{opposite_twice, same_from, same_itself}
use Rattle.joint_hash.proofs.LiteralLemmas.{AreTheSame, in_order_same, negated_is, plain_is}
use Rattle.joint_hash.proofs.LeadLemmas.{last_true, lead_too, nothing_new, stays_true}

-- a clause that leaves one literal, and then the others
one_step : (clauses : List (List SatLit)) (made : List SatLit) (id : ℕ) (ids : List ℕ) (clause : List SatLit) (l : SatLit) → id < length clauses → clause_at clauses id ≡ clause → LeavesOnly made clause l → LeadOn clauses (made ++ l ∷ []) ids → LeadOn clauses made (id ∷ ids)
one_step clauses made id ids clause l there is only rest =
    (there, inr (l, subst (λ (c : List SatLit). LeavesOnly made c l) (sym is) only, rest))

module _ (count : ℕ) (clauses : List (List SatLit)) (twins : ℕ → Option Twin) (are : AreTwins count clauses twins) where
  -- from a literal that is true to its representative
  onto_leads : (made : List SatLit) (l : SatLit) (ids : List ℕ) → is_true made l ≡ true → LeadOn clauses (made ++ representative twins l ∷ []) ids → LeadOn clauses made (lemma_ids (twins (variable_of l)) l true ++ ids)
  onto_leads made l ids truth = by_twin (twins (variable_of l)) refl
    where
      v : ℕ
      v = variable_of l

      by_sign : (twin : Twin) → IsTwin count clauses v twin → (b : Bool) → is_negated l ≡ b → LeadOn clauses (made ++ cond b (opposite twin.first) twin.first ∷ []) ids → LeadOn clauses made (cond (beq b true) twin.to_variable twin.from_variable ∷ ids)
      by_sign twin is true negated rest =
          one_step clauses made twin.to_variable ids (opposite twin.first ∷ plain v ∷ []) (opposite twin.first) is.there_to is.to_variable (inl refl, (inr (ap (is_true made) (negated_is l negated) ∙ truth), tt)) rest
      by_sign twin is false free rest =
          one_step clauses made twin.from_variable ids (twin.first ∷ opposite (plain v) ∷ []) twin.first is.there_from is.from_variable (inl refl, (inr (ap (is_true made) (opposite_twice (plain v) ∙ plain_is l free) ∙ truth), tt)) rest

      by_twin : (twin : Option Twin) → twins v ≡ twin → LeadOn clauses (made ++ twin_literal twin l ∷ []) ids → LeadOn clauses made (lemma_ids twin l true ++ ids)
      by_twin None is rest = lead_too clauses (made ++ l ∷ []) made ids (nothing_new made l truth) rest
      by_twin (Some twin) is rest = by_sign twin (are v twin is) (is_negated l) refl rest

  -- from a representative that is true to the literal
  back_leads : (made : List SatLit) (l : SatLit) (ids : List ℕ) → is_true made (representative twins l) ≡ true → LeadOn clauses (made ++ l ∷ []) ids → LeadOn clauses made (lemma_ids (twins (variable_of l)) l false ++ ids)
  back_leads made l ids = by_twin (twins (variable_of l)) refl
    where
      v : ℕ
      v = variable_of l

      by_sign : (twin : Twin) → IsTwin count clauses v twin → (b : Bool) → is_negated l ≡ b → is_true made (cond b (opposite twin.first) twin.first) ≡ true → LeadOn clauses (made ++ l ∷ []) ids → LeadOn clauses made (cond (beq b false) twin.to_variable twin.from_variable ∷ ids)
      by_sign twin is true negated truth rest =
          one_step clauses made twin.from_variable ids (twin.first ∷ opposite (plain v) ∷ []) l is.there_from is.from_variable (inr truth, (inl (negated_is l negated), tt)) rest
      by_sign twin is false free truth rest =
          one_step clauses made twin.to_variable ids (opposite twin.first ∷ plain v ∷ []) l is.there_to is.to_variable (inr (ap (is_true made) (opposite_twice twin.first) ∙ truth), (inl (plain_is l free), tt)) rest

      by_twin : (twin : Option Twin) → twins v ≡ twin → is_true made (twin_literal twin l) ≡ true → LeadOn clauses (made ++ l ∷ []) ids → LeadOn clauses made (lemma_ids twin l false ++ ids)
      by_twin None is truth rest = lead_too clauses (made ++ l ∷ []) made ids (nothing_new made l truth) rest
      by_twin (Some twin) is truth rest = by_sign twin (are v twin is) (is_negated l) refl truth rest

  -- from one gate to another with the same operands, where the one is true and the other isn't
  chain_right : (made : List SatLit) (start end : ConeGate) → HasClauses clauses start → HasClauses clauses end → operands_of twins start ≡ operands_of twins end → is_true made start.output ≡ true → is_true made (opposite end.output) ≡ true → LeadOn clauses made (start.id ∷ (start.id + 1) ∷ (lemma_ids (twins (variable_of start.first)) start.first true ++ (lemma_ids (twins (variable_of start.second)) start.second true ++ (lemma_ids (twins (variable_of end.first)) end.first false ++ (lemma_ids (twins (variable_of end.second)) end.second false ++ (end.id + 2) ∷ [])))))
  chain_right made start end of_start of_end same truth falsity =
      let last = (end.id + 2) ∷ [] in
      let back_second = lemma_ids (twins (variable_of end.second)) end.second false ++ last in
      let back_first = lemma_ids (twins (variable_of end.first)) end.first false ++ back_second in
      let onto_second = lemma_ids (twins (variable_of start.second)) start.second true ++ back_first in
      let onto_first = lemma_ids (twins (variable_of start.first)) start.first true ++ onto_second in
      let ends : LeadOn clauses six last = (of_end.there, inl (subst (AllByRecursion (λ l. is_false six l ≡ true)) (sym of_end.from_both) all_false)) in
      let at_five : LeadOn clauses five back_second = back_leads five end.second last second_there ends in
      let at_four : LeadOn clauses four back_first = back_leads four end.first back_second first_there at_five in
      let at_three : LeadOn clauses three onto_second = onto_leads three start.second back_first (stays_true two first start.second (last_true one start.second)) at_four in
      let at_two : LeadOn clauses two onto_first = onto_leads two start.first onto_second (stays_true one start.second start.first (last_true made start.first)) at_three in
      let own : is_true made (opposite (opposite start.output)) ≡ true = ap (is_true made) (opposite_twice start.output) ∙ truth in
      let at_one : LeadOn clauses one ((start.id + 1) ∷ onto_first) = one_step clauses one (start.id + 1) onto_first (opposite start.output ∷ start.second ∷ []) start.second (omega (arith, of_start.there)) of_start.to_second (inr (stays_true made start.first (opposite (opposite start.output)) own), (inl refl, tt)) at_two in
      one_step clauses made start.id ((start.id + 1) ∷ onto_first) (opposite start.output ∷ start.first ∷ []) start.first (omega (arith, of_start.there)) of_start.to_first (inr own, (inl refl, tt)) at_one
    where
      first : SatLit
      first = representative twins start.first

      second : SatLit
      second = representative twins start.second

      one : List SatLit
      one = made ++ start.first ∷ []

      two : List SatLit
      two = one ++ start.second ∷ []

      three : List SatLit
      three = two ++ first ∷ []

      four : List SatLit
      four = three ++ second ∷ []

      five : List SatLit
      five = four ++ end.first ∷ []

      six : List SatLit
      six = five ++ end.second ∷ []

      are_same : AreTheSame first second (representative twins end.first) (representative twins end.second)
      are_same = in_order_same first second (representative twins end.first) (representative twins end.second) same

      first_known : is_true four first ≡ true
      first_known = stays_true three second first (last_true two first)

      second_known : is_true four second ≡ true
      second_known = last_true three second

      first_there : is_true four (representative twins end.first) ≡ true
      first_there = elim are_same [ inl (e, f) ↦ ap (is_true four) (sym e) ∙ first_known | inr (e, f) ↦ ap (is_true four) (sym f) ∙ second_known ]

      second_there : is_true five (representative twins end.second) ≡ true
      second_there =
          stays_true four end.first (representative twins end.second) (elim are_same [ inl (e, f) ↦ ap (is_true four) (sym f) ∙ second_known | inr (e, f) ↦ ap (is_true four) (sym e) ∙ first_known ])

      kept : (l : SatLit) → is_true made l ≡ true → is_true six l ≡ true
      kept l is =
          stays_true five end.second l (stays_true four end.first l (stays_true three second l (stays_true two first l (stays_true one start.second l (stays_true made start.first l is)))))

      all_false : AllByRecursion (λ l. is_false six l ≡ true) (end.output ∷ opposite end.first ∷ opposite end.second ∷ [])
      all_false =
          (kept (opposite end.output) falsity, (ap (is_true six) (opposite_twice end.first) ∙ stays_true five end.second end.first (last_true four end.first), (ap (is_true six) (opposite_twice end.second) ∙ last_true five end.second, tt)))

  pub chain_leads : (made : List SatLit) (start end : ConeGate) → HasClauses clauses start → HasClauses clauses end → operands_of twins start ≡ operands_of twins end → is_true made start.output ≡ true → is_true made (opposite end.output) ≡ true → LeadOn clauses made (chain_ids twins start end)
  chain_leads made start end of_start of_end same truth falsity =
      let o = lemma_ids (twins (variable_of start.first)) start.first true in
      let p = lemma_ids (twins (variable_of start.second)) start.second true in
      let q = lemma_ids (twins (variable_of end.first)) end.first false in
      let r = lemma_ids (twins (variable_of end.second)) end.second false in
      subst (LeadOn clauses made) (sym (regroup (start.id ∷ (start.id + 1) ∷ []) o p q r ((end.id + 2) ∷ []))) (chain_right made start end of_start of_end same truth falsity)
    where
      regroup : (a b c d e f : List ℕ) → a ++ b ++ c ++ d ++ e ++ f ≡ a ++ (b ++ (c ++ (d ++ (e ++ f))))
      regroup a b c d e f = simp append_assoc

  -- where the lemma that the one implies the other is denied
  pub lemma_leads : (start end : ConeGate) → HasClauses clauses start → HasClauses clauses end → operands_of twins start ≡ operands_of twins end → LeadOn clauses (opposite (opposite start.output) ∷ opposite end.output ∷ []) (chain_ids twins start end)
  lemma_leads start end of_start of_end same =
      let one = opposite (opposite start.output) in
      let other = opposite end.output in
      chain_leads (one ∷ other ∷ []) start end of_start of_end same (or_left (is_same start.output one) (is_same start.output other || false) (same_from start.output one (sym (opposite_twice start.output)))) (or_right (is_same other one) (is_same other other || false) (or_left (is_same other other) false (same_itself other)))

  pub lemma_leads_back : (start end : ConeGate) → HasClauses clauses start → HasClauses clauses end → operands_of twins start ≡ operands_of twins end → LeadOn clauses (opposite end.output ∷ opposite (opposite start.output) ∷ []) (chain_ids twins start end)
  lemma_leads_back start end of_start of_end same =
      let one = opposite end.output in
      let other = opposite (opposite start.output) in
      chain_leads (one ∷ other ∷ []) start end of_start of_end same (or_right (is_same start.output one) (is_same start.output other || false) (or_left (is_same start.output other) false (same_from start.output other (sym (opposite_twice start.output))))) (or_left (is_same one one) (is_same one other || false) (same_itself one))

-- a twin where clauses follow
pub twin_later : (count : ℕ) (clauses more : List (List SatLit)) (v : ℕ) (twin : Twin) → length clauses ≤ length more → ((k : ℕ) → k < length clauses → clause_at more k ≡ clause_at clauses k) → IsTwin count clauses v twin → IsTwin count more v twin
twin_later count clauses more v twin longer before is = record {
  late_to = is.late_to;
  late_from = is.late_from;
  there_to = omega (arith, is.there_to, longer);
  there_from = omega (arith, is.there_from, longer);
  to_variable = before twin.to_variable is.there_to ∙ is.to_variable;
  from_variable = before twin.from_variable is.there_from ∙ is.from_variable;
}

pub twins_after : (count : ℕ) (front middle more whole : List (List SatLit)) (twins : ℕ → Option Twin) → whole ≡ middle ++ more → AreTwins count (front ++ middle) twins → AreTwins count (front ++ whole) twins
twins_after count front middle more whole twins is are v twin there =
    let grown : front ++ whole ≡ (front ++ middle) ++ more = ap (λ (cs : List (List SatLit)). front ++ cs) is ∙ sym (append_assoc front middle more) in
    let longer : length (front ++ middle) ≤ length (front ++ whole) = omega (arith, ap length grown, length-append (front ++ middle) more) in
    twin_later count (front ++ middle) (front ++ whole) v twin longer (λ k within. ap (λ (cs : List (List SatLit)). clause_at cs k) grown ∙ get_or_append_left (front ++ middle) more [] k within) (are v twin there)
