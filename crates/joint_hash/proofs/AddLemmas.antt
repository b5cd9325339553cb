-- What is known after one gate more: kept, joined to the first with its operands, or made one with it.
use Rattle.std.proofs.Common.{◌≡◌, ℕ, ◌+◌, ◌==◌, ◌||◌, true, false, List, ◌∷◌, [], ◌++◌, length, None, Some, is_some, refl, sym, ◌∙◌, ap, subst, arith, append_assoc, length-append}
use Rattle.cnf_core.specs.declared.literal.SatLit.{SatLit}
use Rattle.cnf_core.specs.declared.log.LogLine.{LogLine}
use Rattle.cnf_core.specs.Clauses.{opposite, variable_of}
use Rattle.cnf_core.specs.Derivations.{clauses_of}
use Rattle.net_core.specs.Sides.{Graphs}
use Rattle.net_core.specs.Graph.{IsGraph}
use Rattle.claim_core.specs.declared.query.Query.{Query}
use Rattle.claim_core.specs.Queries.{IsQuery}
use Rattle.claim_core.specs.Formulas.{formula_of, query_clauses}
use Rattle.joint_hash.specs.declared.gates.ConeGate.{ConeGate}
use Rattle.joint_hash.specs.declared.twins.Twin.{Twin}
use Rattle.joint_hash.specs.Trees.{IsGateOf}
use Rattle.joint_hash.specs.Chains.{clauses_with}
use Rattle.joint_hash.specs.Classes.{AreEquated, HasAlso, IsUnderWay, first_with, operands_of, twin_of}
use Rattle.joint_hash.proofs.GateLemmas.{nested}
use Rattle.joint_hash.proofs.MergeLemmas.{equated_more, joined_more, kept_more}

module _ (graphs : Graphs) (query : Query) (gate : ConeGate) (first : IsGraph graphs.first) (second : IsGraph graphs.second) (fits : IsQuery graphs query) (is : IsGateOf graphs query gate) where
  -- the number after the gate's last
  next : gate.id + 2 + 1 ≡ gate.id + 3
  next = omega arith

  pub kept_after : (lines : List LogLine) (firsts new : List ((SatLit × SatLit) × ConeGate)) (twins : List (ℕ × Twin)) (operands : SatLit × SatLit) → IsUnderWay graphs query (gate.id + 2) lines firsts twins → operands ≡ operands_of (twin_of twins) gate → first_with firsts operands ≡ None → HasAlso firsts new operands gate → IsUnderWay graphs query (gate.id + 3) lines new twins
  kept_after lines firsts new twins operands way are absent also =
      let own = operands_of (twin_of twins) gate in
      let nothing : first_with firsts own ≡ None = ap (first_with firsts) (sym are) ∙ absent in
      let grown : HasAlso firsts new own gate = subst (λ (p : SatLit × SatLit). HasAlso firsts new p gate) are also in
      subst (λ k. IsUnderWay graphs query k lines new twins) next (record {
        lemmas = way.lemmas;
        merged = kept_more (IsGateOf graphs query) (nested graphs query first second fits) (gate.id + 2) (length (query_clauses graphs query)) gate is refl (clauses_with (formula_of graphs query) lines) (first_with firsts) (first_with new) (twin_of twins) way.merged nothing grown;
      })

  pub added_after : (lines : List LogLine) (firsts : List ((SatLit × SatLit) × ConeGate)) (twins : List (ℕ × Twin)) (operands : SatLit × SatLit) (found : ConeGate) → IsUnderWay graphs query (gate.id + 2) lines firsts twins → operands ≡ operands_of (twin_of twins) gate → first_with firsts operands ≡ Some found → ((variable_of gate.output == variable_of found.output) || is_some (twin_of twins (variable_of gate.output))) ≡ true → IsUnderWay graphs query (gate.id + 3) lines firsts twins
  added_after lines firsts twins operands found way are there joined =
      subst (λ k. IsUnderWay graphs query k lines firsts twins) next (record {
        lemmas = way.lemmas;
        merged = joined_more (IsGateOf graphs query) (nested graphs query first second fits) (gate.id + 2) (length (query_clauses graphs query)) gate is refl (clauses_with (formula_of graphs query) lines) (first_with firsts) (twin_of twins) found way.merged (ap (first_with firsts) (sym are) ∙ there) joined;
      })

  pub equated_after : (lines later : List LogLine) (firsts : List ((SatLit × SatLit) × ConeGate)) (twins new : List (ℕ × Twin)) (operands : SatLit × SatLit) (found : ConeGate) → IsUnderWay graphs query (gate.id + 2) lines firsts twins → operands ≡ operands_of (twin_of twins) gate → first_with firsts operands ≡ Some found → ((variable_of gate.output == variable_of found.output) || is_some (twin_of twins (variable_of gate.output))) ≡ false → AreEquated (formula_of graphs query) found gate lines later (twin_of twins) (twin_of new) → IsUnderWay graphs query (gate.id + 3) later firsts new
  equated_after lines later firsts twins new operands found way are there unjoined equated =
      let front = query_clauses graphs query in
      let old = clauses_of lines in
      let both = (opposite found.output ∷ gate.output ∷ []) ∷ (found.output ∷ opposite gate.output ∷ []) ∷ [] in
      let grown : front ++ clauses_of later ≡ (front ++ old) ++ both = ap (λ (cs : List (List SatLit)). front ++ cs) equated.clauses ∙ sym (append_assoc front old both) in
      subst (λ k. IsUnderWay graphs query k later firsts new) next (record {
        lemmas = equated.lemmas;
        merged = equated_more (IsGateOf graphs query) (nested graphs query first second fits) (gate.id + 2) (length front) gate is refl (front ++ old) (front ++ clauses_of later) (first_with firsts) (twin_of twins) (twin_of new) found way.merged (ap (first_with firsts) (sym are) ∙ there) unjoined (omega (arith, length-append front old)) grown equated.twins;
      })
