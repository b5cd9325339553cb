-- Values that make the literals of a trail true meet clauses that leave nothing open.
use Rattle.std.proofs.Common.{◌≡◌, ℕ, suc, ◌<◌, not, Bool, true, false, List, [], ◌∷◌, length, All, None, slice_index_or, inl, inr, refl, sym, ◌∙◌, ap, subst, arith}
use Rattle.std.specs.List.{list_any, list_all}
use Rattle.std.proofs.lemmas.Bool.{and_from, cases_Bool, or_parts, true_from_ne_false}
use Rattle.std.proofs.lemmas.List.{get_or_append_left, length-append}
use Rattle.std.proofs.lemmas.List.Elements.{All-contains}
use Rattle.circuits.specs.Literals.{bit, differ}
use Rattle.cnf_core.specs.declared.literal.SatLit.{SatLit}
use Rattle.cnf_core.specs.declared.effect.Effect.TheVariants.{Conflict, Neither}
use Rattle.cnf_core.specs.Clauses.{is_negated, literal_bit, literal_of, opposite, variable_of, AreKnown}
use Rattle.cnf_core.specs.Derivations.{clauses_of, effect_of, is_false, is_true}
use Rattle.trail_core.specs.Trails.{Trailing, literals, value_in}
use Rattle.watch_lists.specs.Propagations.{IsQuiet}
use Rattle.learn_solver.specs.Searches.{AreValues, IsAssigned, IsSearching}
use Rattle.learn_solver.specs.Solvers.{HaveVariables, IsModel, IsSolver, Solving, active, wanted}
use Rattle.trail_core.proofs.TrailLemmas.{value_none}
use Rattle.watch_lists.proofs.EffectLemmas.{conflict_from}
use Rattle.cnf_core.proofs.LiteralLemmas.{itself, its_opposite, opposite_twice}

-- a literal that the values make false is false on the trail
false_on : (t : Trailing) (values : List Bool) → AreValues t values → (l : SatLit) → IsAssigned t (variable_of l) → variable_of l < t.variables → literal_bit values l ≡ false → is_false (literals t.entries) l ≡ true
false_on t values are l assigned known falsity =
    let made = literals t.entries in
    let v = variable_of l in
    let at : bit values v ≡ is_true made (literal_of v true) = are.each v false (omega (arith, known, are.count)) in
    elim (cases_Bool (is_negated l)) [
      | inl negated ↦
          let held : bit values v ≡ true = by_negated (bit values v) (ap (differ (bit values v)) (sym negated) ∙ falsity) in
          ap (is_true made) (sym (ap (literal_of v) (sym negated) ∙ its_opposite l)) ∙ (sym at ∙ held)
      | inr plain ↦
          let held : bit values v ≡ false = by_plain (bit values v) (ap (differ (bit values v)) (sym plain) ∙ falsity) in
          let not_made : is_true made l ≡ false = ap (is_true made) (sym (ap (λ (b : Bool). literal_of v (not b)) (sym plain) ∙ itself l)) ∙ (sym at ∙ held) in
          true_from_ne_false (is_false made l) (λ free.
          let other : literal_of v false ≡ opposite l = ap (literal_of v) (sym plain) ∙ its_opposite l in
          let none : value_in made (literal_of v false) ≡ None = ap (value_in made) other ∙ value_none made (opposite l) free (ap (is_true made) (opposite_twice l) ∙ not_made) in
          assigned none)
    ]
  where
    by_negated : (b : Bool) → differ b true ≡ false → b ≡ true
    by_negated true e = refl
    by_negated false e = absurd (let x : true ≡ false = e in cc)

    by_plain : (b : Bool) → differ b false ≡ false → b ≡ false
    by_plain true e = absurd (let x : true ≡ false = e in cc)
    by_plain false e = refl

-- a clause that isn't met has false literals alone
all_false : (t : Trailing) (values : List Bool) → AreValues t values → (c : List SatLit) → All (λ l. IsAssigned t (variable_of l)) c → ((k : ℕ) (d : SatLit) → k < length c → variable_of (slice_index_or c k d) < t.variables) → list_any (literal_bit values) c ≡ false → list_all (is_false (literals t.entries)) c ≡ true
all_false t values are [] assigned known e = refl
all_false t values are (l ∷ c) assigned known e =
    let parts = or_parts (literal_bit values l) (list_any (literal_bit values) c) e in
    and_from (is_false (literals t.entries) l) (list_all (is_false (literals t.entries)) c) (false_on t values are l (assigned 0 l (omega arith)) (known 0 l (omega arith)) parts.0) (all_false t values are c (λ k d h. assigned (suc k) d (omega (arith, h))) (λ k d h. known (suc k) d (omega (arith, h))) parts.1)

-- the variables of wanted clauses are assigned, where all that are decided are
wanted_assigned : (s : Solving) (t : Trailing) (occurring : List ℕ) → HaveVariables s.formula.variables (wanted s.formula s.ids) occurring → All (IsAssigned t) occurring → All (λ clause. All (λ l. IsAssigned t (variable_of l)) clause) (wanted s.formula s.ids)
wanted_assigned s t occurring have assigned k d within j e inside =
    All-contains (IsAssigned t) occurring (variable_of (slice_index_or (slice_index_or (wanted s.formula s.ids) k d) j e)) assigned (have.all k d within j e inside)

pub model_from : (s : Solving) (clauses : List (List SatLit)) (occurring : List ℕ) (t : Trailing) (values : List Bool) → IsSolver s.formula s.ids s.lines clauses → HaveVariables s.formula.variables (wanted s.formula s.ids) occurring → IsSearching s t → IsQuiet (active s.formula s.ids s.lines) (literals t.entries) → All (IsAssigned t) occurring → AreValues t values → IsModel s values
model_from s clauses occurring t values is have searching quiet assigned are = record {
  variables = are.count ∙ searching.variables;
  meets = λ k d within.
      let want = wanted s.formula s.ids in
      let c = slice_index_or want k d in
      let at = get_or_append_left want (clauses_of s.lines) d k within in
      let inside : k < length (active s.formula s.ids s.lines) = omega (arith, within, length-append want (clauses_of s.lines)) in
      let known : AreKnown s.formula.variables c = subst (AreKnown s.formula.variables) at (subst (λ (cs : List (List SatLit)). All (AreKnown s.formula.variables) cs) is.stored is.known k d inside) in
      let open_one : effect_of (literals t.entries) c ≡ Neither = ap (effect_of (literals t.entries)) (sym at) ∙ quiet k d inside in
      true_from_ne_false (list_any (literal_bit values) c) (λ unmet.
      let falsity = all_false t values are c (wanted_assigned s t occurring have assigned k d within) (λ j e h. omega (arith, known j e h, searching.variables)) unmet in
      let clash : Conflict ≡ Neither = sym (conflict_from (literals t.entries) c falsity) ∙ open_one in
      cc);
}
