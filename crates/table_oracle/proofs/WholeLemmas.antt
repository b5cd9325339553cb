-- A query whose input bits are known: where no clause is a conflict and each is held, its vector is asked for.
use Rattle.std.proofs.Common.{◌≡◌, ◌≢◌, ℕ, ◌+◌, ◌*◌, ◌/◌, ◌%◌, ◌-◌, ◌<◌, ◌≤◌, Bool, true, false, not, List, [], ◌∷◌, length, map, slice_index_or, inl, inr, sym, ap, subst, ◌∙◌, arith}
use Rattle.std.specs.Bool.{beq}
use Rattle.std.specs.List.{range_with_len}
use Rattle.std.proofs.lemmas.Bool.{cases_eq, cases_lt, false≢true, or_cases}
use Rattle.std.proofs.lemmas.List.{get_or_default}
use Rattle.std.proofs.lemmas.List.Folds.{Any-from_list_any, list_any-from_Any}
use Rattle.std.proofs.lemmas.List.FromFn.{get_or-map-range_with_len, length-map-range_with_len}
use Rattle.circuits.specs.Literals.{bit}
use Rattle.circuits.specs.Netlists.{Net}
use Rattle.cnf_core.specs.declared.literal.SatLit.{SatLit}
use Rattle.cnf_core.specs.declared.effect.Effect.TheVariants.{Neither}
use Rattle.cnf_core.specs.Clauses.{clause_at, is_met, is_negated, literal_bit, literal_of, opposite, variable_of}
use Rattle.cnf_core.specs.Derivations.{effect_of, is_true}
use Rattle.cnf_core.proofs.LiteralLemmas.{itself, its_opposite}
use Rattle.net_core.specs.Sides.{Graphs}
use Rattle.net_core.specs.Graph.{IsGraph}
use Rattle.claim_core.specs.declared.query.Query.{Query}
use Rattle.claim_core.specs.Queries.{IsQuery, IsUnmet, bits_in, circuit_of, vector_in}
use Rattle.claim_core.specs.Formulas.{formula_of, half_clauses, left_literals, left_variables, output_literal, query_clauses, right_literals, right_variables, true_literal}
use Rattle.claim_core.specs.ConeClauses.{left_gates, right_gates}
use Rattle.claim_core.proofs.FormulaLemmas.{clause_below, count_of, first_output, gate_clause_count, second_output}
use Rattle.claim_core.proofs.ConeLaws.{vector_there}
use Rattle.claim_core.proofs.LawLemmas.{literal_of_bit, ordered_side}
use Rattle.joint_hash.proofs.GateLemmas.{left_clause, right_clause}
use Rattle.table_oracle.proofs.KnownLemmas.{AreApart, IsHeld, IsKnown, unit_held}
use Rattle.table_oracle.proofs.HalfLemmas.{IsHalfHeld, next_held}

-- A query that fits two circuits. Literals are true among which the input bits are known.
pub record IsBegun (graphs : Graphs) (query : Query) (made : List SatLit) : Type 0 where
  pub first : IsGraph graphs.first
  pub second : IsGraph graphs.second
  pub fits : IsQuery graphs query
  pub apart : AreApart made
  pub bits : (i : ℕ) (b : Bool) → i < bits_in graphs query → IsKnown made (literal_of (1 + i) b)

module _ (graphs : Graphs) (query : Query) (made : List SatLit) (begun : IsBegun graphs query made) where
  abbrev n : ℕ
  n = bits_in graphs query

  abbrev left : Net
  left = circuit_of graphs query.left

  abbrev right : Net
  right = circuit_of graphs query.right

  abbrev lefts : List (List SatLit)
  lefts = half_clauses left (left_literals graphs query)

  abbrev rights : List (List SatLit)
  rights = half_clauses right (right_literals graphs query)

  abbrev one : SatLit
  one = output_literal left (left_literals graphs query) query.left.output query.left_value

  abbrev other : SatLit
  other = output_literal right (right_literals graphs query) query.right.output query.right_value

  left_count : length lefts ≡ 3 * left_gates graphs query
  left_count = gate_clause_count (left_literals graphs query) (left.inputs + 1) left.gates

  right_count : length rights ≡ 3 * right_gates graphs query
  right_count = gate_clause_count (right_literals graphs query) (right.inputs + 1) right.gates

  abbrev pub AreHeld : ℕ → Type 0
  AreHeld count = (id : ℕ) → id < count → IsHeld made (clause_at (query_clauses graphs query) id)

  start : (count : ℕ) → 0 < count → AreHeld count → is_true made true_literal ≡ true
  start count some held =
      elim (or_cases (is_true made true_literal) false (held 0 some)) [ inl truth ↦ truth | inr none ↦ absurd (false≢true none) ]

  left_half : (count upto : ℕ) → 0 < count → 1 + 3 * upto ≤ count → AreHeld count → IsHalfHeld made n left query.left.feed (left_variables graphs query) upto
  left_half count upto some much held = record {
    first = start count some held;
    apart = begun.apart;
    ordered = ordered_side graphs query.left.side begun.first begun.second;
    inputs = begun.fits.left.inputs;
    feeds = begun.fits.left.feed;
    wired = begun.fits.left.wires;
    bits = begun.bits;
    held = λ t r early within small. subst (IsHeld made) (left_clause graphs query t r within small) (held (1 + (3 * t + r)) (omega (arith, early, small, much)));
  }

  right_half : (count upto : ℕ) → 0 < count → 1 + 3 * left_gates graphs query + 3 * upto ≤ count → AreHeld count → IsHalfHeld made n right query.right.feed (right_variables graphs query) upto
  right_half count upto some much held = record {
    first = start count some held;
    apart = begun.apart;
    ordered = ordered_side graphs query.right.side begun.first begun.second;
    inputs = begun.fits.right.inputs;
    feeds = begun.fits.right.feed;
    wired = begun.fits.right.wires;
    bits = begun.bits;
    held = λ t r early within small. subst (IsHeld made) (right_clause graphs query t r within small) (held (1 + 3 * left_gates graphs query + (3 * t + r)) (omega (arith, early, small, much)));
  }

  -- a clause is held that leaves nothing open, once those before it are
  pub clause_held : (id : ℕ) → id < length (query_clauses graphs query) → AreHeld id → effect_of made (clause_at (query_clauses graphs query) id) ≡ Neither → IsHeld made (clause_at (query_clauses graphs query) id)
  clause_held id there held neither =
      elim (cases_eq id 0) [
        | inl zero_is ↦ subst (λ k. IsHeld made (clause_at (query_clauses graphs query) k)) (sym zero_is) (unit_held made true_literal (sym (ap (λ k. effect_of made (clause_at (query_clauses graphs query) k)) zero_is) ∙ neither))
        | inr above ↦
            elim (cases_lt (id - 1) (length lefts)) [
              | inl early ↦ of_left above early
              | inr after ↦
                  elim (cases_lt (id - 1 - length lefts) (length rights)) [
                    | inl below ↦ of_right above after below
                    | inr late ↦
                        elim (cases_eq (id - 1 - length lefts) (length rights)) [
                          | inl here ↦ by_unit one (first_output lefts rights one other id above after here)
                          | inr not_here ↦ by_unit other (second_output lefts rights one other id above after (omega (arith, late, not_here, there, count_of graphs query, left_count, right_count, after, above)))
                        ]
                  ]
            ]
      ]
    where
      by_unit : (l : SatLit) → l ∷ [] ≡ clause_at (query_clauses graphs query) id → IsHeld made (clause_at (query_clauses graphs query) id)
      by_unit l at = subst (IsHeld made) at (unit_held made l (ap (effect_of made) at ∙ neither))

      of_left : id ≢ 0 → id - 1 < length lefts → IsHeld made (clause_at (query_clauses graphs query) id)
      of_left above early =
          let t = (id - 1) / 3 in
          let r = (id - 1) % 3 in
          let within : t < length left.gates = omega (arith, early, left_count) in
          let k : id ≡ 1 + (3 * t + r) = omega (arith, above) in
          let at = ap (clause_at (query_clauses graphs query)) k ∙ left_clause graphs query t r within (omega arith) in
          let half = left_half id t (omega (arith, above)) (omega (arith, above)) held in
          subst (IsHeld made) (sym at) (next_held made n left query.left.feed (left_variables graphs query) t half r within (omega arith) (sym (ap (effect_of made) at) ∙ neither))

      of_right : id ≢ 0 → length lefts ≤ id - 1 → id - 1 - length lefts < length rights → IsHeld made (clause_at (query_clauses graphs query) id)
      of_right above after below =
          let t = (id - 1 - length lefts) / 3 in
          let r = (id - 1 - length lefts) % 3 in
          let within : t < length right.gates = omega (arith, below, right_count) in
          let k : id ≡ 1 + 3 * left_gates graphs query + (3 * t + r) = omega (arith, above, after, left_count) in
          let at = ap (clause_at (query_clauses graphs query)) k ∙ right_clause graphs query t r within (omega arith) in
          let half = right_half id t (omega (arith, above)) (omega (arith, above, after, left_count)) held in
          subst (IsHeld made) (sym at) (next_held made n right query.right.feed (right_variables graphs query) t half r within (omega arith) (sym (ap (effect_of made) at) ∙ neither))

  -- the bits that make these literals true
  abbrev assignment : List Bool
  assignment = map (λ v. is_true made (literal_of v true)) (range_with_len 0 (formula_of graphs query).variables)

  assigned : (v : ℕ) → v < (formula_of graphs query).variables → bit assignment v ≡ is_true made (literal_of v true)
  assigned v within = get_or-map-range_with_len (λ v. is_true made (literal_of v true)) 0 (formula_of graphs query).variables v v false within (omega arith)

  literal_met : (l : SatLit) → is_true made l ≡ true → variable_of l < (formula_of graphs query).variables → literal_bit assignment l ≡ true
  literal_met l truth within = by_sign (is_negated l) (sym (itself l)) (sym (its_opposite l))
    where
      by_sign : (negated : Bool) → l ≡ literal_of (variable_of l) (not negated) → opposite l ≡ literal_of (variable_of l) negated → literal_bit assignment l ≡ true
      by_sign true own turned =
          let free : is_true made (literal_of (variable_of l) true) ≡ false = ap (is_true made) (sym turned) ∙ begun.apart l truth in
          ap (literal_bit assignment) own ∙ (literal_of_bit assignment (variable_of l) false ∙ ap (λ b. beq b false) (assigned (variable_of l) within ∙ free))
      by_sign false own turned =
          ap (literal_bit assignment) own ∙ (literal_of_bit assignment (variable_of l) true ∙ ap (λ b. beq b true) (assigned (variable_of l) within ∙ (ap (is_true made) (sym own) ∙ truth)))

  clause_met : (clause : List SatLit) → ((k : ℕ) (d : SatLit) → k < length clause → variable_of (slice_index_or clause k d) < (formula_of graphs query).variables) → IsHeld made clause → is_met assignment clause ≡ true
  clause_met clause known held =
      let found = Any-from_list_any (is_true made) clause held in
      let below = subst (λ m. variable_of m < (formula_of graphs query).variables) found.3 (known found.0 found.1 found.2) in
      list_any-from_Any (literal_bit assignment) clause (found.0, found.1, found.2, found.3, literal_met found.1 found.4 below)

  -- all clauses are held: some vector is asked for
  pub not_unmet : AreHeld (length (query_clauses graphs query)) → IsUnmet graphs query → ⊥
  not_unmet held unmet =
      unmet (vector_in n assignment) (length-map-range_with_len (λ i. bit assignment (1 + i)) 0 n) (vector_there graphs query assignment begun.first begun.second begun.fits (λ k d within.
      subst (λ c. is_met assignment c ≡ true) (get_or_default (query_clauses graphs query) k [] d within) (clause_met (clause_at (query_clauses graphs query) k) (clause_below graphs query k begun.fits) (held k within))))
