-- The clauses that are present of a claim's query are the query's, and a line whose hints are present is derived as the query has it.
use Rattle.std.proofs.Common.{eq-eqb, eqb-true, le-ltb, lt-ltb, nat_eq, nat_lt, ◌≡◌, ◌⊎◌, ℕ, ◌+◌, ◌*◌, ◌-◌, ◌/◌, ◌<◌, ◌≤◌, ◌&&◌, ◌||◌, not, cond, Bool, true, false, List, [], ◌∷◌, ◌++◌, length, length-append, map, All, Contains, Option, Some, inl, inr, refl, sym, ap, subst, ◌∙◌, arith}
use Rattle.std.specs.List.{list_all, list_any}
use Rattle.std.proofs.lemmas.Bool.{and_parts, cases_lt}
use Rattle.std.proofs.lemmas.Bool.Decides.{eqb_tells}
use Rattle.std.proofs.lemmas.List.{get_or_append_left, get_or-append-add, get_or_default}
use Rattle.std.proofs.lemmas.List.Elements.{All-push}
use Rattle.std.proofs.lemmas.List.Folds.{Any-from_list_any, list_any_at}
use Rattle.std.proofs.lemmas.List.FromFn.{get_or-map-range_with_len, length-map-range_with_len}
use Rattle.circuits.specs.Literals.{bit}
use Rattle.circuits.specs.Netlists.{Net, IsOrdered}
use Rattle.bit_list.specs.Marking.{listed_marks}
use Rattle.bit_list.proofs.MarkLemmas.{length-listed, listed_at}
use Rattle.cnf_core.specs.declared.literal.SatLit.{SatLit}
use Rattle.cnf_core.specs.declared.log.LogLine.{LogLine}
use Rattle.cnf_core.specs.declared.effect.Effect.{Effect}
use Rattle.cnf_core.specs.declared.effect.Effect.TheVariants.{Conflict, Makes, Neither}
use Rattle.cnf_core.specs.declared.fault.LineFault.{LineFault}
use Rattle.cnf_core.specs.declared.fault.LineFault.TheVariants as fault
use Rattle.cnf_core.specs.Clauses.{clause_at, opposite, variable_of}
use Rattle.cnf_core.specs.Derivations.{effect_of, fault_after, hint_fault, is_empty, line_fault, repeats_variable}
use Rattle.net_core.specs.Sides.{Graphs, graph_of}
use Rattle.net_core.specs.Cones.{ReachesGate}
use Rattle.claim_core.specs.declared.query.Query.{Query}
use Rattle.claim_core.specs.Queries.{IsQuery, circuit_of}
use Rattle.claim_core.specs.Formulas.{formula_of, query_clauses, true_literal}
use Rattle.claim_core.specs.ConeClauses.{IsConeId, gate_ids, left_gates, right_gates}
use Rattle.claim_core.proofs.ClaimQueryLemmas.{claim_query_fits}
use Rattle.claim_core.proofs.FormulaLemmas.{clause_below, count_of}
use Rattle.cnf_core.proofs.LiteralLemmas.{variable_of-literal}
use Rattle.query_core.specs.declared.variables.Variables.{Variables}
use Rattle.query_core.specs.ClaimClauses.{gate_of, is_of_marked, present_clause, present_formula, is_present, IsMarkedCone, IsPartialQuery, PartialQuery}
use Rattle.query_core.specs.Variables.{clauses_over}
use Rattle.query_core.proofs.ConeIdLemmas.{cone_ids_are}
use Rattle.query_core.proofs.VariableLemmas.{clauses_are, cone_clause}

-- ---- a present clause is the query's

pub present_is : (part : PartialQuery) (id : ℕ) → is_present part id ≡ true → present_clause part id ≡ clause_at (query_clauses part.graphs part.query) id
present_is part id is = ap (λ b. cond b (clause_at (query_clauses part.graphs part.query) id) (true_literal ∷ [])) is

pub present_count : (part : PartialQuery) → length (present_formula part).clauses ≡ length (query_clauses part.graphs part.query)
present_count part = length-map-range_with_len (present_clause part) 0 (length (query_clauses part.graphs part.query))

pub present_at : (part : PartialQuery) (id : ℕ) → id < length (query_clauses part.graphs part.query) → clause_at (present_formula part).clauses id ≡ present_clause part id
present_at part id below =
    get_or-map-range_with_len (present_clause part) 0 (length (query_clauses part.graphs part.query)) id id [] below (omega arith)

-- so is that of a hint, whatever lines were taken
hint_present : (part : PartialQuery) (taken : List (List SatLit)) (id : ℕ) → is_present part id ≡ true → clause_at ((present_formula part).clauses ++ taken) id ≡ clause_at (query_clauses part.graphs part.query ++ taken) id
hint_present part taken id is =
    let whole = query_clauses part.graphs part.query in
    let present = (present_formula part).clauses in
    let count : length present ≡ length whole = present_count part in
    elim (cases_lt id (length whole)) [
      | inl below ↦
          get_or_append_left present taken [] id (omega (arith, below, count)) ∙ (present_at part id below ∙ (present_is part id is ∙ sym (get_or_append_left whole taken [] id below)))
      | inr after ↦
          let k = id - length whole in
          let here : id ≡ length whole + k = omega (arith, after) in
          let there : id ≡ length present + k = omega (arith, after, count) in
          ap (clause_at (present ++ taken)) there ∙ (get_or-append-add present taken k [] ∙ (sym (get_or-append-add whole taken k []) ∙ sym (ap (clause_at (whole ++ taken)) here)))
    ]

after_same : (effect : Effect) (hints : List ℕ) (one other : SatLit → Option LineFault) → ((l : SatLit) → one l ≡ other l) → fault_after effect hints one ≡ fault_after effect hints other
after_same Conflict [] one other same = refl
after_same Conflict (hint ∷ hints) one other same = refl
after_same (Makes l) hints one other same = same l
after_same Neither hints one other same = refl

hints_same : (part : PartialQuery) (taken : List (List SatLit)) (hints : List ℕ) (made : List SatLit) → list_all (is_present part) hints ≡ true → hint_fault ((present_formula part).clauses ++ taken) made hints ≡ hint_fault (query_clauses part.graphs part.query ++ taken) made hints
hints_same part taken [] made present = refl
hints_same part taken (hint ∷ hints) made present =
    let parts = and_parts (is_present part hint) (list_all (is_present part) hints) present in
    let whole = query_clauses part.graphs part.query ++ taken in
    let by_part = (present_formula part).clauses ++ taken in
    let count : length by_part ≡ length whole = omega (arith, length-append (present_formula part).clauses taken, length-append (query_clauses part.graphs part.query) taken, present_count part) in
    let none : Option LineFault = Some fault.UnknownHint in
    let go : List (List SatLit) → SatLit → Option LineFault = λ clauses l. hint_fault clauses (made ++ l ∷ []) hints in
    ap (λ n. cond (nat_lt hint n) (fault_after (effect_of made (clause_at by_part hint)) hints (go by_part)) none) count
    ∙ (ap (λ c. cond (nat_lt hint (length whole)) (fault_after (effect_of made c) hints (go by_part)) none) (hint_present part taken hint parts.0)
    ∙ ap (λ f. cond (nat_lt hint (length whole)) f none) (after_same (effect_of made (clause_at whole hint)) hints (go by_part) (go whole) (λ l. hints_same part taken hints (made ++ l ∷ []) parts.1)))

pub present_fault : (part : PartialQuery) (taken : List (List SatLit)) (line : LogLine) → list_all (is_present part) line.hints ≡ true → line_fault (present_formula part) taken line ≡ line_fault (formula_of part.graphs part.query) taken line
present_fault part taken line present =
    let variables = (formula_of part.graphs part.query).variables in
    ap (λ f. cond (list_any is_empty taken) (Some fault.Closed) (cond (not (list_all (λ literal. nat_lt (variable_of literal) variables) line.clause)) (Some fault.UnknownVariable) (cond (repeats_variable line.clause) (Some fault.TwiceVariable) f)))
    (hints_same part taken line.hints (map opposite line.clause) present)

-- ---- which clauses are present

pub all_present : (part : PartialQuery) (ids : List ℕ) → part.whole ≡ true → list_all (is_present part) ids ≡ true
all_present part [] is = refl
all_present part (id ∷ ids) is =
    let marked = is_of_marked (left_gates part.graphs part.query) part.marked id in
    ap (λ b. (b || marked) && list_all (is_present part) ids) is ∙ all_present part ids is

-- ---- the cone's gates are marked, and no others

pub marked_listed : (count : ℕ) (gates : List ℕ) (t : ℕ) → t < count → Contains gates t → bit (listed_marks count gates) t ≡ true
marked_listed count gates t below has =
    listed_at count gates t below ∙ list_any_at (nat_eq t) gates has.0 t has.1 (ap (nat_eq t) has.2 ∙ eq-eqb t t refl)

pub cone_marked : (net : Net) (k : ℕ) (gates : List ℕ) (marked : List Bool) (t : ℕ) → IsMarkedCone net k gates marked → ReachesGate net k t → bit marked t ≡ true
cone_marked net k gates marked t cone reached =
    let listed = (cone.are.reached t).1 reached in
    let there : t < length net.gates = subst (λ g. g < length net.gates) listed.2 (cone.are.there listed.0 t listed.1) in
    ap (λ m. bit m t) cone.marks ∙ marked_listed (length net.gates) gates t there listed

listed_marked : (count : ℕ) (gates : List ℕ) (t : ℕ) → t < count → bit (listed_marks count gates) t ≡ true → Contains gates t
listed_marked count gates t below is =
    let any = Any-from_list_any (nat_eq t) gates (sym (listed_at count gates t below) ∙ is) in
    (any.0, any.2, get_or_default gates any.0 t any.1 any.2 ∙ (any.3 ∙ sym (eqb-true t any.1 any.4)))

-- a clause that is of a marked gate, of variable 0 or of an output belongs to the cones
marked_id : (graphs : Graphs) (query : Query) (gates : List ℕ) (marked : List Bool) (id : ℕ) → left_gates graphs query ≡ right_gates graphs query → IsMarkedCone (circuit_of graphs query.left) query.left.output gates marked → IsMarkedCone (circuit_of graphs query.right) query.right.output gates marked → id < length (query_clauses graphs query) → is_of_marked (left_gates graphs query) marked id ≡ true → IsConeId graphs query id
marked_id graphs query gates marked id same left right there is =
    elim (eqb_tells id 0) [
      | inl (found, zero_is) ↦ inl zero_is
      | inr (not_zero, some) ↦
          elim (cases_lt (6 * g) id) [
            | inl beyond ↦ inr (inr (inr (outputs beyond)))
            | inr low ↦
                of_gate some low (sym (ap (λ t. t || (nat_lt (6 * g) id || bit marked (gate_of g id))) not_zero ∙ ap (λ t. t || bit marked (gate_of g id)) (le-ltb (6 * g) id low)) ∙ is)
          ]
    ]
  where
    g : ℕ
    g = left_gates graphs query

    outputs : 6 * g < id → (id ≡ 1 + 3 * (left_gates graphs query + right_gates graphs query)) ⊎ (id ≡ 2 + 3 * (left_gates graphs query + right_gates graphs query))
    outputs beyond =
        elim (eqb_tells id (1 + 6 * g)) [
          | inl (found, at) ↦ inl (omega (arith, at, same))
          | inr (other, apart) ↦ inr (last apart)
        ]
      where
        last : (id ≡ 1 + 6 * g → ⊥) → id ≡ 2 + 3 * (left_gates graphs query + right_gates graphs query)
        last apart =
            elim (cases_lt (1 + 6 * g) id) [
              | inl above ↦ omega (arith, above, same, there, count_of graphs query)
              | inr below ↦ absurd (apart (omega (arith, below, beyond)))
            ]

    in_left : (t : ℕ) → t < g → bit marked t ≡ true → ReachesGate (circuit_of graphs query.left) query.left.output t
    in_left t below has = (left.are.reached t).0 (listed_marked g gates t below (subst (λ m. bit m t ≡ true) left.marks has))

    in_right : (t : ℕ) → t < g → bit marked t ≡ true → ReachesGate (circuit_of graphs query.right) query.right.output t
    in_right t below has =
        (right.are.reached t).0 (listed_marked (right_gates graphs query) gates t (omega (arith, below, same)) (subst (λ m. bit m t ≡ true) right.marks has))

    of_gate : (id ≡ 0 → ⊥) → id ≤ 6 * g → bit marked (gate_of g id) ≡ true → IsConeId graphs query id
    of_gate some low has =
        elim (cases_lt (id - 1) (3 * g)) [
          | inl first ↦
              let t = (id - 1) / 3 in
              let at : gate_of g id ≡ t = ap (λ b. cond b ((id - 1) / 3) ((id - 1 - 3 * g) / 3)) (lt-ltb (id - 1) (3 * g) first) in
              inr (inl (record {
                gate = t;
                reached = in_left t (omega (arith, first)) (sym (ap (bit marked) at) ∙ has);
                from = from_left;
                to = omega arith;
              }))
          | inr after ↦
              let t = (id - 1 - 3 * g) / 3 in
              let at : gate_of g id ≡ t = ap (λ b. cond b ((id - 1) / 3) ((id - 1 - 3 * g) / 3)) (le-ltb (id - 1) (3 * g) after) in
              inr (inr (inl (record {
                gate = t;
                reached = in_right t (omega (arith, low, after)) (sym (ap (bit marked) at) ∙ has);
                from = omega (arith, after);
                to = omega (arith, after);
              })))
        ]
      where
        positive : 1 ≤ id
        positive = elim (cases_lt 0 id) [ inl above ↦ omega (arith, above) | inr none ↦ absurd (some (omega (arith, none))) ]

        from_left : 1 + 3 * ((id - 1) / 3) ≤ id
        from_left = omega (arith, positive)

-- ---- and so they are the clauses over the variables

pub cone_fits : (graphs : Graphs) (query : Query) (left right : Variables) (gates : List ℕ) (marked : List Bool) (whole : Bool) → IsPartialQuery graphs query left right gates marked whole → IsQuery graphs query
cone_fits graphs query left right gates marked whole part =
    subst (IsQuery graphs) (sym part.asks) (claim_query_fits graphs part.claim part.placed)

pub partial_clause : (graphs : Graphs) (query : Query) (left right : Variables) (gates : List ℕ) (marked : List Bool) (whole : Bool) (id : ℕ) → IsOrdered (circuit_of graphs query.left) → IsOrdered (circuit_of graphs query.right) → IsPartialQuery graphs query left right gates marked whole → id < length (query_clauses graphs query) → is_present (record { graphs = graphs; query = query; marked = marked; whole = whole }) id ≡ true → clause_at (clauses_over graphs query left right) id ≡ clause_at (query_clauses graphs query) id
partial_clause graphs query left right gates marked true id one other part there is =
    ap (λ cs. clause_at cs id) (clauses_are graphs query left right part.left_is (part.of_all refl))
partial_clause graphs query left right gates marked false id one other part there is =
    let in_left : IsMarkedCone (circuit_of graphs query.left) query.left.output gates marked = subst (λ (q : Query). IsMarkedCone (circuit_of graphs q.left) q.left.output gates marked) (sym part.asks) part.cone in
    let in_right : IsMarkedCone (circuit_of graphs query.right) query.right.output gates marked = subst (λ (q : Query). IsMarkedCone (circuit_of graphs q.right) q.right.output gates marked) (sym part.asks) part.cone in
    let same : left_gates graphs query ≡ right_gates graphs query = subst (λ (q : Query). left_gates graphs q ≡ right_gates graphs q) (sym part.asks) refl in
    let ids = 0 ∷ (gate_ids 1 gates ++ (gate_ids (1 + 3 * left_gates graphs query) gates ++ (1 + 3 * (left_gates graphs query + right_gates graphs query)) ∷ (2 + 3 * (left_gates graphs query + right_gates graphs query)) ∷ [])) in
    cone_clause graphs query left right ids id one other (record {
      fits = cone_fits graphs query left right gates marked false part;
      left_is = part.left_is;
      right_is = part.of_cone refl;
      left_fits = part.left_fits;
      right_fits = part.right_fits;
      are = cone_ids_are graphs query gates gates in_left.are in_right.are;
    }) (marked_id graphs query gates marked id same in_left in_right there is)

pub present_value : (graphs : Graphs) (query : Query) (left right : Variables) (gates : List ℕ) (marked : List Bool) (whole : Bool) (id : ℕ) → IsOrdered (circuit_of graphs query.left) → IsOrdered (circuit_of graphs query.right) → IsPartialQuery graphs query left right gates marked whole → id < length (query_clauses graphs query) → is_present (record { graphs = graphs; query = query; marked = marked; whole = whole }) id ≡ true → clause_at (clauses_over graphs query left right) id ≡ clause_at (present_formula (record { graphs = graphs; query = query; marked = marked; whole = whole })).clauses id
present_value graphs query left right gates marked whole id one other part there is =
    let t : PartialQuery = record { graphs = graphs; query = query; marked = marked; whole = whole } in
    partial_clause graphs query left right gates marked whole id one other part there is ∙ sym (present_at t id there ∙ present_is t id is)

pub absent_value : (part : PartialQuery) (id : ℕ) → id < length (query_clauses part.graphs part.query) → is_present part id ≡ false → true_literal ∷ [] ≡ clause_at (present_formula part).clauses id
absent_value part id there is =
    sym (present_at part id there ∙ ap (λ b. cond b (clause_at (query_clauses part.graphs part.query) id) (true_literal ∷ [])) is)

pub present_below : (part : PartialQuery) (id : ℕ) → IsQuery part.graphs part.query → id < length (query_clauses part.graphs part.query) → All (λ l. variable_of l < (present_formula part).variables) (clause_at (present_formula part).clauses id)
present_below part id fits there =
    subst (All (λ l. variable_of l < (present_formula part).variables)) (sym (present_at part id there)) (by_case (is_present part id))
  where
    by_case : (b : Bool) → All (λ l. variable_of l < (present_formula part).variables) (cond b (clause_at (query_clauses part.graphs part.query) id) (true_literal ∷ []))
    by_case true = clause_below part.graphs part.query id fits
    by_case false = All-push (λ l. variable_of l < (present_formula part).variables) [] true_literal (λ k d within. absurd (omega (arith, within))) (omega (arith, variable_of-literal 0 true))

-- there is a mark for each gate
pub marks_count : (graphs : Graphs) (query : Query) (left right : Variables) (gates : List ℕ) (marked : List Bool) (whole : Bool) → IsPartialQuery graphs query left right gates marked whole → length marked ≡ left_gates graphs query
marks_count graphs query left right gates marked whole part =
    ap length part.cone.marks
    ∙ (length-listed (length (graph_of graphs part.claim.side).gates) gates ∙ sym (ap (λ (q : Query). left_gates graphs q) part.asks))
