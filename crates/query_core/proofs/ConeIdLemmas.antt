-- The numbers of the clauses that belong to the cones, in ascending order.
use Rattle.std.proofs.Common.{slice_index_or, ◌/◌, ◌%◌, ◌≡◌, ◌⊎◌, ◌↔◌, ℕ, zero, suc, ◌+◌, ◌*◌, ◌-◌, ◌<◌, ◌≤◌, List, [], ◌∷◌, ◌++◌, length, All, AllPairs, Contains, inl, inr, refl, sym, ap, subst, ◌∙◌, arith}
use Rattle.std.proofs.lemmas.List.Elements.{Contains-get_or, Contains-append_left, Contains-append_right, Contains-append_cases}
use Rattle.std.proofs.lemmas.List.{append_assoc}
use Rattle.circuits.specs.Netlists.{Net}
use Rattle.net_core.specs.Sides.{Graphs}
use Rattle.claim_core.specs.declared.query.Query.{Query}
use Rattle.claim_core.specs.Queries.{circuit_of}
use Rattle.claim_core.specs.ConeClauses.{AreConeIds, AreReached, IsConeId, IsOfReachedGate, gate_ids, left_gates, right_gates}
use Rattle.claim_core.proofs.FormulaLemmas.{count_of}
use Rattle.circuits.proofs.Lists.{cons_cases, contains_cons}

-- numbers from `low` on ascend, and stay below `high`
abbrev Ascends : ℕ → ℕ → List ℕ → Type 0
Ascends low high [] = low ≤ high
Ascends low high (x ∷ xs) = (low ≤ x) × Ascends (x + 1) high xs

lower : (less low high : ℕ) (xs : List ℕ) → less ≤ low → Ascends low high xs → Ascends less high xs
lower less low high [] le ascends = omega (arith, le, ascends)
lower less low high (x ∷ xs) le ascends = (omega (arith, le, ascends.0), ascends.1)

joined : (low middle high : ℕ) (xs ys : List ℕ) → Ascends low middle xs → Ascends middle high ys → Ascends low high (xs ++ ys)
joined low middle high [] ys first second = lower low middle high ys first second
joined low middle high (x ∷ xs) ys first second = (first.0, joined (x + 1) middle high xs ys first.1 second)

-- so do pairs, and all are within
above : (low high : ℕ) (xs : List ℕ) → Ascends low high xs → All (λ x. low ≤ x) xs
above low high [] ascends k d within = absurd (omega (arith, within))
above low high (x ∷ xs) ascends zero d within = ascends.0
above low high (x ∷ xs) ascends (suc k) d within =
    omega (arith, ascends.0, above (x + 1) high xs ascends.1 k d (omega (arith, within)))

bounded : (low high : ℕ) (xs : List ℕ) → Ascends low high xs → low ≤ high
bounded low high [] ascends = ascends
bounded low high (x ∷ xs) ascends = omega (arith, ascends.0, bounded (x + 1) high xs ascends.1)

below : (low high : ℕ) (xs : List ℕ) → Ascends low high xs → All (λ x. x < high) xs
below low high [] ascends k d within = absurd (omega (arith, within))
below low high (x ∷ xs) ascends zero d within = omega (arith, bounded (x + 1) high xs ascends.1)
below low high (x ∷ xs) ascends (suc k) d within = below (x + 1) high xs ascends.1 k d (omega (arith, within))

in_pairs : (low high : ℕ) (xs : List ℕ) → Ascends low high xs → AllPairs (λ one other. one < other) xs
in_pairs low high [] ascends i j d before within = absurd (omega (arith, within))
in_pairs low high (x ∷ xs) ascends i zero d before within = absurd (omega (arith, before))
in_pairs low high (x ∷ xs) ascends zero (suc j) d before within =
    omega (arith, above (x + 1) high xs ascends.1 j d (omega (arith, within)))
in_pairs low high (x ∷ xs) ascends (suc i) (suc j) d before within =
    in_pairs (x + 1) high xs ascends.1 i j d (omega (arith, before)) (omega (arith, within))

from_pairs : (low high : ℕ) (xs : List ℕ) → low ≤ high → AllPairs (λ one other. one < other) xs → All (λ x. low ≤ x) xs → All (λ x. x < high) xs → Ascends low high xs
from_pairs low high [] le pairs least most = le
from_pairs low high (x ∷ xs) le pairs least most =
    let top : x < high = most 0 x (omega arith) in
    let after : All (λ y. x + 1 ≤ y) xs = λ k d within. omega (arith, pairs 0 (suc k) d (omega arith) (omega (arith, within))) in
    (least 0 x (omega arith), from_pairs (x + 1) high xs (omega (arith, top)) (λ i j d before within. pairs (suc i) (suc j) d (omega (arith, before)) (omega (arith, within))) after (λ k d within. most (suc k) d (omega (arith, within))))

-- the numbers of the clauses of gates that ascend
ids_ascend : (first low high : ℕ) (gates : List ℕ) → Ascends low high gates → Ascends (first + 3 * low) (first + 3 * high) (gate_ids first gates)
ids_ascend first low high [] ascends = omega (arith, ascends)
ids_ascend first low high (t ∷ gates) ascends =
    let rest = ids_ascend first (t + 1) high gates ascends.1 in
    (omega (arith, ascends.0), (omega arith, (omega arith, lower (first + 3 * t + 2 + 1) (first + 3 * (t + 1)) (first + 3 * high) (gate_ids first gates) (omega arith) rest)))

contains-head : (x : ℕ) (xs : List ℕ) (y : ℕ) → y ≡ x → Contains (x ∷ xs) y
contains-head x xs y same = (0, omega arith, sym same)

-- the three numbers of the gate at place k stand from place 3k on
ids_count : (first : ℕ) (gates : List ℕ) → length (gate_ids first gates) ≡ 3 * length gates
ids_count first [] = refl
ids_count first (t ∷ gates) = omega (arith, ids_count first gates)

ids_at : (first : ℕ) (gates : List ℕ) (k r d e : ℕ) → k < length gates → r < 3 → slice_index_or (gate_ids first gates) (3 * k + r) d ≡ first + 3 * slice_index_or gates k e + r
ids_at first [] k r d e within small = absurd (omega (arith, within))
ids_at first (t ∷ gates) zero r d e within small =
    let at : 3 * 0 + r ≡ r = omega arith in
    ap (λ n. slice_index_or (gate_ids first (t ∷ gates)) n d) at ∙ front r small
  where
    front : (r : ℕ) → r < 3 → slice_index_or (gate_ids first (t ∷ gates)) r d ≡ first + 3 * t + r
    front zero small = omega arith
    front (suc zero) small = omega arith
    front (suc (suc zero)) small = omega arith
    front (suc (suc (suc r))) small = absurd (omega (arith, small))
ids_at first (t ∷ gates) (suc k) r d e within small =
    let at : 3 * suc k + r ≡ suc (suc (suc (3 * k + r))) = omega arith in
    ap (λ n. slice_index_or (gate_ids first (t ∷ gates)) n d) at ∙ ids_at first gates k r d e (omega (arith, within)) small

-- the numbers of the clauses of the gates that an output reaches
reached_ascend : (net : Net) (k first : ℕ) (gates : List ℕ) → AreReached net k gates → Ascends first (first + 3 * length net.gates) (gate_ids first gates)
reached_ascend net k first gates are =
    lower first (first + 3 * 0) (first + 3 * length net.gates) (gate_ids first gates) (omega arith) (ids_ascend first 0 (length net.gates) gates (from_pairs 0 (length net.gates) gates (omega arith) are.ascending (λ k d within. omega arith) are.there))

reached_ids : (net : Net) (k first : ℕ) (gates : List ℕ) (id : ℕ) → AreReached net k gates → Contains (gate_ids first gates) id ↔ IsOfReachedGate net k first id
reached_ids net k first gates id are = (of, has)
  where
    of : Contains (gate_ids first gates) id → IsOfReachedGate net k first id
    of (j, within, is) =
        let there : j / 3 < length gates = omega (arith, within, ids_count first gates) in
        let whole : j ≡ 3 * (j / 3) + j % 3 = omega arith in
        let at : id ≡ first + 3 * slice_index_or gates (j / 3) 0 + j % 3 = sym is ∙ (ap (λ n. slice_index_or (gate_ids first gates) n id) whole ∙ ids_at first gates (j / 3) (j % 3) id 0 there (omega arith)) in
        record {
          gate = slice_index_or gates (j / 3) 0;
          reached = (are.reached (slice_index_or gates (j / 3) 0)).0 (Contains-get_or gates (j / 3) 0 there);
          from = omega (arith, at);
          to = omega (arith, at);
        }

    has : IsOfReachedGate net k first id → Contains (gate_ids first gates) id
    has of =
        let r = id - (first + 3 * of.gate) in
        let listed = (are.reached of.gate).1 of.reached in
        let small : r < 3 = omega (arith, of.from, of.to) in
        (3 * listed.0 + r, omega (arith, listed.1, small, ids_count first gates), ids_at first gates listed.0 r id of.gate listed.1 small ∙ omega (arith, listed.2, of.from))

-- all numbers of the cones
pub cone_ids_are : (graphs : Graphs) (query : Query) (left right : List ℕ) → AreReached (circuit_of graphs query.left) query.left.output left → AreReached (circuit_of graphs query.right) query.right.output right → AreConeIds graphs query (0 ∷ (gate_ids 1 left ++ (gate_ids (1 + 3 * left_gates graphs query) right ++ (1 + 3 * (left_gates graphs query + right_gates graphs query)) ∷ (2 + 3 * (left_gates graphs query + right_gates graphs query)) ∷ [])))
cone_ids_are graphs query left right of_left of_right = record {
  ascending = in_pairs 0 (3 + 3 * (l + r)) all ascends;
  there = λ k d within. omega (arith, below 0 (3 + 3 * (l + r)) all ascends k d within, count_of graphs query);
  cones = λ id. (to_cone id, from_cone id);
}
  where
    l : ℕ
    l = left_gates graphs query

    r : ℕ
    r = right_gates graphs query

    outputs : List ℕ
    outputs = (1 + 3 * (l + r)) ∷ (2 + 3 * (l + r)) ∷ []

    lefts : List ℕ
    lefts = gate_ids 1 left

    rights : List ℕ
    rights = gate_ids (1 + 3 * l) right

    all : List ℕ
    all = 0 ∷ (lefts ++ (rights ++ outputs))

    ascends : Ascends 0 (3 + 3 * (l + r)) all
    ascends =
        let last : Ascends (1 + 3 * l + 3 * r) (3 + 3 * (l + r)) outputs = (omega arith, (omega arith, omega arith)) in
        (omega arith, joined 1 (1 + 3 * l) (3 + 3 * (l + r)) lefts (rights ++ outputs) (reached_ascend (circuit_of graphs query.left) query.left.output 1 left of_left) (joined (1 + 3 * l) (1 + 3 * l + 3 * r) (3 + 3 * (l + r)) rights outputs (reached_ascend (circuit_of graphs query.right) query.right.output (1 + 3 * l) right of_right) last))

    to_cone : (id : ℕ) → Contains all id → IsConeId graphs query id
    to_cone id has =
        elim (cons_cases (lefts ++ (rights ++ outputs)) 0 id has) [
          | inl e ↦ inl (sym e)
          | inr more ↦
              elim (Contains-append_cases lefts (rights ++ outputs) id more) [
                | inl in_left ↦ inr (inl ((reached_ids (circuit_of graphs query.left) query.left.output 1 left id of_left).0 in_left))
                | inr after ↦
                    elim (Contains-append_cases rights outputs id after) [
                      | inl in_right ↦ inr (inr (inl ((reached_ids (circuit_of graphs query.right) query.right.output (1 + 3 * l) right id of_right).0 in_right)))
                      | inr last ↦ inr (inr (inr (one_output id last)))
                    ]
              ]
        ]
      where
        one_output : (id : ℕ) → Contains outputs id → (id ≡ 1 + 3 * (l + r)) ⊎ (id ≡ 2 + 3 * (l + r))
        one_output id has =
            elim (cons_cases ((2 + 3 * (l + r)) ∷ []) (1 + 3 * (l + r)) id has) [
              | inl e ↦ inl (sym e)
              | inr more ↦ elim (cons_cases [] (2 + 3 * (l + r)) id more) [ inl e ↦ inr (sym e) | inr none ↦ absurd (omega (arith, none.1)) ]
            ]

    from_cone : (id : ℕ) → IsConeId graphs query id → Contains all id
    from_cone id (inl e) = contains-head 0 (lefts ++ (rights ++ outputs)) id e
    from_cone id (inr (inl of)) =
        contains_cons (lefts ++ (rights ++ outputs)) 0 id (Contains-append_left lefts (rights ++ outputs) id ((reached_ids (circuit_of graphs query.left) query.left.output 1 left id of_left).1 of))
    from_cone id (inr (inr (inl of))) =
        contains_cons (lefts ++ (rights ++ outputs)) 0 id (Contains-append_right lefts (rights ++ outputs) id (Contains-append_left rights outputs id ((reached_ids (circuit_of graphs query.right) query.right.output (1 + 3 * l) right id of_right).1 of)))
    from_cone id (inr (inr (inr (inl e)))) =
        contains_cons (lefts ++ (rights ++ outputs)) 0 id (Contains-append_right lefts (rights ++ outputs) id (Contains-append_right rights outputs id (contains-head (1 + 3 * (l + r)) ((2 + 3 * (l + r)) ∷ []) id e)))
    from_cone id (inr (inr (inr (inr e)))) =
        contains_cons (lefts ++ (rights ++ outputs)) 0 id (Contains-append_right lefts (rights ++ outputs) id (Contains-append_right rights outputs id (contains_cons ((2 + 3 * (l + r)) ∷ []) (1 + 3 * (l + r)) id (contains-head (2 + 3 * (l + r)) [] id e))))

-- the same, as they are added one after the other
pub built_are : (graphs : Graphs) (query : Query) (left right ids : List ℕ) (first last : ℕ) → AreReached (circuit_of graphs query.left) query.left.output left → AreReached (circuit_of graphs query.right) query.right.output right → first ≡ 1 + 3 * left_gates graphs query → last ≡ 1 + 3 * (left_gates graphs query + right_gates graphs query) → ids ≡ ((((0 ∷ []) ++ gate_ids 1 left) ++ gate_ids first right) ++ last ∷ []) ++ (last + 1) ∷ [] → AreConeIds graphs query ids
built_are graphs query left right ids first last of_left of_right first_is last_is ids_are =
    subst (AreConeIds graphs query) (sym (ids_are ∙ (in_row (0 ∷ gate_ids 1 left) (gate_ids first right) ∙ (ap (λ n. row n last (last + 1)) first_is ∙ (ap (λ n. row (1 + 3 * l) n (last + 1)) last_is ∙ ap (λ n. row (1 + 3 * l) (1 + 3 * (l + r)) n) next))))) (cone_ids_are graphs query left right of_left of_right)
  where
    l : ℕ
    l = left_gates graphs query

    r : ℕ
    r = right_gates graphs query

    row : ℕ → ℕ → ℕ → List ℕ
    row n one other = 0 ∷ (gate_ids 1 left ++ (gate_ids n right ++ one ∷ other ∷ []))

    next : last + 1 ≡ 2 + 3 * (l + r)
    next = omega (arith, last_is)

    in_row : (xs ys : List ℕ) → ((xs ++ ys) ++ last ∷ []) ++ (last + 1) ∷ [] ≡ xs ++ (ys ++ last ∷ (last + 1) ∷ [])
    in_row xs ys = append_assoc (xs ++ ys) (last ∷ []) ((last + 1) ∷ []) ∙ append_assoc xs ys (last ∷ (last + 1) ∷ [])
