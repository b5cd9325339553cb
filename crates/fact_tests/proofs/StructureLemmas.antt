-- The clauses of a claim whose inputs the output doesn't reach: those of the two outputs contradict each other.
use Rattle.std.proofs.Common.{◌≡◌, ◌≢◌, ◌⊎◌, ℕ, zero, suc, ◌+◌, ◌*◌, ◌<◌, eqb, cond, ◌||◌, ◌&&◌, not, Bool, true, false, None, List, [], ◌∷◌, ◌++◌, length, take, slice_index_or, inl, inr, refl, sym, ap, ◌∙◌, arith, eq-eqb}
use Rattle.std.specs.Bool.{beq}
use Rattle.std.proofs.lemmas.Bool.{cases_eq, cases_lt, false_from_ne_true, false≢true, or_cases, or_left, or_right}
use Rattle.std.proofs.lemmas.List.{get_or_append_left, get_or_past, get_or_push, get_or-set_other, length_push, append-nil}
use Rattle.std.proofs.lemmas.List.FromFn.{get_or-map-range_with_len, length-map-range_with_len}
use Rattle.circuits.specs.declared.netlist.Gate.{Gate}
use Rattle.circuits.specs.declared.netlist.Lit.{Lit}
use Rattle.circuits.specs.Literals.{bit, signal_of, is_negated as inverts}
use Rattle.circuits.specs.Netlists.{Net}
use Rattle.cnf_core.specs.declared.literal.SatLit.{SatLit}
use Rattle.cnf_core.specs.declared.log.LogLine.{LogLine}
use Rattle.cnf_core.specs.declared.effect.Effect.TheVariants.{Conflict}
use Rattle.cnf_core.specs.Clauses.{Formula, clause_at, opposite}
use Rattle.cnf_core.specs.Derivations.{IsRefutation, clauses_of, effect_of, hint_fault, line_fault}
use Rattle.cnf_core.proofs.EffectLemmas.{conflict_from}
use Rattle.cnf_core.proofs.LiteralLemmas.{opposite_twice, same_from}
use Rattle.cnf_core.proofs.HintLemmas.{step_conflict, step_makes}
use Rattle.net_core.specs.Sides.{Graphs}
use Rattle.net_core.specs.declared.graphs.Side.{Side}
use Rattle.net_core.specs.declared.graphs.Side.TheVariants.{First, Second}
use Rattle.net_core.specs.Cones.{output_signal}
use Rattle.net_core.specs.Sides.{graph_of}
use Rattle.claim_core.specs.declared.claims.Claim.{Claim}
use Rattle.claim_core.specs.declared.claims.Shape.{Shape}
use Rattle.claim_core.specs.declared.claims.Shape.TheVariants.{Up, Down, Swap}
use Rattle.claim_core.specs.declared.query.Feed.{Feed}
use Rattle.claim_core.specs.declared.query.Feed.TheVariants.{Fixed, Wire}
use Rattle.claim_core.specs.declared.query.Query.{Query}
use Rattle.claim_core.specs.Queries.{IsQuery}
use Rattle.claim_core.specs.MatchQueries.{straight}
use Rattle.claim_core.specs.ClaimQueries.{claim_query, opposite_shape, values_feed, with_fixed}
use Rattle.claim_core.specs.Formulas.{feeds_differ, formula_of, query_clauses, reaching, same_feed, same_side, stand_in, stands_for, left_literals, right_literals, half_clauses}
use Rattle.claim_core.proofs.ClaimQueryLemmas.{values_count}
use Rattle.claim_core.proofs.EqualLemmas.{bool_decides}
use Rattle.query_core.proofs.ReachingLemmas.{differ_at}
use Rattle.net_core.proofs.ConeLemmas.{within_bit}
use Rattle.claim_core.proofs.FormulaLemmas.{count_of, first_output, second_output, gate_clause_count, length-feeds_differ}
use Rattle.sim_signature.specs.Supports.{only_input, output_reaches}
use Rattle.fact_tests.specs.Supports.{IsOutside, closing_line}
use Rattle.joint_hash.proofs.SharedLemmas.{same_literals}
use Rattle.sim_signature.specs.Sightings.{first_of, last_of}

-- ---- what reaches what

-- what one list marks, one of two others marks
abbrev Covered : List Bool → List Bool → List Bool → Type 0
Covered xs ys zs = (s : ℕ) → bit xs s ≡ true → (bit ys s ≡ true) ⊎ (bit zs s ≡ true)

-- a mark at the end
pushed_cases : (xs : List Bool) (b : Bool) (s : ℕ) → bit (xs ++ b ∷ []) s ≡ true → (bit xs s ≡ true) ⊎ ((s ≡ length xs) × (b ≡ true))
pushed_cases xs b s is =
    elim (cases_lt s (length xs)) [
      | inl less ↦ inl (sym (get_or_append_left xs (b ∷ []) false s less) ∙ is)
      | inr past ↦
          let end : s ≡ length xs = omega (arith, past, within_bit (xs ++ b ∷ []) s is, length_push xs b) in
          inr (end, sym (get_or_push xs b false s (sym end)) ∙ is)
    ]

marked_before : (xs : List Bool) (b : Bool) (s : ℕ) → bit xs s ≡ true → bit (xs ++ b ∷ []) s ≡ true
marked_before xs b s is = get_or_append_left xs (b ∷ []) false s (within_bit xs s is) ∙ is

marked_last : (xs : List Bool) (b : Bool) (s : ℕ) → s ≡ length xs → b ≡ true → bit (xs ++ b ∷ []) s ≡ true
marked_last xs b s end is = get_or_push xs b false s (sym end) ∙ is

-- the mark that a gate gets
abbrev pub operand_marked : List Bool → Gate → Bool
operand_marked marks gate = bit marks (signal_of gate.a) || bit marks (signal_of gate.b)

operands_covered : (xs ys zs : List Bool) (gate : Gate) → Covered xs ys zs → operand_marked xs gate ≡ true → (operand_marked ys gate ≡ true) ⊎ (operand_marked zs gate ≡ true)
operands_covered xs ys zs gate covered is =
    let a = signal_of gate.a in
    let b = signal_of gate.b in
    elim (or_cases (bit xs a) (bit xs b) is) [
      | inl p ↦ elim (covered a p) [ inl q ↦ inl (or_left (bit ys a) (bit ys b) q) | inr q ↦ inr (or_left (bit zs a) (bit zs b) q) ]
      | inr p ↦ elim (covered b p) [ inl q ↦ inl (or_right (bit ys a) (bit ys b) q) | inr q ↦ inr (or_right (bit zs a) (bit zs b) q) ]
    ]

covered_more : (xs ys zs : List Bool) (gate : Gate) → length ys ≡ length xs → length zs ≡ length xs → Covered xs ys zs → Covered (xs ++ operand_marked xs gate ∷ []) (ys ++ operand_marked ys gate ∷ []) (zs ++ operand_marked zs gate ∷ [])
covered_more xs ys zs gate l m covered s is =
    elim (pushed_cases xs (operand_marked xs gate) s is) [
      | inl old ↦ elim (covered s old) [
        | inl q ↦ inl (marked_before ys (operand_marked ys gate) s q)
        | inr q ↦ inr (marked_before zs (operand_marked zs gate) s q)
      ]
      | inr last ↦ elim (operands_covered xs ys zs gate covered last.1) [
        | inl q ↦ inl (marked_last ys (operand_marked ys gate) s (last.0 ∙ sym l) q)
        | inr q ↦ inr (marked_last zs (operand_marked zs gate) s (last.0 ∙ sym m) q)
      ]
    ]

covered_through : (xs ys zs : List Bool) (gates : List Gate) → length ys ≡ length xs → length zs ≡ length xs → Covered xs ys zs → Covered (reaching xs gates) (reaching ys gates) (reaching zs gates)
covered_through xs ys zs [] l m covered = covered
covered_through xs ys zs (gate ∷ gates) l m covered =
    let x = operand_marked xs gate in
    let y = operand_marked ys gate in
    let z = operand_marked zs gate in
    covered_through (xs ++ x ∷ []) (ys ++ y ∷ []) (zs ++ z ∷ []) gates (omega (arith, l, length_push xs x, length_push ys y)) (omega (arith, m, length_push xs x, length_push zs z)) (covered_more xs ys zs gate l m covered)

-- ---- the feeds of a claim's query

-- which inputs of a claim's query get other feeds on one side than on the other
abbrev differing : ℕ → Shape → List Bool
differing n shape = feeds_differ (values_feed n shape) (values_feed n (opposite_shape shape))

counts_same : (n : ℕ) (shape : Shape) → length (values_feed n shape) ≡ length (values_feed n (opposite_shape shape))
counts_same n shape = values_count n shape ∙ sym (values_count n (opposite_shape shape))

length-differing : (n : ℕ) (shape : Shape) → length (differing n shape) ≡ n
length-differing n shape = length-feeds_differ (values_feed n shape) (values_feed n (opposite_shape shape)) (counts_same n shape) ∙ values_count n shape

same_self : (feed : Feed) → same_feed feed feed ≡ true
same_self (Fixed b) = (bool_decides b b).1 refl
same_self (Wire place flip) = ap (λ b. b && beq flip flip) (eq-eqb place place refl) ∙ (bool_decides flip flip).1 refl

-- input k isn't one of the shape's
abbrev pub IsApart : ℕ → Shape → Type 0
IsApart k (Up i) = k ≢ i
IsApart k (Down i) = k ≢ i
IsApart k (Swap i j a b) = (k ≢ i) × (k ≢ j)

apart_opposite : (k : ℕ) (shape : Shape) → IsApart k shape → IsApart k (opposite_shape shape)
apart_opposite k (Up i) apart = apart
apart_opposite k (Down i) apart = apart
apart_opposite k (Swap i j a b) apart = apart

-- such an input gets its own bit
pub own_bit : (n k : ℕ) (shape : Shape) (d : Feed) → IsApart k shape → slice_index_or (values_feed n shape) k d ≡ slice_index_or (straight n) k d
own_bit n k (Up i) d apart = get_or-set_other (straight n) i k (Fixed false) d apart
own_bit n k (Down i) d apart = get_or-set_other (straight n) i k (Fixed true) d apart
own_bit n k (Swap i j a b) d apart = get_or-set_other (with_fixed i a (straight n)) j k (Fixed b) d apart.1 ∙ get_or-set_other (straight n) i k (Fixed a) d apart.0

same_feeds : (n k : ℕ) (shape : Shape) → k < n → IsApart k shape → bit (differing n shape) k ≡ false
same_feeds n k shape below apart =
    let left = values_feed n shape in
    let right = values_feed n (opposite_shape shape) in
    let d : Feed = Fixed false in
    let same : slice_index_or left k d ≡ slice_index_or right k d = own_bit n k shape d apart ∙ sym (own_bit n k (opposite_shape shape) d (apart_opposite k shape apart)) in
    differ_at left right k d d (counts_same n shape) (omega (arith, below, values_count n shape)) ∙ (ap (λ f. not (same_feed f (slice_index_or right k d))) same ∙ ap not (same_self (slice_index_or right k d)))

pub only_at : (n i k : ℕ) → k < n → k ≡ i → bit (only_input n i) k ≡ true
only_at n i k below is =
    get_or-map-range_with_len (λ j. eqb j i) 0 n k k false below (omega arith) ∙ eq-eqb k i is

pub apart_from : (k : ℕ) (shape : Shape) → k ≢ first_of shape → k ≢ last_of shape → IsApart k shape
apart_from k (Up i) one other = one
apart_from k (Down i) one other = one
apart_from k (Swap i j a b) one other = (one, other)

feeds_covered : (n : ℕ) (shape : Shape) → Covered (false ∷ differing n shape) (false ∷ only_input n (first_of shape)) (false ∷ only_input n (last_of shape))
feeds_covered n shape zero is = absurd (false≢true is)
feeds_covered n shape (suc k) is =
    elim (cases_lt k n) [
      | inr past ↦ absurd (false≢true (sym (get_or_past (differing n shape) k false (omega (arith, past, length-differing n shape))) ∙ is))
      | inl below ↦
          elim (cases_eq k (first_of shape)) [
            | inl one ↦ inl (only_at n (first_of shape) k below one)
            | inr not_one ↦
                elim (cases_eq k (last_of shape)) [
                  | inl other ↦ inr (only_at n (last_of shape) k below other)
                  | inr not_other ↦ absurd (false≢true (sym (same_feeds n k shape below (apart_from k shape not_one not_other)) ∙ is))
                ]
          ]
    ]

pub length-only_input : (n i : ℕ) → length (only_input n i) ≡ n
length-only_input n i = length-map-range_with_len (λ k. eqb k i) 0 n

outside_both : (net : Net) (k : ℕ) (shape : Shape) → IsOutside net k shape → (output_reaches net k (first_of shape) ≡ false) × (output_reaches net k (last_of shape) ≡ false)
outside_both net k (Up i) outside = (outside, outside)
outside_both net k (Down i) outside = (outside, outside)
outside_both net k (Swap i j a b) outside = outside

-- the output's signal reaches no input whose feeds differ
pub unreached : (net : Net) (k : ℕ) (shape : Shape) → IsOutside net k shape → bit (reaching (false ∷ differing net.inputs shape) net.gates) (output_signal net k) ≡ false
unreached net k shape outside =
    let n = net.inputs in
    let size = length-differing n shape in
    let covered = covered_through (false ∷ differing n shape) (false ∷ only_input n (first_of shape)) (false ∷ only_input n (last_of shape)) net.gates (omega (arith, size, length-only_input n (first_of shape))) (omega (arith, size, length-only_input n (last_of shape))) (feeds_covered n shape) in
    let both = outside_both net k shape outside in
    false_from_ne_true (bit (reaching (false ∷ differing n shape) net.gates) (output_signal net k)) (λ is. elim (covered (output_signal net k) is) [
      | inl p ↦ false≢true (sym both.0 ∙ p)
      | inr p ↦ false≢true (sym both.1 ∙ p)
    ])

-- ---- the two clauses

-- two opposite clauses of one literal are a conflict
conflict_of : (l : SatLit) → effect_of (l ∷ []) (opposite l ∷ []) ≡ Conflict
conflict_of l =
    conflict_from (l ∷ []) (opposite l ∷ []) (ap (λ b. (b || false) && true) (same_from (opposite (opposite l)) l (opposite_twice l)))

units_hint : (clauses : List (List SatLit)) (unit : ℕ) (l : SatLit) → unit + 1 < length clauses → clause_at clauses unit ≡ l ∷ [] → clause_at clauses (unit + 1) ≡ opposite l ∷ [] → hint_fault clauses [] (unit ∷ (unit + 1) ∷ []) ≡ None
units_hint clauses unit l within one other =
    step_makes clauses [] unit ((unit + 1) ∷ []) l (omega (arith, within)) (ap (effect_of []) one) (step_conflict clauses (l ∷ []) (unit + 1) within (ap (effect_of (l ∷ [])) other ∙ conflict_of l))

pub units_close : (formula : Formula) (unit : ℕ) (l : SatLit) → unit + 1 < length formula.clauses → clause_at formula.clauses unit ≡ l ∷ [] → clause_at formula.clauses (unit + 1) ≡ opposite l ∷ [] → line_fault formula [] (record { clause = []; hints = unit ∷ (unit + 1) ∷ [] }) ≡ None
units_close formula unit l within one other =
    ap (λ cs. hint_fault cs [] (unit ∷ (unit + 1) ∷ [])) (append-nil formula.clauses) ∙ units_hint formula.clauses unit l within one other

side_same : (side : Side) → same_side side side ≡ true
side_same First = refl
side_same Second = refl

-- the log of a claim whose inputs the output doesn't reach
pub outside_refuted : (graphs : Graphs) (claim : Claim) → IsQuery graphs (claim_query graphs claim) → output_signal (graph_of graphs claim.side) claim.output < 1 + (graph_of graphs claim.side).inputs + length (graph_of graphs claim.side).gates → IsOutside (graph_of graphs claim.side) claim.output claim.shape → IsRefutation (formula_of graphs (claim_query graphs claim)) (closing_line graphs claim ∷ [])
outside_refuted graphs claim fits there outside = record {
  derived = λ k d below. at_line k d below;
  closed = refl;
}
  where
    net : Net
    net = graph_of graphs claim.side

    query : Query
    query = claim_query graphs claim

    gates : ℕ
    gates = length net.gates

    output : Lit
    output = slice_index_or net.outputs claim.output (record { 0 = 0 })

    left : List SatLit
    left = left_literals graphs query

    right : List SatLit
    right = right_literals graphs query

    stand : stand_in left (signal_of output) ≡ stand_in right (signal_of output)
    stand =
        let below : signal_of output < net.inputs + 1 + gates = omega (arith, there) in
        same_literals graphs query fits (side_same claim.side) (signal_of output) below (unreached net claim.output claim.shape outside)

    literal : SatLit
    literal = stands_for left output

    other_is : literal ≡ stands_for right output
    other_is = ap (λ x. cond (inverts output) (opposite x) x) stand

    lefts : List (List SatLit)
    lefts = half_clauses net left

    rights : List (List SatLit)
    rights = half_clauses net right

    unit : ℕ
    unit = 1 + 6 * gates

    left_size : length lefts ≡ 3 * gates
    left_size = gate_clause_count left (net.inputs + 1) net.gates

    right_size : length rights ≡ 3 * gates
    right_size = gate_clause_count right (net.inputs + 1) net.gates

    one : clause_at (query_clauses graphs query) unit ≡ literal ∷ []
    one = sym (first_output lefts rights literal (opposite (stands_for right output)) unit (omega arith) (omega (arith, left_size)) (omega (arith, left_size, right_size)))

    other : clause_at (query_clauses graphs query) (unit + 1) ≡ opposite literal ∷ []
    other = sym (second_output lefts rights literal (opposite (stands_for right output)) (unit + 1) (omega arith) (omega (arith, left_size)) (omega (arith, left_size, right_size))) ∙ ap (λ x. opposite x ∷ []) (sym other_is)

    at_line : (k : ℕ) (d : LogLine) → k < 1 → line_fault (formula_of graphs query) (clauses_of (take k (closing_line graphs claim ∷ []))) (slice_index_or (closing_line graphs claim ∷ []) k d) ≡ None
    at_line zero d below = units_close (formula_of graphs query) unit literal (omega (arith, count_of graphs query)) one other
    at_line (suc k) d below = absurd (omega (arith, below))
