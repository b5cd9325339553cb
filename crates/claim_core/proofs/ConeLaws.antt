-- What meets the clauses of the cones alone has a vector that is asked for: each signal that an output reaches has its bit.
use Rattle.std.proofs.Common.{[], ◌≡◌, ℕ, zero, suc, ◌+◌, ◌*◌, ◌-◌, ◌<◌, ◌&&◌, Bool, true, false, List, ◌∷◌, length, map, All, slice_index_or, inl, inr, refl, sym, ap, subst, ◌∙◌, replicate, arith}
use Rattle.std.proofs.lemmas.Bool.{cases_lt, false≢true}
use Rattle.std.proofs.lemmas.List.{get_or-map, get_or-replicate, get_or_past, length-map, length-replicate}
use Rattle.std.proofs.lemmas.List.FromFn.{length-range_with_len}
use Rattle.circuits.specs.declared.netlist.Lit.{Lit}
use Rattle.circuits.specs.declared.netlist.Gate.{Gate}
use Rattle.circuits.specs.Literals.{bit, differ, signal_of, is_negated as inverts, literal_bit as signal_bit}
use Rattle.circuits.specs.Netlists.{Net, IsOrdered, signals_of, valuation_of, function_of}
use Rattle.circuits.proofs.Valuations.{valuation_of-fits}
use Rattle.std.proofs.Math.Bool.{or-false}
use Rattle.cnf_core.specs.declared.literal.SatLit.{SatLit}
use Rattle.cnf_core.specs.Clauses.{Meets, clause_at, is_met, literal_bit}
use Rattle.net_core.specs.Sides.{Graphs}
use Rattle.net_core.specs.Graph.{IsGraph}
use Rattle.net_core.specs.Cones.{IsFanIn, Reaches, ReachesGate, output_signal}
use Rattle.claim_core.specs.declared.query.Feed.{Feed}
use Rattle.claim_core.specs.declared.query.Query.{Query}
use Rattle.claim_core.specs.Queries.{feed_bit, circuit_of, bits_in, vector_in, IsQuery, IsWired, MeetsQuery}
use Rattle.claim_core.specs.Formulas.{signal_literals, stand_in, stands_for, and_clauses, half_clauses, left_variables, right_variables, left_literals, right_literals, output_literal, query_clauses}
use Rattle.claim_core.specs.ConeClauses.{IsConeId, MeetsCones, left_gates, right_gates}
use Rattle.claim_core.proofs.FormulaLemmas.{count_of, at_left, at_outputs, at_right, gate_clause_at, gate_clause_count, right_variable_count}
use Rattle.claim_core.proofs.LawLemmas.{by_sign, input_bit, false_there, gate_met, is_itself, literal_of_bit, ordered_side, value_there, chosen}

-- what an output reaches has its operands' signals too
pub first_reached : (net : Net) (k t : ℕ) (d : Gate) → t < length net.gates → ReachesGate net k t → Reaches net k (signal_of (slice_index_or net.gates t d).a)
first_reached net k t d within reached other fan_in = (fan_in.operands t d within (reached other fan_in)).0

pub second_reached : (net : Net) (k t : ℕ) (d : Gate) → t < length net.gates → ReachesGate net k t → Reaches net k (signal_of (slice_index_or net.gates t d).b)
second_reached net k t d within reached other fan_in = (fan_in.operands t d within (reached other fan_in)).1

-- where a signal's literal has its bit, so has each literal of it
literal_valued : (a : List Bool) (literals : List SatLit) (v : List Bool) (l : Lit) → literal_bit a (stand_in literals (signal_of l)) ≡ bit v (signal_of l) → literal_bit a (stands_for literals l) ≡ signal_bit v l
literal_valued a literals v l is =
    sym (chosen a literals l (inverts l)) ∙ (sym (by_sign (inverts l) (literal_bit a (stand_in literals (signal_of l)))) ∙ ap (λ y. differ y (inverts l)) is)

-- One circuit of a query: its literals, and an assignment that meets the clauses of the gates that output k reaches.
record IsHalfMet (a : List Bool) (n : ℕ) (net : Net) (feed : List Feed) (variables : List ℕ) (k : ℕ) : Type 0 where
  first : bit a 0 ≡ true
  ordered : IsOrdered net
  inputs : net.inputs ≡ n
  feeds : length feed ≡ n
  gates : length variables ≡ length net.gates
  wired : All (IsWired n) feed
  met : (t r : ℕ) → t < length net.gates → ReachesGate net k t → r < 3 → is_met a (clause_at (half_clauses net (signal_literals feed variables)) (3 * t + r)) ≡ true

-- the bits that the circuit's inputs get
abbrev given : List Bool → ℕ → List Feed → List Bool
given a n feed = map (feed_bit (vector_in n a)) feed

-- each signal below a number that the output reaches has its bit
valued_below : (a : List Bool) (n : ℕ) (net : Net) (feed : List Feed) (variables : List ℕ) (k : ℕ) → IsHalfMet a n net feed variables k → (m s : ℕ) → s < m → s < signals_of net → Reaches net k s → literal_bit a (stand_in (signal_literals feed variables) s) ≡ bit (valuation_of net (given a n feed)) s
valued_below a n net feed variables k half zero s less there reached = absurd (omega (arith, less))
valued_below a n net feed variables k half (suc m) zero less there reached =
    let fits = valuation_of-fits net (given a n feed) half.ordered (length-map feed (feed_bit (vector_in n a)) ∙ (half.feeds ∙ sym half.inputs)) in
    false_there a half.first ∙ sym fits.constant
valued_below a n net feed variables k half (suc m) (suc i) less there reached =
    elim (cases_lt i n) [
      | inl input ↦ input_case i input
      | inr gate ↦
          let e : suc i ≡ 1 + net.inputs + (i - n) = omega (arith, gate, half.inputs) in
          let within : i - n < length net.gates = omega (arith, gate, half.inputs, there) in
          gate_case (i - n) within e less reached (valued_below a n net feed variables k half m)
    ]
  where
    literals : List SatLit
    literals = signal_literals feed variables

    v : List Bool
    v = valuation_of net (given a n feed)

    input_case : (i : ℕ) → i < n → literal_bit a (stand_in literals (suc i)) ≡ bit v (suc i)
    input_case i input =
        let fits = valuation_of-fits net (given a n feed) half.ordered (length-map feed (feed_bit (vector_in n a)) ∙ (half.feeds ∙ sym half.inputs)) in
        let next : 1 + i ≡ suc i = omega arith in
        input_bit a n feed variables i half.first half.wired (omega (arith, input, half.feeds))
        ∙ (sym (fits.inputs i (omega (arith, input, half.inputs))) ∙ ap (bit v) next)

    gate_case : (t : ℕ) → t < length net.gates → suc i ≡ 1 + net.inputs + t → suc i < suc m → Reaches net k (suc i) → ((s : ℕ) → s < m → s < signals_of net → Reaches net k s → literal_bit a (stand_in literals s) ≡ bit v s) → literal_bit a (stand_in literals (suc i)) ≡ bit v (suc i)
    gate_case t within e less reached smaller =
        let none : Gate = record { a = record { 0 = 0 }; b = record { 0 = 0 } } in
        let gate = slice_index_or net.gates t none in
        let fits = valuation_of-fits net (given a n feed) half.ordered (length-map feed (feed_bit (vector_in n a)) ∙ (half.feeds ∙ sym half.inputs)) in
        let here : ReachesGate net k t = subst (Reaches net k) e reached in
        let early_a = half.ordered.first_operands t none within in
        let early_b = half.ordered.second_operands t none within in
        let is_a = literal_valued a literals v gate.a (smaller (signal_of gate.a) (omega (arith, early_a, e, less)) (omega (arith, early_a, within)) (first_reached net k t none within here)) in
        let is_b = literal_valued a literals v gate.b (smaller (signal_of gate.b) (omega (arith, early_b, e, less)) (omega (arith, early_b, within)) (second_reached net k t none within here)) in
        let at : net.inputs + 1 + t ≡ suc i = omega (arith, e) in
        let part : (r : ℕ) → r < 3 → is_met a (clause_at (and_clauses (stand_in literals (net.inputs + 1 + t)) (stands_for literals gate.a) (stands_for literals gate.b)) r) ≡ true = λ r small. sym (ap (is_met a) (gate_clause_at literals (net.inputs + 1) net.gates none t r within small)) ∙ half.met t r within here small in
        let own = gate_met a (stand_in literals (net.inputs + 1 + t)) (stands_for literals gate.a) (stands_for literals gate.b) (part 0 (omega arith)) (part 1 (omega arith)) (part 2 (omega arith)) in
        ap (λ s. literal_bit a (stand_in literals s)) (sym at)
        ∙ (own
        ∙ (ap (λ b. b && literal_bit a (stands_for literals gate.b)) is_a
        ∙ (ap (λ b. signal_bit v gate.a && b) is_b ∙ (sym (fits.gates t none within) ∙ ap (bit v) (sym e)))))

-- the output has the value that its clause says
output_valued : (a : List Bool) (n : ℕ) (net : Net) (feed : List Feed) (variables : List ℕ) (k : ℕ) (value : Bool) → IsHalfMet a n net feed variables k → k < length net.outputs → is_met a (output_literal net (signal_literals feed variables) k value ∷ []) ≡ true → bit (function_of net (given a n feed)) k ≡ value
output_valued a n net feed variables k value half there out =
    let literals = signal_literals feed variables in
    let v = valuation_of net (given a n feed) in
    let none : Lit = record { 0 = 0 } in
    let last = slice_index_or net.outputs k none in
    let within = half.ordered.outputs k none there in
    let is = literal_valued a literals v last (valued_below a n net feed variables k half (1 + output_signal net k) (output_signal net k) (omega arith) within (λ other fan_in. fan_in.output)) in
    get_or-map (signal_bit v) net.outputs k none false there ∙ (sym is ∙ value_there (literal_bit a (stands_for literals last)) value (stands_for literals last) a refl out)

pub cone_vector_there : (graphs : Graphs) (query : Query) (a : List Bool) → IsGraph graphs.first → IsGraph graphs.second → IsQuery graphs query → MeetsCones graphs query a → MeetsQuery graphs query (vector_in (bits_in graphs query) a)
cone_vector_there graphs query a first second fits meets =
    let n = bits_in graphs query in
    let left = circuit_of graphs query.left in
    let right = circuit_of graphs query.right in
    let ls = left_literals graphs query in
    let rs = right_literals graphs query in
    let lefts = half_clauses left ls in
    let rights = half_clauses right rs in
    let one = output_literal left ls query.left.output query.left_value in
    let other = output_literal right rs query.right.output query.right_value in
    let last = 1 + 3 * (left_gates graphs query + right_gates graphs query) in
    let left_count : length lefts ≡ 3 * left_gates graphs query = gate_clause_count ls (left.inputs + 1) left.gates in
    let right_count : length rights ≡ 3 * right_gates graphs query = gate_clause_count rs (right.inputs + 1) right.gates in
    let start : bit a 0 ≡ true = is_itself (bit a 0) ∙ (sym (literal_of_bit a 0 true) ∙ (sym (or-false (literal_bit a (record { 0 = 0 }))) ∙ meets 0 (inl refl))) in
    let left_half : IsHalfMet a n left query.left.feed (left_variables graphs query) query.left.output = record {
      first = start;
      ordered = ordered_side graphs query.left.side first second;
      inputs = fits.left.inputs;
      feeds = fits.left.feed;
      gates = length-range_with_len (n + 1) (length left.gates);
      wired = fits.left.wires;
      met = λ t r within reached small.
          let id = 1 + (3 * t + r) in
          let cone : IsConeId graphs query id = inr (inl (record { gate = t; reached = reached; from = omega arith; to = omega (arith, small) })) in
          ap (is_met a) (sym (at_left lefts rights one other id (3 * t + r) refl (omega (arith, left_count, within, small)))) ∙ meets id cone;
    } in
    let right_half : IsHalfMet a n right query.right.feed (right_variables graphs query) query.right.output = record {
      first = start;
      ordered = ordered_side graphs query.right.side first second;
      inputs = fits.right.inputs;
      feeds = fits.right.feed;
      gates = right_variable_count graphs query fits;
      wired = fits.right.wires;
      met = λ t r within reached small.
          let id = 1 + 3 * left_gates graphs query + (3 * t + r) in
          let cone : IsConeId graphs query id = inr (inr (inl (record { gate = t; reached = reached; from = omega arith; to = omega (arith, small) }))) in
          ap (is_met a) (sym (at_right lefts rights one other id (3 * t + r) (omega (arith, left_count)) (omega (arith, right_count, within, small)))) ∙ meets id cone;
    } in
    let outs = at_outputs lefts rights one other last (omega (arith, left_count, right_count)) in
    let left_out : is_met a (one ∷ []) ≡ true = ap (is_met a) (sym outs.0) ∙ meets last (inr (inr (inr (inl refl)))) in
    let right_out : is_met a (other ∷ []) ≡ true = ap (is_met a) (sym outs.1) ∙ meets (last + 1) (inr (inr (inr (inr (omega arith))))) in
    record {
      left = output_valued a n left query.left.feed (left_variables graphs query) query.left.output query.left_value left_half fits.left.output left_out;
      right = output_valued a n right query.right.feed (right_variables graphs query) query.right.output query.right_value right_half fits.right.output right_out;
    }

-- a gate that an output reaches is there
pub reached_there : (net : Net) (k t : ℕ) → IsOrdered net → k < length net.outputs → ReachesGate net k t → t < length net.gates
reached_there net k t ordered output reached =
    elim (cases_lt t (length net.gates)) [
      | inl there ↦ there
      | inr past ↦ absurd (false≢true (sym (get_or_past all (1 + net.inputs + t) false (omega (arith, past, length-replicate signals true))) ∙ reached all fan_in))
    ]
  where
    signals : ℕ
    signals = 1 + net.inputs + length net.gates

    all : List Bool
    all = replicate signals true

    in_all : (s : ℕ) → s < signals → bit all s ≡ true
    in_all s below = get_or-replicate signals s true false below

    fan_in : IsFanIn net k all
    fan_in = record {
      output = in_all (output_signal net k) (omega (arith, ordered.outputs k (record { 0 = 0 }) output));
      operands = λ u d within is. (in_all (signal_of (slice_index_or net.gates u d).a) (omega (arith, ordered.first_operands u d within, within)), in_all (signal_of (slice_index_or net.gates u d).b) (omega (arith, ordered.second_operands u d within, within)));
    }

-- the clauses of the cones are clauses of the query
pub cone_id_there : (graphs : Graphs) (query : Query) (id : ℕ) → IsGraph graphs.first → IsGraph graphs.second → IsQuery graphs query → IsConeId graphs query id → id < length (query_clauses graphs query)
cone_id_there graphs query id first second fits (inl e) = omega (arith, e, count_of graphs query)
cone_id_there graphs query id first second fits (inr (inl of)) =
    omega (arith, of.to, count_of graphs query, reached_there (circuit_of graphs query.left) query.left.output of.gate (ordered_side graphs query.left.side first second) fits.left.output of.reached)
cone_id_there graphs query id first second fits (inr (inr (inl of))) =
    omega (arith, of.to, count_of graphs query, reached_there (circuit_of graphs query.right) query.right.output of.gate (ordered_side graphs query.right.side first second) fits.right.output of.reached)
cone_id_there graphs query id first second fits (inr (inr (inr (inl e)))) = omega (arith, e, count_of graphs query)
cone_id_there graphs query id first second fits (inr (inr (inr (inr e)))) = omega (arith, e, count_of graphs query)

-- what meets all clauses meets those of the cones
pub vector_there : (graphs : Graphs) (query : Query) (a : List Bool) → IsGraph graphs.first → IsGraph graphs.second → IsQuery graphs query → Meets a (query_clauses graphs query) → MeetsQuery graphs query (vector_in (bits_in graphs query) a)
vector_there graphs query a first second fits meets =
    cone_vector_there graphs query a first second fits (λ id cone. meets id [] (cone_id_there graphs query id first second fits cone))
