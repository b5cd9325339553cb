-- The gates of a query's cones: their clauses, and that operands come first and one variable has one pair of operands.
use Rattle.std.proofs.Common.{◌≡◌, ◌≢◌, ℕ, zero, suc, ◌+◌, ◌-◌, ◌*◌, ◌%◌, ◌<◌, ◌≤◌, cond, Bool, true, false, List, [], ◌∷◌, ◌++◌, length, take, All, slice_index_or, inl, inr, refl, sym, ◌∙◌, ap, subst, arith}
use Rattle.std.proofs.lemmas.Bool.{cases_lt}
use Rattle.std.proofs.lemmas.List.{get_or_append_left, get_or_default, get_or-take, append-nil, length-append, length-take}
use Rattle.std.proofs.lemmas.List.FromFn.{length-range_with_len}
use Rattle.circuits.specs.declared.netlist.Lit.{Lit}
use Rattle.circuits.specs.declared.netlist.Gate.{Gate}
use Rattle.circuits.specs.Literals.{signal_of, is_negated as inverts}
use Rattle.circuits.specs.Netlists.{Net, IsOrdered}
use Rattle.cnf_core.specs.declared.literal.SatLit.{SatLit}
use Rattle.cnf_core.specs.Clauses.{clause_at, is_negated, opposite, variable_of}
use Rattle.net_core.specs.Sides.{Graphs}
use Rattle.net_core.specs.Graph.{IsGraph}
use Rattle.net_core.specs.Cones.{Reaches, ReachesGate}
use Rattle.claim_core.specs.declared.query.Feed.{Feed}
use Rattle.claim_core.specs.declared.query.Feed.TheVariants.{Fixed, Wire}
use Rattle.claim_core.specs.declared.query.Query.{Query}
use Rattle.claim_core.specs.Queries.{IsQuery, IsWired, bits_in, circuit_of}
use Rattle.claim_core.specs.Formulas.{and_clauses, feed_literal, formula_of, half_clauses, left_literals, left_variables, output_literal, plain, query_clauses, right_literals, right_variables, signal_literals, stand_in, stands_for}
use Rattle.claim_core.specs.ConeClauses.{IsConeId, left_gates, right_gates}
use Rattle.claim_core.proofs.FormulaLemmas.{clause_below, clause_of_left, clause_of_right, count_of, gate_clause_at, gate_clause_count, right_variable_count}
use Rattle.claim_core.proofs.ConeLaws.{first_reached, second_reached}
use Rattle.claim_core.proofs.LawLemmas.{ordered_side}
use Rattle.query_core.proofs.VariableLemmas.{reached_there}
use Rattle.joint_hash.specs.declared.gates.ConeGate.{ConeGate}
use Rattle.joint_hash.specs.Trees.{IsGateOf, IsReachedGate}
use Rattle.joint_hash.specs.Classes.{HasGate}
use Rattle.joint_hash.specs.Merging.{HasClauses, IsInner}
use Rattle.cnf_core.proofs.LiteralLemmas.{opposite_twice, variable_of-opposite}
use Rattle.joint_hash.proofs.LiteralLemmas.{negated-plain, variable_of-plain}
use Rattle.joint_hash.proofs.MergeLemmas.{AreNested}
use Rattle.joint_hash.proofs.SharedLemmas.{gate_literal, input_literal, left_variable, one_net, operand_flags, same_literals, variable_cases}

abbrev pub no_gate : Gate
no_gate = record { a = record { 0 = 0 }; b = record { 0 = 0 } }

-- the gate that has these clauses
pub gate_made : (net : Net) (literals : List SatLit) (k from t : ℕ) → t < length net.gates → ReachesGate net k t → (gate : ConeGate) → gate.id ≡ from + 3 * t → gate.output ≡ stand_in literals (net.inputs + 1 + t) → gate.first ≡ stands_for literals (slice_index_or net.gates t no_gate).a → gate.second ≡ stands_for literals (slice_index_or net.gates t no_gate).b → IsReachedGate net literals k from gate
gate_made net literals k from t there reached gate id output first second = record {
  place = t;
  there = there;
  reached = reached;
  id_is = id;
  output_is = output;
  first_is = λ d. first ∙ ap (λ (g : Gate). stands_for literals g.a) (get_or_default net.gates t no_gate d there);
  second_is = λ d. second ∙ ap (λ (g : Gate). stands_for literals g.b) (get_or_default net.gates t no_gate d there);
}

-- ---- the clauses

pub left_clause : (graphs : Graphs) (query : Query) (t r : ℕ) → t < left_gates graphs query → r < 3 → clause_at (query_clauses graphs query) (1 + (3 * t + r)) ≡ clause_at (and_clauses (stand_in (left_literals graphs query) ((circuit_of graphs query.left).inputs + 1 + t)) (stands_for (left_literals graphs query) (slice_index_or (circuit_of graphs query.left).gates t no_gate).a) (stands_for (left_literals graphs query) (slice_index_or (circuit_of graphs query.left).gates t no_gate).b)) r
left_clause graphs query t r there small =
    let left = circuit_of graphs query.left in
    let right = circuit_of graphs query.right in
    let ls = left_literals graphs query in
    let rs = right_literals graphs query in
    let count = gate_clause_count ls (left.inputs + 1) left.gates in
    let id = 1 + (3 * t + r) in
    let at : id - 1 ≡ 3 * t + r = omega arith in
    sym (clause_of_left (half_clauses left ls) (half_clauses right rs) (output_literal left ls query.left.output query.left_value) (output_literal right rs query.right.output query.right_value) id (omega arith) (omega (arith, count, there, small)))
    ∙ (ap (clause_at (half_clauses left ls)) at ∙ gate_clause_at ls (left.inputs + 1) left.gates no_gate t r there small)

pub right_clause : (graphs : Graphs) (query : Query) (t r : ℕ) → t < right_gates graphs query → r < 3 → clause_at (query_clauses graphs query) (1 + 3 * left_gates graphs query + (3 * t + r)) ≡ clause_at (and_clauses (stand_in (right_literals graphs query) ((circuit_of graphs query.right).inputs + 1 + t)) (stands_for (right_literals graphs query) (slice_index_or (circuit_of graphs query.right).gates t no_gate).a) (stands_for (right_literals graphs query) (slice_index_or (circuit_of graphs query.right).gates t no_gate).b)) r
right_clause graphs query t r there small =
    let left = circuit_of graphs query.left in
    let right = circuit_of graphs query.right in
    let ls = left_literals graphs query in
    let rs = right_literals graphs query in
    let count = gate_clause_count ls (left.inputs + 1) left.gates in
    let count_right = gate_clause_count rs (right.inputs + 1) right.gates in
    let id = 1 + 3 * left_gates graphs query + (3 * t + r) in
    let at : id - 1 - length (half_clauses left ls) ≡ 3 * t + r = omega (arith, count) in
    sym (clause_of_right (half_clauses left ls) (half_clauses right rs) (output_literal left ls query.left.output query.left_value) (output_literal right rs query.right.output query.right_value) id (omega arith) (omega (arith, count)) (omega (arith, count, count_right, there, small)))
    ∙ (ap (clause_at (half_clauses right rs)) at ∙ gate_clause_at rs (right.inputs + 1) right.gates no_gate t r there small)

-- three clauses from a number on are those of a gate
has_three : (clauses : List (List SatLit)) (gate : ConeGate) (v a b : SatLit) → gate.id + 2 < length clauses → gate.output ≡ v → gate.first ≡ a → gate.second ≡ b → ((r : ℕ) → r < 3 → clause_at clauses (gate.id + r) ≡ clause_at (and_clauses v a b) r) → HasClauses clauses gate
has_three clauses gate v a b there output first second part =
    let at : gate.id + 0 ≡ gate.id = omega arith in
    let parts : (x y z : SatLit) → v ≡ x → a ≡ y → b ≡ z → (r : ℕ) → clause_at (and_clauses v a b) r ≡ clause_at (and_clauses x y z) r = λ x y z e f g r. (λ i. clause_at (and_clauses (e i) (f i) (g i)) r) in
    let own = parts gate.output gate.first gate.second (sym output) (sym first) (sym second) in
    record {
      there = there;
      to_first = ap (clause_at clauses) (sym at) ∙ (part 0 (omega arith) ∙ own 0);
      to_second = part 1 (omega arith) ∙ own 1;
      from_both = part 2 (omega arith) ∙ own 2;
    }

-- each gate has its clauses, also where others follow
pub gate_has : (graphs : Graphs) (query : Query) (more : List (List SatLit)) (gate : ConeGate) → IsGateOf graphs query gate → HasClauses (query_clauses graphs query ++ more) gate
gate_has graphs query more gate (inl of) =
    let there : gate.id + 2 < length (query_clauses graphs query) = omega (arith, count_of graphs query, of.id_is, of.there) in
    has_three (query_clauses graphs query ++ more) gate _ _ _ (omega (arith, there, length-append (query_clauses graphs query) more)) of.output_is (of.first_is no_gate) (of.second_is no_gate) (λ r small.
    let at : gate.id + r ≡ 1 + (3 * of.place + r) = omega (arith, of.id_is) in
    get_or_append_left (query_clauses graphs query) more [] (gate.id + r) (omega (arith, there, small)) ∙ (ap (clause_at (query_clauses graphs query)) at ∙ left_clause graphs query of.place r of.there small))
gate_has graphs query more gate (inr of) =
    let there : gate.id + 2 < length (query_clauses graphs query) = omega (arith, count_of graphs query, of.id_is, of.there) in
    has_three (query_clauses graphs query ++ more) gate _ _ _ (omega (arith, there, length-append (query_clauses graphs query) more)) of.output_is (of.first_is no_gate) (of.second_is no_gate) (λ r small.
    let at : gate.id + r ≡ 1 + 3 * left_gates graphs query + (3 * of.place + r) = omega (arith, of.id_is) in
    get_or_append_left (query_clauses graphs query) more [] (gate.id + r) (omega (arith, there, small)) ∙ (ap (clause_at (query_clauses graphs query)) at ∙ right_clause graphs query of.place r of.there small))

pub gate_there : (graphs : Graphs) (query : Query) (gate : ConeGate) → IsGateOf graphs query gate → gate.id + 2 < length (query_clauses graphs query)
gate_there graphs query gate (inl of) = omega (arith, count_of graphs query, of.id_is, of.there)
gate_there graphs query gate (inr of) = omega (arith, count_of graphs query, of.id_is, of.there)

-- its clauses come before those of the outputs
pub gate_inner : (graphs : Graphs) (query : Query) (gate : ConeGate) → IsGateOf graphs query gate → IsInner (formula_of graphs query) gate
gate_inner graphs query gate is = record {
  clauses = subst (λ (cs : List (List SatLit)). HasClauses cs gate) (append-nil (query_clauses graphs query)) (gate_has graphs query [] gate is);
  early = below is;
}
  where
    below : IsGateOf graphs query gate → gate.id + 4 < length (query_clauses graphs query)
    below (inl of) = omega (arith, count_of graphs query, of.id_is, of.there)
    below (inr of) = omega (arith, count_of graphs query, of.id_is, of.there)

-- its variable is one of the formula's
pub gate_known : (graphs : Graphs) (query : Query) (gate : ConeGate) → IsQuery graphs query → IsGateOf graphs query gate → variable_of gate.output < (formula_of graphs query).variables
gate_known graphs query gate fits is =
    let clauses = query_clauses graphs query in
    let has = gate_has graphs query [] gate is in
    let there = gate_there graphs query gate is in
    let clause : clause_at clauses (gate.id + 2) ≡ gate.output ∷ opposite gate.first ∷ opposite gate.second ∷ [] = sym (get_or_append_left clauses [] [] (gate.id + 2) there) ∙ has.from_both in
    subst (All (λ l. variable_of l < (formula_of graphs query).variables)) clause (clause_below graphs query (gate.id + 2) fits) 0 gate.output (omega arith)

-- its last clause belongs to the cones, and no other clause is the last of a gate
pub gate_cone : (graphs : Graphs) (query : Query) (gate : ConeGate) → IsGateOf graphs query gate → IsConeId graphs query (gate.id + 2)
gate_cone graphs query gate (inl of) = inr (inl (record { gate = of.place; reached = of.reached; from = omega (arith, of.id_is); to = omega (arith, of.id_is) }))
gate_cone graphs query gate (inr of) = inr (inr (inl (record { gate = of.place; reached = of.reached; from = omega (arith, of.id_is); to = omega (arith, of.id_is) })))

pub gate_third : (graphs : Graphs) (query : Query) (gate : ConeGate) → IsGateOf graphs query gate → (gate.id + 2) % 3 ≡ 0
gate_third graphs query gate (inl of) = omega (arith, of.id_is)
gate_third graphs query gate (inr of) = omega (arith, of.id_is)

-- the literals of a clause of three
pub three_in : (lits : List SatLit) (len : ℕ) (x y z d : SatLit) → take len lits ≡ x ∷ y ∷ z ∷ [] → (slice_index_or lits 0 d ≡ x) × (slice_index_or lits 1 d ≡ y) × (slice_index_or lits 2 d ≡ z)
three_in lits len x y z d e =
    let size : 3 ≤ len = omega (arith, ap length e, length-take len lits) in
    let at : (k : ℕ) → k < 3 → slice_index_or lits k d ≡ slice_index_or (x ∷ y ∷ z ∷ []) k d = λ k small. sym (get_or-take len lits k d (omega (arith, small, size))) ∙ ap (λ (ls : List SatLit). slice_index_or ls k d) e in
    (at 0 (omega arith), at 1 (omega arith), at 2 (omega arith))

-- the gate whose last clause has this number
pub gate_at : (graphs : Graphs) (query : Query) (last : ℕ) (gate : ConeGate) → IsGraph graphs.first → IsGraph graphs.second → IsQuery graphs query → IsConeId graphs query last → last ≢ 0 → last % 3 ≡ 0 → gate.id + 2 ≡ last → ((x y z : SatLit) → clause_at (query_clauses graphs query) last ≡ x ∷ y ∷ z ∷ [] → (gate.output ≡ x) × (gate.first ≡ opposite y) × (gate.second ≡ opposite z)) → IsGateOf graphs query gate
gate_at graphs query last gate first second fits (inl e) some third id read = absurd (some e)
gate_at graphs query last gate first second fits (inr (inl of)) some third id read =
    let net = circuit_of graphs query.left in
    let there = reached_there net query.left.output of.gate (ordered_side graphs query.left.side first second) fits.left.output of.reached in
    let at : last ≡ 1 + (3 * of.gate + 2) = omega (arith, of.from, of.to, third) in
    let literals = left_literals graphs query in
    let parts = read (stand_in literals (net.inputs + 1 + of.gate)) (opposite (stands_for literals (slice_index_or net.gates of.gate no_gate).a)) (opposite (stands_for literals (slice_index_or net.gates of.gate no_gate).b)) (ap (clause_at (query_clauses graphs query)) at ∙ left_clause graphs query of.gate 2 there (omega arith)) in
    inl (gate_made net literals query.left.output 1 of.gate there of.reached gate (omega (arith, id, at)) parts.0 (parts.1 ∙ opposite_twice (stands_for literals (slice_index_or net.gates of.gate no_gate).a)) (parts.2 ∙ opposite_twice (stands_for literals (slice_index_or net.gates of.gate no_gate).b)))
gate_at graphs query last gate first second fits (inr (inr (inl of))) some third id read =
    let net = circuit_of graphs query.right in
    let there = reached_there net query.right.output of.gate (ordered_side graphs query.right.side first second) fits.right.output of.reached in
    let at : last ≡ 1 + 3 * left_gates graphs query + (3 * of.gate + 2) = omega (arith, of.from, of.to, third) in
    let literals = right_literals graphs query in
    let parts = read (stand_in literals (net.inputs + 1 + of.gate)) (opposite (stands_for literals (slice_index_or net.gates of.gate no_gate).a)) (opposite (stands_for literals (slice_index_or net.gates of.gate no_gate).b)) (ap (clause_at (query_clauses graphs query)) at ∙ right_clause graphs query of.gate 2 there (omega arith)) in
    inr (gate_made net literals query.right.output (1 + 3 * left_gates graphs query) of.gate there of.reached gate (omega (arith, id, at)) parts.0 (parts.1 ∙ opposite_twice (stands_for literals (slice_index_or net.gates of.gate no_gate).a)) (parts.2 ∙ opposite_twice (stands_for literals (slice_index_or net.gates of.gate no_gate).b)))
gate_at graphs query last gate first second fits (inr (inr (inr (inl e)))) some third id read = absurd (omega (arith, e, third))
gate_at graphs query last gate first second fits (inr (inr (inr (inr e)))) some third id read = absurd (omega (arith, e, third))

-- ---- operands come first

feed_low : (n : ℕ) (feed : Feed) → IsWired n feed → variable_of (feed_literal feed) ≤ n
feed_low n (Fixed true) wired = omega arith
feed_low n (Fixed false) wired = omega arith
feed_low n (Wire place true) wired = omega (arith, wired)
feed_low n (Wire place false) wired = omega (arith, wired)

-- One circuit of a query, with the variables of its gates.
record IsHalf (n : ℕ) (net : Net) (feed : List Feed) (variables : List ℕ) : Type 0 where
  inputs : net.inputs ≡ n
  feeds : length feed ≡ n
  wired : All (IsWired n) feed
  count : length variables ≡ length net.gates
  ordered : IsOrdered net

-- the literal of the constant or of an input has a low variable
low_literal : (n : ℕ) (net : Net) (feed : List Feed) (variables : List ℕ) → IsHalf n net feed variables → (s : ℕ) → s ≤ n → variable_of (stand_in (signal_literals feed variables) s) ≤ n
low_literal n net feed variables half zero low = omega arith
low_literal n net feed variables half (suc i) low =
    let within : i < n = omega (arith, low) in
    let fed = feed_low n (slice_index_or feed i (Fixed false)) (half.wired i (Fixed false) (omega (arith, within, half.feeds))) in
    omega (arith, ap variable_of (input_literal n feed variables i half.feeds within), fed)

stands_for_variable : (literals : List SatLit) (l : Lit) → variable_of (stands_for literals l) ≡ variable_of (stand_in literals (signal_of l))
stands_for_variable literals l = by_sign (inverts l)
  where
    by_sign : (b : Bool) → variable_of (cond b (opposite (stand_in literals (signal_of l))) (stand_in literals (signal_of l))) ≡ variable_of (stand_in literals (signal_of l))
    by_sign true = variable_of-opposite (stand_in literals (signal_of l))
    by_sign false = refl

-- An operand of a gate whose variable isn't low is a gate that the output reaches, and that comes earlier.
module _ (n : ℕ) (net : Net) (feed : List Feed) (variables : List ℕ) (half : IsHalf n net feed variables) (k from : ℕ) (IsGate : ConeGate → Type 0)
    (are : (h : ConeGate) → IsReachedGate net (signal_literals feed variables) k from h → IsGate h)
    (g : ConeGate) (is : IsReachedGate net (signal_literals feed variables) k from g) (variable : ℕ) (high : n < variable) where
  operand_early : (l : Lit) (x : SatLit) → signal_of l < 1 + net.inputs + is.place → Reaches net k (signal_of l)
      → x ≡ stands_for (signal_literals feed variables) l → variable_of x ≡ variable → HasGate IsGate (g.id + 2) variable
  operand_early l x below reached stands x_is =
      let literals = signal_literals feed variables in
      let s = signal_of l in
      let own : variable_of (stand_in literals s) ≡ variable = sym (stands_for_variable literals l) ∙ (ap variable_of (sym stands) ∙ x_is) in
      elim (cases_lt n s) [
        | inr low ↦ absurd (omega (arith, own, high, low_literal n net feed variables half s low))
        | inl gate ↦
            let u = s - (1 + n) in
            let at : s ≡ 1 + net.inputs + u = omega (arith, gate, half.inputs) in
            let at_gate : s ≡ net.inputs + 1 + u = omega (arith, gate, half.inputs) in
            let earlier : u < is.place = omega (arith, gate, below, half.inputs) in
            let there : u < length net.gates = omega (arith, earlier, is.there) in
            let h : ConeGate = record {
              id = from + 3 * u;
              output = stand_in literals (net.inputs + 1 + u);
              first = stands_for literals (slice_index_or net.gates u no_gate).a;
              second = stands_for literals (slice_index_or net.gates u no_gate).b;
            } in
            let is_gate = are h (gate_made net literals k from u there (subst (Reaches net k) at reached) h refl refl refl refl) in
            record {
              gate = h;
              visited = record { is_gate = is_gate; early = omega (arith, earlier, is.id_is) };
              variable_is = ap (λ m. variable_of (stand_in literals m)) (sym at_gate) ∙ own;
            }
      ]

  operands_early : (variable_of g.first ≡ variable → HasGate IsGate (g.id + 2) variable)
      × (variable_of g.second ≡ variable → HasGate IsGate (g.id + 2) variable)
  operands_early =
      let t = is.place in
      let gate = slice_index_or net.gates t no_gate in
      let first = half.ordered.first_operands t no_gate is.there in
      let second = half.ordered.second_operands t no_gate is.there in (
        operand_early gate.a g.first first (first_reached net k t no_gate is.there is.reached) (is.first_is no_gate),
        operand_early gate.b g.second second (second_reached net k t no_gate is.there is.reached) (is.second_is no_gate),
      )

-- gates with equal parts
same_gate : (g h : ConeGate) → g.id ≡ h.id → g.output ≡ h.output → g.first ≡ h.first → g.second ≡ h.second → g ≡ h
same_gate g h a b c d = λ i. record { id = a i; output = b i; first = c i; second = d i }

one_place : (net : Net) (literals : List SatLit) (k from : ℕ) (g h : ConeGate) → IsReachedGate net literals k from g → IsReachedGate net literals k from h → g.id ≡ h.id → g ≡ h
one_place net literals k from g h is there same =
    let place : is.place ≡ there.place = omega (arith, same, is.id_is, there.id_is) in
    same_gate g h same (is.output_is ∙ (ap (λ t. stand_in literals (net.inputs + 1 + t)) place ∙ sym there.output_is)) (is.first_is no_gate ∙ (ap (λ t. stands_for literals (slice_index_or net.gates t no_gate).a) place ∙ sym (there.first_is no_gate))) (is.second_is no_gate ∙ (ap (λ t. stands_for literals (slice_index_or net.gates t no_gate).b) place ∙ sym (there.second_is no_gate)))

module _ (graphs : Graphs) (query : Query) (first : IsGraph graphs.first) (second : IsGraph graphs.second) (fits : IsQuery graphs query) where
  abbrev inputs : ℕ
  inputs = bits_in graphs query

  abbrev left : Net
  left = circuit_of graphs query.left

  abbrev right : Net
  right = circuit_of graphs query.right

  abbrev from_right : ℕ
  from_right = 1 + 3 * left_gates graphs query

  abbrev IsLeft : ConeGate → Type 0
  IsLeft gate = IsReachedGate (circuit_of graphs query.left) (left_literals graphs query) query.left.output 1 gate

  abbrev IsRight : ConeGate → Type 0
  IsRight gate = IsReachedGate (circuit_of graphs query.right) (right_literals graphs query) query.right.output (1 + 3 * left_gates graphs query) gate

  left_half : IsHalf inputs left query.left.feed (left_variables graphs query)
  left_half = record {
    inputs = fits.left.inputs;
    feeds = fits.left.feed;
    wired = fits.left.wires;
    count = length-range_with_len (inputs + 1) (length left.gates);
    ordered = ordered_side graphs query.left.side first second;
  }

  right_half : IsHalf inputs right query.right.feed (right_variables graphs query)
  right_half = record {
    inputs = fits.right.inputs;
    feeds = fits.right.feed;
    wired = fits.right.wires;
    count = right_variable_count graphs query fits;
    ordered = ordered_side graphs query.right.side first second;
  }

  -- the outputs and their variables
  left_output : (g : ConeGate) (is : IsLeft g) → g.output ≡ plain (inputs + 1 + is.place)
  left_output g is =
      is.output_is
      ∙ (gate_literal inputs query.left.feed (left_variables graphs query) is.place fits.left.feed (omega (arith, is.there, left_half.count)) ∙ ap plain (left_variable graphs query fits is.place is.there))

  right_output : (g : ConeGate) (is : IsRight g) → g.output ≡ plain (slice_index_or (right_variables graphs query) is.place 0)
  right_output g is =
      let at : right.inputs + 1 + is.place ≡ inputs + 1 + is.place = omega (arith, fits.right.inputs) in
      is.output_is
      ∙ (ap (stand_in (right_literals graphs query)) at ∙ gate_literal inputs query.right.feed (right_variables graphs query) is.place fits.right.feed (omega (arith, is.there, right_half.count)))

  left_number : (g : ConeGate) (is : IsLeft g) → variable_of g.output ≡ inputs + 1 + is.place
  left_number g is = ap variable_of (left_output g is) ∙ variable_of-plain (inputs + 1 + is.place)

  right_number : (g : ConeGate) (is : IsRight g) → variable_of g.output ≡ slice_index_or (right_variables graphs query) is.place 0
  right_number g is = ap variable_of (right_output g is) ∙ variable_of-plain (slice_index_or (right_variables graphs query) is.place 0)

  high : (g : ConeGate) → IsGateOf graphs query g → inputs < variable_of g.output
  high g (inl is) = omega (arith, left_number g is)
  high g (inr is) =
      elim (variable_cases graphs query fits is.place is.there) [
        | inl (one, free, shared) ↦ omega (arith, right_number g is, shared)
        | inr own ↦ omega (arith, right_number g is, own)
      ]

  positive_gate : (g : ConeGate) → IsGateOf graphs query g → is_negated g.output ≡ false
  positive_gate g (inl is) = ap is_negated (left_output g is) ∙ negated-plain (inputs + 1 + is.place)
  positive_gate g (inr is) = ap is_negated (right_output g is) ∙ negated-plain (slice_index_or (right_variables graphs query) is.place 0)

  numbered_gate : (g h : ConeGate) → IsGateOf graphs query g → IsGateOf graphs query h → g.id ≡ h.id → g ≡ h
  numbered_gate g h (inl is) (inl there) same = one_place left (left_literals graphs query) query.left.output 1 g h is there same
  numbered_gate g h (inl is) (inr there) same = absurd (omega (arith, same, is.id_is, there.id_is, is.there))
  numbered_gate g h (inr is) (inl there) same = absurd (omega (arith, same, is.id_is, there.id_is, there.there))
  numbered_gate g h (inr is) (inr there) same = one_place right (right_literals graphs query) query.right.output from_right g h is there same

  -- two gates of the right circuit with one variable are one
  right_places : (g h : ConeGate) (is : IsRight g) (there : IsRight h) → variable_of g.output ≡ variable_of h.output → is.place ≡ there.place
  right_places g h is there same =
      let e : slice_index_or (right_variables graphs query) is.place 0 ≡ slice_index_or (right_variables graphs query) there.place 0 = sym (right_number g is) ∙ (same ∙ right_number h there) in
      elim (variable_cases graphs query fits is.place is.there) [
        | inl (one, free, shared) ↦
            let sizes = ap (λ (m : Net). length m.gates) (one_net graphs query fits one) in
            elim (variable_cases graphs query fits there.place there.there) [
              | inl (two, loose, also) ↦ omega (arith, e, shared, also)
              | inr other ↦ absurd (omega (arith, e, shared, other, sizes, is.there))
            ]
        | inr own ↦
            elim (variable_cases graphs query fits there.place there.there) [
              | inl (two, loose, also) ↦
                  let sizes = ap (λ (m : Net). length m.gates) (one_net graphs query fits two) in
                  absurd (omega (arith, e, own, also, sizes, there.there))
              | inr other ↦ omega (arith, e, own, other)
            ]
      ]

  -- a gate of the left circuit and one of the right one with one variable are the same gate, with the same operands
  shared_operands : (g h : ConeGate) (is : IsLeft g) (there : IsRight h) → variable_of g.output ≡ variable_of h.output → (g.first ≡ h.first) × (g.second ≡ h.second)
  shared_operands g h is there same =
      elim (variable_cases graphs query fits there.place there.there) [
        | inr own ↦ absurd (omega (arith, same, left_number g is, right_number h there, own, is.there))
        | inl (one, free, shared) ↦
            let net = one_net graphs query fits one in
            let place : is.place ≡ there.place = omega (arith, same, left_number g is, right_number h there, shared) in
            let t = there.place in
            let early_a : signal_of (slice_index_or right.gates t no_gate).a < inputs + 1 + t = omega (arith, right_half.ordered.first_operands t no_gate there.there, fits.right.inputs) in
            let early_b : signal_of (slice_index_or right.gates t no_gate).b < inputs + 1 + t = omega (arith, right_half.ordered.second_operands t no_gate there.there, fits.right.inputs) in
            let flags = operand_flags graphs query fits t no_gate right_half.ordered there.there free in
            let of_a : (slice_index_or left.gates is.place no_gate).a ≡ (slice_index_or right.gates t no_gate).a = ap (λ (m : Net). (slice_index_or m.gates is.place no_gate).a) net ∙ ap (λ u. (slice_index_or right.gates u no_gate).a) place in
            let of_b : (slice_index_or left.gates is.place no_gate).b ≡ (slice_index_or right.gates t no_gate).b = ap (λ (m : Net). (slice_index_or m.gates is.place no_gate).b) net ∙ ap (λ u. (slice_index_or right.gates u no_gate).b) place in
            let a = same_literals graphs query fits one (signal_of (slice_index_or right.gates t no_gate).a) (omega (arith, early_a, there.there)) flags.0 in
            let b = same_literals graphs query fits one (signal_of (slice_index_or right.gates t no_gate).b) (omega (arith, early_b, there.there)) flags.1 in (
              is.first_is no_gate ∙ (ap (stands_for (left_literals graphs query)) of_a ∙ (signed (slice_index_or right.gates t no_gate).a a ∙ sym (there.first_is no_gate))),
              is.second_is no_gate ∙ (ap (stands_for (left_literals graphs query)) of_b ∙ (signed (slice_index_or right.gates t no_gate).b b ∙ sym (there.second_is no_gate))),
            )
      ]
    where
      signed : (l : Lit) → stand_in (left_literals graphs query) (signal_of l) ≡ stand_in (right_literals graphs query) (signal_of l) → stands_for (left_literals graphs query) l ≡ stands_for (right_literals graphs query) l
      signed l e = ap (λ (x : SatLit). cond (inverts l) (opposite x) x) e

  same_operands : (g h : ConeGate) → IsGateOf graphs query g → IsGateOf graphs query h → variable_of g.output ≡ variable_of h.output → (g.first ≡ h.first) × (g.second ≡ h.second)
  same_operands g h (inl is) (inl there) same =
      let id : g.id ≡ h.id = omega (arith, same, left_number g is, left_number h there, is.id_is, there.id_is) in
      let one = one_place left (left_literals graphs query) query.left.output 1 g h is there id in
      (ap (λ (x : ConeGate). x.first) one, ap (λ (x : ConeGate). x.second) one)
  same_operands g h (inl is) (inr there) same = shared_operands g h is there same
  same_operands g h (inr is) (inl there) same =
      let other = shared_operands h g there is (sym same) in
      (sym other.0, sym other.1)
  same_operands g h (inr is) (inr there) same =
      let id : g.id ≡ h.id = omega (arith, right_places g h is there same, is.id_is, there.id_is) in
      let one = one_place right (right_literals graphs query) query.right.output from_right g h is there id in
      (ap (λ (x : ConeGate). x.first) one, ap (λ (x : ConeGate). x.second) one)

  early : (g h : ConeGate) → IsGateOf graphs query g → IsGateOf graphs query h
      → (variable_of g.first ≡ variable_of h.output → HasGate (IsGateOf graphs query) (g.id + 2) (variable_of h.output))
      × (variable_of g.second ≡ variable_of h.output → HasGate (IsGateOf graphs query) (g.id + 2) (variable_of h.output))
  early g h (inl is) of =
      operands_early inputs left query.left.feed (left_variables graphs query) left_half query.left.output 1 (IsGateOf graphs query)
      (λ _ reached. inl reached) g is (variable_of h.output) (high h of)
  early g h (inr is) of =
      operands_early inputs right query.right.feed (right_variables graphs query) right_half query.right.output from_right (IsGateOf graphs query)
      (λ _ reached. inr reached) g is (variable_of h.output) (high h of)

  pub nested : AreNested (IsGateOf graphs query)
  nested = record {
    positive = positive_gate;
    numbered = numbered_gate;
    same_first = λ g h is there same. (same_operands g h is there same).0;
    same_second = λ g h is there same. (same_operands g h is there same).1;
    first_early = λ g h is there. (early g h is there).0;
    second_early = λ g h is there. (early g h is there).1;
  }
