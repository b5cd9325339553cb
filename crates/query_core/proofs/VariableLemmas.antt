-- The variables that stand for gates, and the clauses by them.
use Rattle.std.proofs.Common.{[], ◌≡◌, ℕ, zero, suc, ◌+◌, ◌*◌, ◌-◌, ◌<◌, cond, Bool, false, List, ◌∷◌, length, drop, slice_index_or, inl, inr, refl, sym, ap, subst, ◌∙◌, arith}
use Rattle.std.proofs.lemmas.Bool.{cases_lt}
use Rattle.std.proofs.lemmas.List.{get_or_default, get_or-drop, length-drop}
use Rattle.std.proofs.lemmas.List.FromFn.{get_or-range_with_len, length-range_with_len}
use Rattle.circuits.specs.declared.netlist.Lit.{Lit}
use Rattle.circuits.specs.declared.netlist.Gate.{Gate}
use Rattle.circuits.specs.Literals.{bit, signal_of, is_negated as inverts}
use Rattle.circuits.specs.Netlists.{Net, IsOrdered}
use Rattle.cnf_core.specs.declared.literal.SatLit.{SatLit}
use Rattle.cnf_core.specs.Clauses.{clause_at, opposite}
use Rattle.net_core.specs.Sides.{Graphs}
use Rattle.net_core.specs.Cones.{Reaches, ReachesGate, output_signal}
use Rattle.claim_core.specs.declared.query.Feed.{Feed}
use Rattle.claim_core.specs.declared.query.Feed.TheVariants.{Fixed}
use Rattle.claim_core.specs.declared.query.Query.{Query}
use Rattle.query_core.specs.declared.variables.Variables.{Variables}
use Rattle.query_core.specs.declared.variables.Variables.TheVariants.{Own, Shared}
use Rattle.claim_core.specs.Queries.{circuit_of}
use Rattle.claim_core.specs.Formulas.{and_clauses, clauses_by, half_clauses, left_literals, left_variables, output_literal, plain, query_clauses, right_literals, right_variables, shared_from, signal_literals, stand_in, stands_for}
use Rattle.claim_core.specs.ConeClauses.{IsConeId, left_gates, right_gates}
use Rattle.query_core.specs.Variables.{AreFor, IsConing, IsHalf, clauses_over, literals_by, variable_at, variables_in}
use Rattle.claim_core.proofs.FormulaLemmas.{at_left, at_outputs, at_right, gate_clause_at, gate_clause_count, length-shared_from, right_variable_count, stand_in_gate, stand_in_input}
use Rattle.claim_core.proofs.AssignmentLemmas.{shared_at}
use Rattle.claim_core.proofs.ConeLaws.{first_reached, second_reached}
pub use Rattle.claim_core.proofs.ConeLaws.{reached_there}

-- how many there are
pub variable_count : (variables : Variables) (count : ℕ) → AreFor count variables → length (variables_in variables count) ≡ count
variable_count (Own first) count for = length-range_with_len first count
variable_count (Shared first own marked) count for =
    omega (arith, length-shared_from first own (drop first marked), length-drop first marked, for.marks)

-- it stands at the gate's place
pub variable_in : (variables : Variables) (count t : ℕ) → AreFor count variables → t < count → slice_index_or (variables_in variables count) t 0 ≡ variable_at variables t
variable_in (Own first) count t for below = get_or-range_with_len first count t 0 below
variable_in (Shared first own marked) count t for below =
    shared_at first own (drop first marked) t (omega (arith, length-drop first marked, for.marks, below))
    ∙ ap (λ b. cond b (own + t) (first + t)) (get_or-drop first marked t false)

-- by the variables of its gates, what stands for a gate
pub stand_in_by : (net : Net) (feed : List Feed) (variables : Variables) (output s : ℕ) → IsHalf net feed variables output → length feed < s → s < net.inputs + 1 + length net.gates → plain (variable_at variables (s - 1 - length feed)) ≡ stand_in (literals_by net feed variables) s
stand_in_by net feed variables output s half after below =
    let n = length net.gates in
    let t = s - 1 - length feed in
    let there : t < n = omega (arith, after, below, half.feeds) in
    let at : s ≡ suc (length feed + t) = omega (arith, after) in
    let listed : t < length (variables_in variables n) = omega (arith, there, variable_count variables n half.gates) in
    sym (ap (stand_in (literals_by net feed variables)) at ∙ (stand_in_gate feed (variables_in variables n) t listed ∙ ap plain (variable_in variables n t half.gates there)))

-- where the variables are those of the query, so are the clauses
pub clauses_are : (graphs : Graphs) (query : Query) (left right : Variables) → variables_in left (left_gates graphs query) ≡ left_variables graphs query → variables_in right (right_gates graphs query) ≡ right_variables graphs query → clauses_over graphs query left right ≡ query_clauses graphs query
clauses_are graphs query left right left_is right_is =
    ap (λ ls. over ls (signal_literals query.right.feed (variables_in right (right_gates graphs query)))) (ap (signal_literals query.left.feed) left_is)
    ∙ ap (over (left_literals graphs query)) (ap (signal_literals query.right.feed) right_is)
  where
    over : List SatLit → List SatLit → List (List SatLit)
    over ls rs =
        clauses_by (half_clauses (circuit_of graphs query.left) ls) (half_clauses (circuit_of graphs query.right) rs) (output_literal (circuit_of graphs query.left) ls query.left.output query.left_value) (output_literal (circuit_of graphs query.right) rs query.right.output query.right_value)

-- Two lists of variables that are the same for the gates that output k reaches give these the same clauses.
record AgreeOn (net : Net) (k : ℕ) (vs ws : List ℕ) : Type 0 where
  size : length vs ≡ length net.gates
  same_size : length ws ≡ length net.gates
  same : (t : ℕ) → t < length net.gates → ReachesGate net k t → slice_index_or vs t 0 ≡ slice_index_or ws t 0

same_signal : (net : Net) (k : ℕ) (feed : List Feed) (vs ws : List ℕ) (s : ℕ) → length feed ≡ net.inputs → AgreeOn net k vs ws → s < 1 + net.inputs + length net.gates → Reaches net k s → stand_in (signal_literals feed vs) s ≡ stand_in (signal_literals feed ws) s
same_signal net k feed vs ws zero feeds agree below reached = refl
same_signal net k feed vs ws (suc i) feeds agree below reached =
    elim (cases_lt i (length feed)) [
      | inl input ↦
          let f = slice_index_or feed i (Fixed false) in
          let is : f ≡ slice_index_or feed i f = get_or_default feed i (Fixed false) f input in
          sym (stand_in_input feed vs i f input is) ∙ stand_in_input feed ws i f input is
      | inr gate ↦
          let t = i - length feed in
          let at : suc i ≡ suc (length feed + t) = omega (arith, gate) in
          let there : t < length net.gates = omega (arith, gate, below, feeds) in
          let e : suc i ≡ 1 + net.inputs + t = omega (arith, gate, feeds) in
          ap (stand_in (signal_literals feed vs)) at
          ∙ (stand_in_gate feed vs t (omega (arith, there, agree.size))
          ∙ (ap plain (agree.same t there (subst (Reaches net k) e reached))
          ∙ (sym (stand_in_gate feed ws t (omega (arith, there, agree.same_size))) ∙ ap (stand_in (signal_literals feed ws)) (sym at))))
    ]

same_literal : (ls ms : List SatLit) (l : Lit) → stand_in ls (signal_of l) ≡ stand_in ms (signal_of l) → stands_for ls l ≡ stands_for ms l
same_literal ls ms l same = ap (λ s. cond (inverts l) (opposite s) s) same

same_clause : (net : Net) (k : ℕ) (feed : List Feed) (vs ws : List ℕ) (t r : ℕ) → IsOrdered net → length feed ≡ net.inputs → AgreeOn net k vs ws → t < length net.gates → ReachesGate net k t → r < 3 → clause_at (half_clauses net (signal_literals feed vs)) (3 * t + r) ≡ clause_at (half_clauses net (signal_literals feed ws)) (3 * t + r)
same_clause net k feed vs ws t r ordered feeds agree there reached small =
    let none : Gate = record { a = record { 0 = 0 }; b = record { 0 = 0 } } in
    let gate = slice_index_or net.gates t none in
    let ls = signal_literals feed vs in
    let ms = signal_literals feed ws in
    let first = net.inputs + 1 in
    let at : net.inputs + 1 + t ≡ 1 + net.inputs + t = omega arith in
    let early_a = ordered.first_operands t none there in
    let early_b = ordered.second_operands t none there in
    let v = same_signal net k feed vs ws (first + t) feeds agree (omega (arith, there)) (subst (Reaches net k) (sym at) reached) in
    let a = same_literal ls ms gate.a (same_signal net k feed vs ws (signal_of gate.a) feeds agree (omega (arith, early_a, there)) (first_reached net k t none there reached)) in
    let b = same_literal ls ms gate.b (same_signal net k feed vs ws (signal_of gate.b) feeds agree (omega (arith, early_b, there)) (second_reached net k t none there reached)) in
    gate_clause_at ls first net.gates none t r there small
    ∙ (ap (λ l. clause_at (and_clauses l (stands_for ls gate.a) (stands_for ls gate.b)) r) v
    ∙ (ap (λ l. clause_at (and_clauses (stand_in ms (first + t)) l (stands_for ls gate.b)) r) a
    ∙ (ap (λ l. clause_at (and_clauses (stand_in ms (first + t)) (stands_for ms gate.a) l) r) b ∙ sym (gate_clause_at ms first net.gates none t r there small))))

same_output : (net : Net) (k : ℕ) (feed : List Feed) (vs ws : List ℕ) (value : Bool) → IsOrdered net → length feed ≡ net.inputs → AgreeOn net k vs ws → k < length net.outputs → output_literal net (signal_literals feed vs) k value ≡ output_literal net (signal_literals feed ws) k value
same_output net k feed vs ws value ordered feeds agree there =
    let none : Lit = record { 0 = 0 } in
    let last = slice_index_or net.outputs k none in
    let within = ordered.outputs k none there in
    let same = same_literal (signal_literals feed vs) (signal_literals feed ws) last (same_signal net k feed vs ws (output_signal net k) feeds agree (omega (arith, within)) (λ other fan_in. fan_in.output)) in
    ap (λ l. cond value l (opposite l)) same

-- a clause of the cones is given right by variables that are right for the gates of the cones
pub cone_clause : (graphs : Graphs) (query : Query) (left right : Variables) (ids : List ℕ) (id : ℕ) → IsOrdered (circuit_of graphs query.left) → IsOrdered (circuit_of graphs query.right) → IsConing graphs query left right ids → IsConeId graphs query id → clause_at (clauses_over graphs query left right) id ≡ clause_at (query_clauses graphs query) id
cone_clause graphs query left right ids id one_ordered ordered coning cone =
    ap (λ vs. clause_at (over (signal_literals query.left.feed vs) given) id) coning.left_is ∙ by_kind cone
  where
    one : Net
    one = circuit_of graphs query.left

    other : Net
    other = circuit_of graphs query.right

    l : ℕ
    l = left_gates graphs query

    vs : List ℕ
    vs = variables_in right (right_gates graphs query)

    ws : List ℕ
    ws = right_variables graphs query

    given : List SatLit
    given = signal_literals query.right.feed vs

    wanted : List SatLit
    wanted = right_literals graphs query

    ls : List SatLit
    ls = left_literals graphs query

    first : SatLit
    first = output_literal one ls query.left.output query.left_value

    last : List SatLit → SatLit
    last rs = output_literal other rs query.right.output query.right_value

    over : List SatLit → List SatLit → List (List SatLit)
    over ls rs = clauses_by (half_clauses one ls) (half_clauses other rs) (output_literal one ls query.left.output query.left_value) (last rs)

    left_count : length (half_clauses one ls) ≡ 3 * l
    left_count = gate_clause_count ls (one.inputs + 1) one.gates

    right_count : (rs : List SatLit) → length (half_clauses other rs) ≡ 3 * right_gates graphs query
    right_count rs = gate_clause_count rs (other.inputs + 1) other.gates

    feeds : length query.right.feed ≡ other.inputs
    feeds = coning.fits.right.feed ∙ sym coning.fits.right.inputs

    agree : AgreeOn other query.right.output vs ws
    agree = record {
      size = variable_count right (right_gates graphs query) coning.right_fits;
      same_size = right_variable_count graphs query coning.fits;
      same = λ t there reached. variable_in right (right_gates graphs query) t coning.right_fits there ∙ coning.right_is t reached;
    }

    -- a clause by its number, whatever the literals of the right circuit are
    left_at : (rs : List SatLit) (k : ℕ) → id ≡ 1 + k → k < 3 * l → clause_at (over ls rs) id ≡ clause_at (half_clauses one ls) k
    left_at rs k is below = at_left (half_clauses one ls) (half_clauses other rs) first (last rs) id k is (omega (arith, below, left_count))

    right_at : (rs : List SatLit) (k : ℕ) → id ≡ 1 + 3 * l + k → k < 3 * right_gates graphs query → clause_at (over ls rs) id ≡ clause_at (half_clauses other rs) k
    right_at rs k is below =
        at_right (half_clauses one ls) (half_clauses other rs) first (last rs) id k (omega (arith, is, left_count)) (omega (arith, below, right_count rs))

    outputs_at : (rs : List SatLit) (at : ℕ) → at ≡ 1 + 3 * (l + right_gates graphs query) → (clause_at (over ls rs) at ≡ first ∷ []) × (clause_at (over ls rs) (at + 1) ≡ last rs ∷ [])
    outputs_at rs at is = at_outputs (half_clauses one ls) (half_clauses other rs) first (last rs) at (omega (arith, is, left_count, right_count rs))

    by_kind : IsConeId graphs query id → clause_at (over ls given) id ≡ clause_at (over ls wanted) id
    by_kind (inl e) = ap (clause_at (over ls given)) e ∙ sym (ap (clause_at (over ls wanted)) e)
    by_kind (inr (inl of)) =
        let below : id - 1 < 3 * l = omega (arith, of.from, of.to, reached_there one query.left.output of.gate one_ordered coning.fits.left.output of.reached) in
        left_at given (id - 1) (omega (arith, of.from)) below ∙ sym (left_at wanted (id - 1) (omega (arith, of.from)) below)
    by_kind (inr (inr (inl of))) =
        let there = reached_there other query.right.output of.gate ordered coning.fits.right.output of.reached in
        let r = id - (1 + 3 * l + 3 * of.gate) in
        let small : r < 3 = omega (arith, of.from, of.to) in
        let at : id ≡ 1 + 3 * l + (3 * of.gate + r) = omega (arith, of.from) in
        let below : 3 * of.gate + r < 3 * right_gates graphs query = omega (arith, small, there) in
        right_at given (3 * of.gate + r) at below
        ∙ (same_clause other query.right.output query.right.feed vs ws of.gate r ordered feeds agree there of.reached small ∙ sym (right_at wanted (3 * of.gate + r) at below))
    by_kind (inr (inr (inr (inl e)))) = (outputs_at given id e).0 ∙ sym (outputs_at wanted id e).0
    by_kind (inr (inr (inr (inr e)))) =
        let at : id ≡ 1 + 3 * (l + right_gates graphs query) + 1 = omega (arith, e) in
        let same = same_output other query.right.output query.right.feed vs ws query.right_value ordered feeds agree coning.fits.right.output in
        subst (λ n. clause_at (over ls given) n ≡ clause_at (over ls wanted) n) (sym at) ((outputs_at given (1 + 3 * (l + right_gates graphs query)) refl).1 ∙ (ap (λ b. b ∷ []) same ∙ sym (outputs_at wanted (1 + 3 * (l + right_gates graphs query)) refl).1))

-- a gate that may be shared has the query's variable where its mark is right
pub shared_right : (first own t : ℕ) (marked whole : List Bool) → first + t < length whole → bit marked (first + t) ≡ bit whole (first + t) → variable_at (Shared first own marked) t ≡ slice_index_or (shared_from first own (drop first whole)) t 0
shared_right first own t marked whole below right =
    ap (λ b. cond b (own + t) (first + t)) (right ∙ sym (get_or-drop first whole t false))
    ∙ sym (shared_at first own (drop first whole) t (omega (arith, length-drop first whole, below)))
