-- A signal of the right circuit that reaches no input whose feeds differ has the literal that it has in the left one.
use Rattle.std.proofs.Common.{◌≡◌, ◌⊎◌, ℕ, zero, suc, ◌+◌, ◌-◌, ◌<◌, cond, eqb, eqb-true, Bool, true, false, List, [], ◌∷◌, length, map, drop, slice_index_or, inl, inr, refl, sym, ◌∙◌, ap, arith}
use Rattle.std.specs.List.{range_with_len}
use Rattle.std.specs.Bool.{beq}
use Rattle.std.proofs.lemmas.Bool.{cases_lt, cases_Bool}
use Rattle.std.proofs.lemmas.Bool as lemmas
use Rattle.std.proofs.lemmas.List.{get_or-map, get_or_append_left, get_or-drop, length-map, length-drop}
use Rattle.std.proofs.lemmas.List.FromFn.{length-range_with_len, get_or-range_with_len}
use Rattle.circuits.specs.declared.netlist.Gate.{Gate}
use Rattle.circuits.specs.Literals.{bit, signal_of}
use Rattle.circuits.specs.Netlists.{IsOrdered, Net}
use Rattle.net_core.specs.Graph.{AreInOrder}
use Rattle.net_core.specs.Sides.{Graphs, graph_of}
use Rattle.claim_core.specs.declared.query.Feed.{Feed}
use Rattle.claim_core.specs.declared.query.Feed.TheVariants.{Fixed, Wire}
use Rattle.claim_core.specs.declared.query.Query.{Query}
use Rattle.claim_core.specs.Queries.{IsQuery, bits_in, circuit_of}
use Rattle.claim_core.specs.Formulas.{false_literal, feed_literal, feeds_differ, left_literals, left_variables, plain, reaches, right_literals, right_variables, same_feed, same_side, shared_from, signal_literals, stand_in}
use Rattle.claim_core.specs.ConeClauses.{left_gates}
use Rattle.claim_core.proofs.AssignmentLemmas.{one_side, shared_at}
use Rattle.claim_core.proofs.EqualLemmas.{bool_decides}
use Rattle.query_core.proofs.ReachingLemmas.{reaching_at, reaching_keeps}
use Rattle.claim_core.proofs.FormulaLemmas.{length-feeds_differ, reached_count, right_variable_count, stand_in_gate}

-- the literal of a gate is its variable
pub gate_literal : (n : ℕ) (feed : List Feed) (variables : List ℕ) (t : ℕ) → length feed ≡ n → t < length variables → stand_in (signal_literals feed variables) (n + 1 + t) ≡ plain (slice_index_or variables t 0)
gate_literal n feed variables t feeds there =
    let next : n + 1 + t ≡ suc (length feed + t) = omega (arith, feeds) in
    ap (stand_in (signal_literals feed variables)) next ∙ stand_in_gate feed variables t there

-- the literal of an input is that of what it gets
pub input_literal : (n : ℕ) (feed : List Feed) (variables : List ℕ) (i : ℕ) → length feed ≡ n → i < n → stand_in (signal_literals feed variables) (suc i) ≡ feed_literal (slice_index_or feed i (Fixed false))
input_literal n feed variables i feeds within =
    let here : i < length feed = omega (arith, feeds, within) in
    get_or_append_left (map feed_literal feed) (map plain variables) false_literal i (omega (arith, here, length-map feed feed_literal)) ∙ get_or-map feed_literal feed i (Fixed false) false_literal here

-- feeds that are the same have one literal
same_feeds : (feed other : Feed) → same_feed feed other ≡ true → feed_literal feed ≡ feed_literal other
same_feeds (Fixed b) (Fixed c) same = ap (λ x. feed_literal (Fixed x)) ((bool_decides b c).0 same)
same_feeds (Fixed b) (Wire place flip) same = cc
same_feeds (Wire place flip) (Fixed b) same = cc
same_feeds (Wire place flip) (Wire other sign) same =
    let both = lemmas.and_parts (eqb place other) (beq flip sign) same in
    ap (λ p. feed_literal (Wire p flip)) (eqb-true place other both.0) ∙ ap (λ b. feed_literal (Wire other b)) ((bool_decides flip sign).0 both.1)

feeds_stand : (left right : List Feed) (i : ℕ) → length left ≡ length right → i < length left → bit (feeds_differ left right) i ≡ false → feed_literal (slice_index_or left i (Fixed false)) ≡ feed_literal (slice_index_or right i (Fixed false))
feeds_stand [] right i same below free = absurd (omega (arith, below))
feeds_stand (feed ∷ left) [] i same below free = absurd (omega (arith, same))
feeds_stand (feed ∷ left) (other ∷ right) zero same below free = same_feeds feed other (lemmas.not-false (same_feed feed other) free)
feeds_stand (feed ∷ left) (other ∷ right) (suc i) same below free = feeds_stand left right i (omega (arith, same)) (omega (arith, below)) free

module _ (graphs : Graphs) (query : Query) (fits : IsQuery graphs query) where
  abbrev inputs : ℕ
  inputs = bits_in graphs query

  -- the first variable of the right circuit's own gates
  abbrev own : ℕ
  own = bits_in graphs query + 1 + left_gates graphs query

  abbrev count : ℕ
  count = length (circuit_of graphs query.right).gates

  abbrev flags : List Bool
  flags = reaches query (circuit_of graphs query.right).gates

  same_count : length query.left.feed ≡ length query.right.feed
  same_count = fits.left.feed ∙ sym fits.right.feed

  flag_count : length flags ≡ inputs + 1 + count
  flag_count = omega (arith, reached_count query (circuit_of graphs query.right).gates same_count, fits.left.feed)

  chosen : (t : ℕ) (s : Bool) → same_side query.left.side query.right.side ≡ s → slice_index_or (right_variables graphs query) t 0 ≡ slice_index_or (cond s (shared_from (inputs + 1) own (drop (inputs + 1) flags)) (range_with_len own count)) t 0
  chosen t s is = ap (λ b. slice_index_or (cond b (shared_from (inputs + 1) own (drop (inputs + 1) flags)) (range_with_len own count)) t 0) is

  own_variable : (t : ℕ) → same_side query.left.side query.right.side ≡ false → t < count → slice_index_or (right_variables graphs query) t 0 ≡ own + t
  own_variable t other there = chosen t false other ∙ get_or-range_with_len own count t 0 there

  variable_by_flag : (t : ℕ) → same_side query.left.side query.right.side ≡ true → t < count → slice_index_or (right_variables graphs query) t 0 ≡ cond (bit flags (inputs + 1 + t)) (own + t) (inputs + 1 + t)
  variable_by_flag t one there =
      let dropped = drop (inputs + 1) flags in
      chosen t true one ∙ (shared_at (inputs + 1) own dropped t (omega (arith, length-drop (inputs + 1) flags, flag_count, there)) ∙ ap (λ b. cond b (own + t) (inputs + 1 + t)) (get_or-drop (inputs + 1) flags t false))

  -- the variables of gates
  pub left_variable : (t : ℕ) → t < left_gates graphs query → slice_index_or (left_variables graphs query) t 0 ≡ inputs + 1 + t
  left_variable t there = get_or-range_with_len (inputs + 1) (left_gates graphs query) t 0 there

  pub variable_cases : (t : ℕ) → t < count → ((same_side query.left.side query.right.side ≡ true) × (bit flags (inputs + 1 + t) ≡ false) × (slice_index_or (right_variables graphs query) t 0 ≡ inputs + 1 + t)) ⊎ (slice_index_or (right_variables graphs query) t 0 ≡ own + t)
  variable_cases t there =
      elim (cases_Bool (same_side query.left.side query.right.side)) [
        | inr other ↦ inr (own_variable t other there)
        | inl one ↦
            elim (cases_Bool (bit flags (inputs + 1 + t))) [
              | inl set ↦ inr (variable_by_flag t one there ∙ ap (λ b. cond b (own + t) (inputs + 1 + t)) set)
              | inr free ↦ inl (one, free, variable_by_flag t one there ∙ ap (λ b. cond b (own + t) (inputs + 1 + t)) free)
            ]
      ]

  -- the two circuits are one
  pub one_net : same_side query.left.side query.right.side ≡ true → circuit_of graphs query.left ≡ circuit_of graphs query.right
  one_net one = ap (graph_of graphs) (one_side query.left.side query.right.side one)

  flag_of_input : (i : ℕ) → i < inputs → bit flags (suc i) ≡ bit (feeds_differ query.left.feed query.right.feed) i
  flag_of_input i within =
      reaching_keeps (false ∷ feeds_differ query.left.feed query.right.feed) (circuit_of graphs query.right).gates (suc i) (omega (arith, within, fits.left.feed, length-feeds_differ query.left.feed query.right.feed same_count))

  pub same_literals : same_side query.left.side query.right.side ≡ true → (s : ℕ) → s < inputs + 1 + count → bit flags s ≡ false → stand_in (left_literals graphs query) s ≡ stand_in (right_literals graphs query) s
  same_literals one zero below free = refl
  same_literals one (suc i) below free =
      elim (cases_lt i inputs) [
        | inl input ↦
            input_literal inputs query.left.feed (left_variables graphs query) i fits.left.feed input
            ∙ (feeds_stand query.left.feed query.right.feed i same_count (omega (arith, input, fits.left.feed)) (sym (flag_of_input i input) ∙ free) ∙ sym (input_literal inputs query.right.feed (right_variables graphs query) i fits.right.feed input))
        | inr gate ↦ gate_case (i - inputs) (omega (arith, gate)) (omega (arith, gate, below))
      ]
    where
      gate_case : (t : ℕ) → suc i ≡ inputs + 1 + t → t < count → stand_in (left_literals graphs query) (suc i) ≡ stand_in (right_literals graphs query) (suc i)
      gate_case t at there =
          let there_left : t < left_gates graphs query = omega (arith, there, ap (λ (m : Net). length m.gates) (one_net one)) in
          let left = gate_literal inputs query.left.feed (left_variables graphs query) t fits.left.feed (omega (arith, there_left, length-range_with_len (inputs + 1) (left_gates graphs query))) in
          let right = gate_literal inputs query.right.feed (right_variables graphs query) t fits.right.feed (omega (arith, there, right_variable_count graphs query fits)) in
          let variable = variable_by_flag t one there ∙ ap (λ b. cond b (own + t) (inputs + 1 + t)) (sym (ap (bit flags) at) ∙ free) in
          ap (stand_in (left_literals graphs query)) at
          ∙ (left ∙ (ap plain (left_variable t there_left ∙ sym variable) ∙ (sym right ∙ ap (stand_in (right_literals graphs query)) (sym at))))

  -- the operands of a gate that reaches no such input reach none either
  pub operand_flags : (t : ℕ) (d : Gate) → IsOrdered (circuit_of graphs query.right) → t < count → bit flags (inputs + 1 + t) ≡ false → (bit flags (signal_of (slice_index_or (circuit_of graphs query.right).gates t d).a) ≡ false) × (bit flags (signal_of (slice_index_or (circuit_of graphs query.right).gates t d).b) ≡ false)
  operand_flags t d ordered there free =
      let start = false ∷ feeds_differ query.left.feed query.right.feed in
      let gates = (circuit_of graphs query.right).gates in
      let size : length start ≡ inputs + 1 = omega (arith, fits.left.feed, length-feeds_differ query.left.feed query.right.feed same_count) in
      let at : length start + t ≡ inputs + 1 + t = omega (arith, size) in
      let order : AreInOrder (length start) gates = record {
        first_operands = λ k e below. omega (arith, size, fits.right.inputs, ordered.first_operands k e below);
        second_operands = λ k e below. omega (arith, size, fits.right.inputs, ordered.second_operands k e below);
      } in
      let either = reaching_at start gates t d order there in
      lemmas.or_parts (bit flags (signal_of (slice_index_or gates t d).a)) (bit flags (signal_of (slice_index_or gates t d).b)) (sym either ∙ (ap (bit flags) at ∙ free))
