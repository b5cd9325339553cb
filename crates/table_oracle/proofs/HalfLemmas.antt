-- One circuit of a query whose input bits are known: clause by clause its gates become known.
use Rattle.std.proofs.Common.{◌≡◌, ℕ, zero, suc, ◌+◌, ◌-◌, ◌<◌, not, cond, Bool, true, false, List, length, All, slice_index_or, inl, inr, sym, subst, arith}
use Rattle.std.proofs.lemmas.Bool.{cases_lt, or_left, or_right}
use Rattle.circuits.specs.declared.netlist.Lit.{Lit}
use Rattle.circuits.specs.Literals.{signal_of, is_negated as inverts}
use Rattle.circuits.specs.Netlists.{Net, IsOrdered, signals_of}
use Rattle.cnf_core.specs.declared.literal.SatLit.{SatLit}
use Rattle.cnf_core.specs.declared.effect.Effect.TheVariants.{Neither}
use Rattle.cnf_core.specs.Clauses.{clause_at, literal_of, opposite}
use Rattle.cnf_core.specs.Derivations.{effect_of, is_false, is_true}
use Rattle.claim_core.specs.declared.query.Feed.{Feed}
use Rattle.claim_core.specs.declared.query.Feed.TheVariants.{Fixed, Wire}
use Rattle.claim_core.specs.Queries.{IsWired}
use Rattle.claim_core.specs.Formulas.{and_clauses, false_literal, feed_literal, signal_literals, stand_in, stands_for, true_literal}
use Rattle.joint_hash.proofs.GateLemmas.{no_gate}
use Rattle.joint_hash.proofs.SharedLemmas.{input_literal}
use Rattle.table_oracle.proofs.KnownLemmas.{AreApart, IsHeld, IsKnown, gate_held, gate_known, known_opposite}

-- the three clauses of a gate
abbrev pub clauses_of_gate : Net → List SatLit → ℕ → List (List SatLit)
clauses_of_gate net literals t =
    and_clauses (stand_in literals (net.inputs + 1 + t)) (stands_for literals (slice_index_or net.gates t no_gate).a) (stands_for literals (slice_index_or net.gates t no_gate).b)

-- A circuit of a query, over n bits that are known. The clauses of its first gates are held.
pub record IsHalfHeld (made : List SatLit) (n : ℕ) (net : Net) (feed : List Feed) (variables : List ℕ) (upto : ℕ) : Type 0 where
  pub first : is_true made true_literal ≡ true
  pub apart : AreApart made
  pub ordered : IsOrdered net
  pub inputs : net.inputs ≡ n
  pub feeds : length feed ≡ n
  pub wired : All (IsWired n) feed
  pub bits : (i : ℕ) (b : Bool) → i < n → IsKnown made (literal_of (1 + i) b)
  pub held : (t r : ℕ) → t < upto → t < length net.gates → r < 3 → IsHeld made (clause_at (clauses_of_gate net (signal_literals feed variables) t) r)

-- a literal of a circuit is known where the literal that stands for its signal is
literal_known : (made literals : List SatLit) (l : Lit) → IsKnown made (stand_in literals (signal_of l)) → IsKnown made (stands_for literals l)
literal_known made literals l known = by_sign (inverts l)
  where
    by_sign : (s : Bool) → IsKnown made (cond s (opposite (stand_in literals (signal_of l))) (stand_in literals (signal_of l)))
    by_sign true = known_opposite made (stand_in literals (signal_of l)) known
    by_sign false = known

constant_known : (made : List SatLit) (b : Bool) → is_true made true_literal ≡ true → IsKnown made (literal_of 0 b)
constant_known made true first = or_left (is_true made true_literal) (is_false made true_literal) first
constant_known made false first = or_right (is_true made false_literal) (is_false made false_literal) first

fed_known : (made : List SatLit) (n : ℕ) (feed : Feed) → is_true made true_literal ≡ true → ((i : ℕ) (b : Bool) → i < n → IsKnown made (literal_of (1 + i) b)) → IsWired n feed → IsKnown made (feed_literal feed)
fed_known made n (Fixed b) first bits wired = constant_known made b first
fed_known made n (Wire place flip) first bits wired = bits place (not flip) wired

module _ (made : List SatLit) (n : ℕ) (net : Net) (feed : List Feed) (variables : List ℕ) (upto : ℕ) (half : IsHalfHeld made n net feed variables upto) where
  abbrev pub literals : List SatLit
  literals = signal_literals feed variables

  input_known : (i : ℕ) → i < n → IsKnown made (stand_in literals (suc i))
  input_known i within =
      let here : i < length feed = omega (arith, within, half.feeds) in
      let wire : Feed = Fixed false in
      let stands : stand_in literals (suc i) ≡ feed_literal (slice_index_or feed i wire) = input_literal n feed variables i half.feeds within in
      subst (IsKnown made) (sym stands) (fed_known made n (slice_index_or feed i wire) half.first half.bits (half.wired i wire here))

  -- each signal below a number is known, the first gates among them
  known_below : (m s : ℕ) → s < m → s < 1 + n + upto → s < signals_of net → IsKnown made (stand_in literals s)
  known_below zero s less early there = absurd (omega (arith, less))
  known_below (suc m) zero less early there = constant_known made false half.first
  known_below (suc m) (suc i) less early there =
      elim (cases_lt i n) [
        | inl input ↦ input_known i input
        | inr gate ↦
            let e : net.inputs + 1 + (i - n) ≡ suc i = omega (arith, gate, half.inputs) in
            let within : i - n < length net.gates = omega (arith, gate, half.inputs, there) in
            let first : i - n < upto = omega (arith, gate, early) in
            subst (λ s. IsKnown made (stand_in literals s)) e (gate_case (i - n) within first (omega (arith, less, gate)) (λ s low. known_below m s (omega (arith, low, less, gate, half.inputs)) (omega (arith, low, first)) (omega (arith, low, within, half.inputs))))
      ]
    where
      gate_case : (t : ℕ) → t < length net.gates → t < upto → n + t < suc m → ((s : ℕ) → s < 1 + n + t → IsKnown made (stand_in literals s)) → IsKnown made (stand_in literals (net.inputs + 1 + t))
      gate_case t within first less smaller =
          let gate = slice_index_or net.gates t no_gate in
          let early_a = half.ordered.first_operands t no_gate within in
          let early_b = half.ordered.second_operands t no_gate within in
          gate_known made (stand_in literals (net.inputs + 1 + t)) (stands_for literals gate.a) (stands_for literals gate.b) half.apart (literal_known made literals gate.a (smaller (signal_of gate.a) (omega (arith, early_a, half.inputs)))) (literal_known made literals gate.b (smaller (signal_of gate.b) (omega (arith, early_b, half.inputs)))) (half.held t 0 first within (omega arith)) (half.held t 1 first within (omega arith)) (half.held t 2 first within (omega arith))

  -- the next gate's clauses are held where they leave nothing open
  pub next_held : (r : ℕ) → upto < length net.gates → r < 3 → effect_of made (clause_at (clauses_of_gate net literals upto) r) ≡ Neither → IsHeld made (clause_at (clauses_of_gate net literals upto) r)
  next_held r within small neither =
      let gate = slice_index_or net.gates upto no_gate in
      let early_a = half.ordered.first_operands upto no_gate within in
      let early_b = half.ordered.second_operands upto no_gate within in
      let below : (s : ℕ) → s < 1 + n + upto → IsKnown made (stand_in literals s) = λ s low. known_below (suc s) s (omega arith) low (omega (arith, low, within, half.inputs)) in
      gate_held made (stand_in literals (net.inputs + 1 + upto)) (stands_for literals gate.a) (stands_for literals gate.b) r (literal_known made literals gate.a (below (signal_of gate.a) (omega (arith, early_a, half.inputs)))) (literal_known made literals gate.b (below (signal_of gate.b) (omega (arith, early_b, half.inputs)))) small neither
