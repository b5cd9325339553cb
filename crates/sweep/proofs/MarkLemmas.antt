-- Signals that some output reaches, marked from the outputs down.
use Rattle.std.proofs.Common.{◌≡◌, ◌⊎◌, ℕ, ◌+◌, ◌<◌, Bool, true, false, List, length, set, replicate, slice_index_or, inl, inr, refl, sym, ap, subst, ◌∙◌, arith}
use Rattle.std.proofs.lemmas.Bool.{cases_lt, false≢true}
use Rattle.std.proofs.lemmas.Bool.Decides.{eqb_tells}
use Rattle.std.proofs.lemmas.List.{get_or-replicate, get_or-set_other, get_or-set_same, get_or_default, length-replicate, length-set}
use Rattle.circuits.specs.declared.netlist.Lit.{Lit}
use Rattle.circuits.specs.declared.netlist.Gate.{Gate}
use Rattle.circuits.specs.Literals.{bit, false_literal, signal_of}
use Rattle.circuits.specs.Netlists.{Net, IsOrdered, signals_of}
use Rattle.net_core.proofs.ConeLemmas.{within_bit}
use Rattle.sweep.specs.Pruning.{AreMarked, AreMarkedFrom, AreUsed, IsFanInOfAll, gate_at}

-- one mark more
bit_added : (marks : List Bool) (i s : ℕ) → i < length marks → bit marks s ≡ true → bit (set marks i true) s ≡ true
bit_added marks i s there is =
    elim (eqb_tells s i) [
      | inl (found, e) ↦ subst (λ n. bit (set marks i true) n ≡ true) (sym e) (get_or-set_same marks i true false there)
      | inr (found, apart) ↦ get_or-set_other marks i s true false apart ∙ is
    ]

bit_from_added : (marks : List Bool) (i s : ℕ) → bit (set marks i true) s ≡ true → (s ≡ i) ⊎ (bit marks s ≡ true)
bit_from_added marks i s is =
    elim (eqb_tells s i) [
      | inl (found, e) ↦ inl e
      | inr (found, apart) ↦ inr (sym (get_or-set_other marks i s true false apart) ∙ is)
    ]

-- literals whose signals are marked
pub marked_none : (literals : List Lit) (old : List Bool) → AreMarked literals 0 old old
marked_none literals old = record {
  room = refl;
  now = λ k below. absurd (omega (arith, below));
  only = λ s is. inl is;
}

pub marked_more : (literals : List Lit) (n : ℕ) (old mid new : List Bool) → signal_of (slice_index_or literals n false_literal) < length mid → new ≡ set mid (signal_of (slice_index_or literals n false_literal)) true → AreMarked literals n old mid → AreMarked literals (n + 1) old new
marked_more literals n old mid new there is marked =
    subst (AreMarked literals (n + 1) old) (sym is) (record {
      room = length-set mid s true ∙ marked.room;
      now = λ k below. elim (cases_lt k n) [
        | inl less ↦ bit_added mid s (signal_of (slice_index_or literals k false_literal)) there (marked.now k less)
        | inr last ↦
            let e : k ≡ n = omega (arith, last, below) in
            subst (λ j. bit (set mid s true) (signal_of (slice_index_or literals j false_literal)) ≡ true) (sym e) (get_or-set_same mid s true false there)
      ];
      only = λ u bit_is. elim (bit_from_added mid s u bit_is) [
        | inl e ↦ inr (n, omega arith, sym e)
        | inr was ↦ elim (marked.only u was) [
          | inl before ↦ inl before
          | inr found ↦ inr (found.0, omega (arith, found.1), found.2)
        ]
      ];
    })
  where
    s : ℕ
    s = signal_of (slice_index_or literals n false_literal)

-- those of the outputs, before any operand
pub marked_outputs : (net : Net) (none used : List Bool) → none ≡ replicate (signals_of net) false → AreMarked net.outputs (length net.outputs) none used → AreMarkedFrom net (length net.gates) used
marked_outputs net none used none_is marked = record {
  count = marked.room ∙ (ap length none_is ∙ length-replicate (signals_of net) false);
  outputs = λ k d below. ap (λ (l : Lit). bit used (signal_of l)) (get_or_default net.outputs k d false_literal below) ∙ marked.now k below;
  operands = λ t d below from. absurd (omega (arith, below, from));
  only = λ s is set fan. elim (marked.only s is) [
    | inl before ↦ absurd (never s (subst (λ (bs : List Bool). bit bs s ≡ true) none_is before))
    | inr found ↦ subst (λ u. bit set u ≡ true) found.2 (fan.outputs found.0 false_literal found.1)
  ];
}
  where
    never : (s : ℕ) → bit (replicate (signals_of net) false) s ≡ true → ⊥
    never s is =
        let below : s < signals_of net = omega (arith, within_bit (replicate (signals_of net) false) s is, length-replicate (signals_of net) false) in
        false≢true (sym (get_or-replicate (signals_of net) s false false below) ∙ is)

-- a gate that isn't marked
pub gate_unmarked : (net : Net) (place : ℕ) (used : List Bool) → bit used (1 + net.inputs + place) ≡ false → AreMarkedFrom net (place + 1) used → AreMarkedFrom net place used
gate_unmarked net place used unmarked from = record {
  count = from.count;
  outputs = from.outputs;
  operands = λ t d below at is. elim (cases_lt place t) [
    | inl later ↦ from.operands t d below (omega (arith, later)) is
    | inr first ↦
        let e : t ≡ place = omega (arith, first, at) in
        absurd (false≢true (sym unmarked ∙ subst (λ k. bit used (1 + net.inputs + k) ≡ true) e is))
  ];
  only = from.only;
}

-- a gate that is: its operands are marked
pub gate_marked : (net : Net) (place : ℕ) (old new : List Bool) → IsOrdered net → place < length net.gates → bit old (1 + net.inputs + place) ≡ true → new ≡ set (set old (signal_of (gate_at net place).a) true) (signal_of (gate_at net place).b) true → AreMarkedFrom net (place + 1) old → AreMarkedFrom net place new
gate_marked net place old new ordered there marked is from =
    subst (AreMarkedFrom net place) (sym is) (record {
      count = length-set mid b true ∙ (length-set old a true ∙ from.count);
      outputs = λ k d below. grows (signal_of (slice_index_or net.outputs k d)) (from.outputs k d below);
      operands = λ t d below at bit_is. elim (cases_lt place t) [
        | inl later ↦
            let was = before t (omega (arith, later)) bit_is in
            let both = from.operands t d below (omega (arith, later)) was in
            (grows (signal_of (slice_index_or net.gates t d).a) both.0, grows (signal_of (slice_index_or net.gates t d).b) both.1)
        | inr first ↦
            let e : t ≡ place = omega (arith, first, at) in
            let gate_is : slice_index_or net.gates t d ≡ gate = ap (λ j. slice_index_or net.gates j d) e ∙ get_or_default net.gates place d gate_none there in (
              ap (λ (g : Gate). bit now (signal_of g.a)) gate_is ∙ bit_added mid b a b_there (get_or-set_same old a true false a_there),
              ap (λ (g : Gate). bit now (signal_of g.b)) gate_is ∙ get_or-set_same mid b true false b_there,
            )
      ];
      only = λ s bit_is. elim (bit_from_added mid b s bit_is) [
        | inl e ↦ (λ set fan. subst (λ u. bit set u ≡ true) (sym e) (reached set fan).1)
        | inr in_mid ↦ elim (bit_from_added old a s in_mid) [
          | inl e ↦ (λ set fan. subst (λ u. bit set u ≡ true) (sym e) (reached set fan).0)
          | inr was ↦ from.only s was
        ]
      ];
    })
  where
    gate_none : Gate
    gate_none = record { a = false_literal; b = false_literal }

    gate : Gate
    gate = gate_at net place

    a : ℕ
    a = signal_of (gate_at net place).a

    b : ℕ
    b = signal_of (gate_at net place).b

    mid : List Bool
    mid = set old (signal_of (gate_at net place).a) true

    now : List Bool
    now = set (set old (signal_of (gate_at net place).a) true) (signal_of (gate_at net place).b) true

    a_there : signal_of (gate_at net place).a < length old
    a_there = omega (arith, ordered.first_operands place gate_none there, from.count, there)

    b_there : signal_of (gate_at net place).b < length (set old (signal_of (gate_at net place).a) true)
    b_there = omega (arith, ordered.second_operands place gate_none there, from.count, there, length-set old (signal_of (gate_at net place).a) true)

    grows : (s : ℕ) → bit old s ≡ true → bit (set (set old (signal_of (gate_at net place).a) true) (signal_of (gate_at net place).b) true) s ≡ true
    grows s was = bit_added mid b s b_there (bit_added old a s a_there was)

    before : (t : ℕ) → place < t → bit (set (set old (signal_of (gate_at net place).a) true) (signal_of (gate_at net place).b) true) (1 + net.inputs + t) ≡ true → bit old (1 + net.inputs + t) ≡ true
    before t later bit_is = elim (bit_from_added mid b (1 + net.inputs + t) bit_is) [
      | inl e ↦ absurd (omega (arith, e, later, ordered.second_operands place gate_none there))
      | inr in_mid ↦ elim (bit_from_added old a (1 + net.inputs + t) in_mid) [
        | inl e ↦ absurd (omega (arith, e, later, ordered.first_operands place gate_none there))
        | inr was ↦ was
      ]
    ]

    reached : (set : List Bool) → IsFanInOfAll net set → (bit set (signal_of (gate_at net place).a) ≡ true) × (bit set (signal_of (gate_at net place).b) ≡ true)
    reached set fan = fan.operands place gate_none there (from.only (1 + net.inputs + place) marked set fan)

-- all operands are marked
pub used_of : (net : Net) (used : List Bool) → AreMarkedFrom net 0 used → AreUsed net used
used_of net used from = record {
  count = from.count;
  all = record {
    outputs = from.outputs;
    operands = λ t d below is. from.operands t d below (omega arith) is;
  };
  only = from.only;
}
