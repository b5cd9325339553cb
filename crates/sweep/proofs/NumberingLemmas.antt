-- Numbers of the signals that stay.
use Rattle.std.proofs.Common.{◌≡◌, ℕ, zero, suc, ◌+◌, ◌-◌, ◌<◌, ◌≤◌, ◌||◌, nat_lt, Bool, true, false, List, [], ◌∷◌, ◌++◌, length, take, drop, map, All, AllPairs, Contains, slice_index_or, inl, inr, refl, sym, ap, subst, ◌∙◌, arith}
use Rattle.std.proofs.lemmas.Bool.{cases_lt, false≢true, le-ltb, lt-ltb}
use Rattle.std.proofs.lemmas.List.{get_or_append_left, get_or-drop, get_or-take, get_or_push, length-take, length_push}
use Rattle.std.proofs.lemmas.List.Elements.{All-contains, All-nil, All-push, Contains-get_or}
use Rattle.std.proofs.lemmas.List.Quantifiers.{all_pairs_push}
use Rattle.circuits.specs.declared.netlist.Lit.{Lit}
use Rattle.circuits.specs.declared.netlist.Gate.{Gate}
use Rattle.circuits.specs.Literals.{bit, false_literal, plain_literal, signal_of}
use Rattle.circuits.specs.Netlists.{Net, IsOrdered, signals_of}
use Rattle.circuits.proofs.Expansions.{signal_of-plain, signal_of-signed}
use Rattle.sweep.specs.Pruning.{AreAllGatesOf, AreGatesOf, AreNumbered, AreUsed, IsKept, IsNumbered, IsNumberedLiteral, IsNumbering, IsPruned, IsUsed, gate_at, gate_origin, origin}

pub numbered_none : (net : Net) → AreNumbered net 0 [] []
numbered_none net = record {
  count = refl;
  ascending = λ i j d less below. absurd (omega (arith, below));
  there = All-nil (λ s. s < 0);
  ports = λ s port below. absurd (omega (arith, below));
  all_ports = λ few. refl;
  kept = All-nil (IsKept net);
  each = λ s below kept. absurd (omega (arith, below));
}

-- one that stays
numbered_kept : (net : Net) (s : ℕ) (origins numbers : List ℕ) → IsKept net s → AreNumbered net s origins numbers → AreNumbered net (s + 1) (origins ++ s ∷ []) (numbers ++ length origins ∷ [])
numbered_kept net s origins numbers kept are = record {
  count = omega (arith, length_push numbers (length origins), are.count);
  ascending = all_pairs_push (λ u v. u < v) origins s are.ascending are.there;
  there = All-push (λ u. u < s + 1) origins s (λ k d below. omega (arith, are.there k d below)) (omega arith);
  ports = λ u port below. elim (cases_lt u s) [
    | inl less ↦
        let at = are.ports u port less in
        (omega (arith, at.0, length_push origins s), get_or_append_left origins (s ∷ []) 0 u at.0 ∙ at.1)
    | inr last ↦
        let e : u ≡ s = omega (arith, last, below) in
        let size : length origins ≡ s = are.all_ports (omega (arith, port, e)) in
        (omega (arith, e, size, length_push origins s), get_or_push origins s 0 u (size ∙ sym e) ∙ sym e)
  ];
  all_ports = λ few. omega (arith, are.all_ports (omega (arith, few)), length_push origins s);
  kept = All-push (IsKept net) origins s are.kept kept;
  each = λ u below kept_u. elim (cases_lt u s) [
    | inl less ↦
        let at = are.each u less kept_u in
        let number_is : slice_index_or (numbers ++ length origins ∷ []) u 0 ≡ slice_index_or numbers u 0 = get_or_append_left numbers (length origins ∷ []) 0 u (omega (arith, less, are.count)) in (
          omega (arith, at.0, number_is, length_push origins s),
          ap (λ k. slice_index_or (origins ++ s ∷ []) k 0) number_is ∙ (get_or_append_left origins (s ∷ []) 0 (slice_index_or numbers u 0) at.0 ∙ at.1),
        )
    | inr last ↦
        let e : u ≡ s = omega (arith, last, below) in
        let number_is : slice_index_or (numbers ++ length origins ∷ []) u 0 ≡ length origins = get_or_push numbers (length origins) 0 u (are.count ∙ sym e) in (
          omega (arith, number_is, length_push origins s),
          ap (λ k. slice_index_or (origins ++ s ∷ []) k 0) number_is ∙ (get_or_push origins s 0 (length origins) refl ∙ sym e),
        )
  ];
}

-- one that doesn't
numbered_left_out : (net : Net) (s : ℕ) (origins numbers : List ℕ) → (IsKept net s → ⊥) → AreNumbered net s origins numbers → AreNumbered net (s + 1) origins (numbers ++ length origins ∷ [])
numbered_left_out net s origins numbers never are = record {
  count = omega (arith, length_push numbers (length origins), are.count);
  ascending = are.ascending;
  there = λ k d below. omega (arith, are.there k d below);
  ports = λ u port below. elim (cases_lt u s) [
    | inl less ↦ are.ports u port less
    | inr last ↦ absurd (never (inl (omega (arith, last, below, port))))
  ];
  all_ports = λ few. absurd (never (inl (omega (arith, few))));
  kept = are.kept;
  each = λ u below kept_u. elim (cases_lt u s) [
    | inl less ↦
        let at = are.each u less kept_u in
        let number_is : slice_index_or (numbers ++ length origins ∷ []) u 0 ≡ slice_index_or numbers u 0 = get_or_append_left numbers (length origins ∷ []) 0 u (omega (arith, less, are.count)) in
        (omega (arith, at.0, number_is), ap (λ k. slice_index_or origins k 0) number_is ∙ at.1)
    | inr last ↦ absurd (never (subst (IsKept net) (omega (arith, last, below)) kept_u))
  ];
}

-- one signal more
pub numbered_more : (net : Net) (s : ℕ) (stays : Bool) (origins numbers new_origins new_numbers : List ℕ) → (stays ≡ true → IsKept net s) → (stays ≡ false → IsKept net s → ⊥) → IsNumbered s stays origins numbers new_origins new_numbers → AreNumbered net s origins numbers → AreNumbered net (s + 1) new_origins new_numbers
numbered_more net s true origins numbers new_origins new_numbers kept never is are =
    subst (λ (os : List ℕ). AreNumbered net (s + 1) os new_numbers) (sym is.origins) (subst (AreNumbered net (s + 1) (origins ++ s ∷ [])) (sym is.numbers) (numbered_kept net s origins numbers (kept refl) are))
numbered_more net s false origins numbers new_origins new_numbers kept never is are =
    subst (λ (os : List ℕ). AreNumbered net (s + 1) os new_numbers) (sym is.origins) (subst (AreNumbered net (s + 1) origins) (sym is.numbers) (numbered_left_out net s origins numbers (never refl) are))

-- ascending numbers below n are at most n
pub few_ascending : (xs : List ℕ) (n : ℕ) → AllPairs (λ s t. s < t) xs → All (λ s. s < n) xs → length xs ≤ n
few_ascending xs n ascending there =
    elim (cases_lt 0 (length xs)) [
      | inl some ↦ omega (arith, at (length xs - 1) (omega (arith, some)), there (length xs - 1) 0 (omega (arith, some)))
      | inr none ↦ omega (arith, none)
    ]
  where
    at : (k : ℕ) → k < length xs → k ≤ slice_index_or xs k 0
    at zero below = omega arith
    at (suc k) below = omega (arith, at k (omega (arith, below)), ascending k (suc k) 0 (omega arith) below)

-- an element of those from a place on
pub after_place : (xs ys : List ℕ) (f n k : ℕ) → ys ≡ xs → f ≡ 1 + n → k < length (take (length ys - f) (drop f ys)) → (1 + n + k < length xs) × (slice_index_or (take (length ys - f) (drop f ys)) k 0 ≡ slice_index_or xs (1 + n + k) 0)
after_place xs ys f n k same place below =
    let less : k < length ys - f = omega (arith, below, length-take (length ys - f) (drop f ys)) in (
      omega (arith, less, ap length same, place),
      get_or-take (length ys - f) (drop f ys) k 0 less ∙ (get_or-drop f ys k 0 ∙ (ap (λ (zs : List ℕ). slice_index_or zs (f + k) 0) same ∙ ap (λ j. slice_index_or xs (j + k) 0) place)),
    )

-- a gate that stays, by what the code reads
pub gate_read : (net : Net) (gs : List Gate) (f s t : ℕ) → gs ≡ net.gates → f ≡ 1 + net.inputs → s ≡ t → slice_index_or gs (s - f) (record { a = false_literal; b = false_literal }) ≡ gate_at net (t - (1 + net.inputs))
gate_read net gs f s t same place is =
    let none : Gate = record { a = false_literal; b = false_literal } in
    ap (λ (hs : List Gate). slice_index_or hs (s - f) none) same ∙ (ap (λ j. slice_index_or net.gates (s - j) none) place ∙ ap (λ j. slice_index_or net.gates (j - (1 + net.inputs)) none) is)

-- a signal stays where some output reaches it, or it is a port's
pub stays_is : (net : Net) (used : List Bool) (s f : ℕ) → AreUsed net used → f ≡ net.inputs + 1 → ((bit used s || nat_lt s f) ≡ true → IsKept net s) × ((bit used s || nat_lt s f) ≡ false → IsKept net s → ⊥)
stays_is net used s f are place =
    elim (cases_lt s f) [
      | inl port ↦ ((λ is. inl (omega (arith, port, place))), (λ is kept. false≢true (sym is ∙ (ap (λ b. bit used s || b) (lt-ltb s f port) ∙ or_true (bit used s)))))
      | inr from ↦
          let no : (bit used s || nat_lt s f) ≡ bit used s = ap (λ b. bit used s || b) (le-ltb s f from) ∙ or_false (bit used s) in (
            (λ is. inr (are.only s (sym no ∙ is))),
            (λ is kept. elim kept [
              | inl port ↦ omega (arith, port, from, place)
              | inr reached ↦ false≢true (sym is ∙ (no ∙ reached used are.all))
            ]),
          )
    ]
  where
    or_true : (b : Bool) → (b || true) ≡ true
    or_true true = refl
    or_true false = refl

    or_false : (b : Bool) → (b || false) ≡ b
    or_false true = refl
    or_false false = refl

-- a literal of a signal that stays has a number
pub kept_numbered : (net : Net) (origins numbers : List ℕ) (literal : Lit) → IsNumbering net origins numbers → signal_of literal < signals_of net → IsKept net (signal_of literal) → IsNumberedLiteral origins numbers literal
kept_numbered net origins numbers literal are there kept =
    let at = are.each (signal_of literal) there kept in
    record {
      there = omega (arith, there, are.count);
      number = at.0;
      was = at.1;
    }

-- An origin's signal.
origin_signal : (origins : List ℕ) (literal : Lit) → signal_of (origin origins literal) ≡ slice_index_or origins (signal_of literal) 0
origin_signal origins literal =
    let s = slice_index_or origins (signal_of literal) 0 in
    signal_of-signed literal (plain_literal s) ∙ signal_of-plain s

-- what was before a signal that stays is before it
stands_before : (origins : List ℕ) (i k : ℕ) → AllPairs (λ s t. s < t) origins → i < length origins → slice_index_or origins i 0 < slice_index_or origins k 0 → i < k
stands_before origins i k ascending there less =
    elim (cases_lt i k) [
      | inl before ↦ before
      | inr after ↦ elim (cases_lt k i) [
        | inl later ↦ absurd (omega (arith, less, ascending k i 0 later there))
        | inr same ↦
            let e : i ≡ k = omega (arith, after, same) in
            absurd (omega (arith, less, ap (λ j. slice_index_or origins j 0) e))
      ]
    ]

-- Gates that stay.
module _ (net : Net) (origins numbers : List ℕ) (ordered : IsOrdered net) (are : IsNumbering net origins numbers) where
  abbrev first : ℕ
  first = 1 + net.inputs

  abbrev gate_none : Gate
  gate_none = record { a = false_literal; b = false_literal }

  -- the kth is that of this signal, which is a gate's
  pub record IsGateAt (k t : ℕ) : Type 0 where
    pub signal : first + t ≡ slice_index_or origins (first + k) 0
    pub there : t < length net.gates
    pub used : IsUsed net (first + t)

  pub gate_of : (k : ℕ) → first + k < length origins → IsGateAt k (slice_index_or origins (first + k) 0 - first)
  gate_of k below =
      let s = slice_index_or origins (first + k) 0 in
      let last = are.ports net.inputs (omega arith) (omega arith) in
      let after : net.inputs < s = omega (arith, last.1, are.ascending net.inputs (first + k) 0 (omega arith) below) in
      let at : first + (s - first) ≡ s = omega (arith, after) in
      record {
        signal = at;
        there = omega (arith, at, are.there (first + k) 0 below);
        used = elim (are.kept (first + k) 0 below) [
          | inl port ↦ absurd (omega (arith, port, after))
          | inr used ↦ subst (IsUsed net) (sym at) used
        ];
      }

  -- its operands have numbers
  pub operands_numbered : (k t : ℕ) → IsGateAt k t → IsNumberedLiteral origins numbers (gate_at net t).a × IsNumberedLiteral origins numbers (gate_at net t).b
  operands_numbered k t at = (
    kept_numbered net origins numbers (gate_at net t).a are (omega (arith, ordered.first_operands t gate_none at.there, at.there)) (inr (λ set fan. (fan.operands t gate_none at.there (at.used set fan)).0)),
    kept_numbered net origins numbers (gate_at net t).b are (omega (arith, ordered.second_operands t gate_none at.there, at.there)) (inr (λ set fan. (fan.operands t gate_none at.there (at.used set fan)).1)),
  )

  pub gates_none : AreGatesOf net origins 0 []
  gates_none = record {
    count = refl;
    each = λ k d below. absurd (omega (arith, below));
    first_operands = λ k d below. absurd (omega (arith, below));
    second_operands = λ k d below. absurd (omega (arith, below));
  }

  -- one gate more
  pub gates_more : (k : ℕ) (gates : List Gate) (gate : Gate) → first + k < length origins → gate_origin origins gate ≡ gate_at net (slice_index_or origins (first + k) 0 - first) → signal_of gate.a < length origins → signal_of gate.b < length origins → AreGatesOf net origins k gates → AreGatesOf net origins (k + 1) (gates ++ gate ∷ [])
  gates_more k gates gate below was a_there b_there are_k = record {
    count = omega (arith, length_push gates gate, are_k.count);
    each = pushed (λ j g. gate_origin origins g ≡ gate_at net (slice_index_or origins (first + j) 0 - first)) are_k.each was;
    first_operands = pushed (λ j g. signal_of g.a < first + j) are_k.first_operands
        (stands_before origins (signal_of gate.a) (first + k) are.ascending a_there (omega (arith, sym (origin_signal origins gate.a), ap (λ (g : Gate). signal_of g.a) was, ordered.first_operands t gate_none at.there, at.signal)));
    second_operands = pushed (λ j g. signal_of g.b < first + j) are_k.second_operands
        (stands_before origins (signal_of gate.b) (first + k) are.ascending b_there (omega (arith, sym (origin_signal origins gate.b), ap (λ (g : Gate). signal_of g.b) was, ordered.second_operands t gate_none at.there, at.signal)));
  }
    where
      t : ℕ
      t = slice_index_or origins (first + k) 0 - first

      at : IsGateAt k (slice_index_or origins (first + k) 0 - first)
      at = gate_of k below

      pushed : (P : ℕ → Gate → Type 0) → ((j : ℕ) (d : Gate) → j < length gates → P j (slice_index_or gates j d)) → P k gate → (j : ℕ) (d : Gate) → j < length (gates ++ gate ∷ []) → P j (slice_index_or (gates ++ gate ∷ []) j d)
      pushed P each last j d within = elim (cases_lt j (length gates)) [
        | inl less ↦ subst (P j) (sym (get_or_append_left gates (gate ∷ []) d j less)) (each j d less)
        | inr end ↦
            let e : j ≡ length gates = omega (arith, end, within, length_push gates gate) in
            subst (P j) (sym (get_or_push gates gate d j (sym e))) (subst (λ i. P i gate) (sym (e ∙ are_k.count)) last)
      ]

  -- all of them, and the outputs
  pub pruned_of : (pruned : Net) → pruned.inputs ≡ net.inputs → AreAllGatesOf net origins pruned.gates → map (origin origins) pruned.outputs ≡ net.outputs → IsPruned net pruned
  pruned_of pruned inputs gates outputs = record {
    origins = origins;
    inputs = inputs;
    count = count;
    ascending = are.ascending;
    ports = λ s port. (are.ports s port (omega (arith, port))).1;
    there = are.there;
    kept = λ s below. (
      (λ member. All-contains (IsKept net) origins s are.kept member),
      (λ kept.
          let at = are.each s below kept in
          subst (Contains origins) at.1 (Contains-get_or origins (slice_index_or numbers s 0) 0 at.0)),
    );
    gates = gates.each;
    outputs = outputs;
  }
    where
      count : length origins ≡ signals_of pruned
      count = omega (arith, gates.count, inputs, (are.ports net.inputs (omega arith) (omega arith)).0)

  pub pruned_ordered : (pruned : Net) → pruned.inputs ≡ net.inputs → AreAllGatesOf net origins pruned.gates → All (λ literal. signal_of literal < length origins) pruned.outputs → IsOrdered pruned
  pruned_ordered pruned inputs gates outputs = record {
    first_operands = λ k d below. omega (arith, gates.first_operands k d below, inputs);
    second_operands = λ k d below. omega (arith, gates.second_operands k d below, inputs);
    outputs = λ k d below. omega (arith, outputs k d below, gates.count, inputs, (are.ports net.inputs (omega arith) (omega arith)).0);
  }
