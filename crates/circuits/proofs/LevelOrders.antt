-- That a netlist taken by levels is in order, and computes the same.
use Rattle.std.proofs.Common.{ℕ, zero, suc, ◌+◌, ◌-◌, ◌<◌, ◌≤◌, ◌≡◌, ◌≢◌, ◌⊎◌, Bool, true, false, eqb, List, [], ◌∷◌, ◌++◌, length, get_or, map, set, take, replicate, All, Contains, refl, sym, ap, ap₂, subst, ◌∙◌, inl, inr, arith, eqb-true}
use Rattle.std.proofs.Math.Seq.{take-suc}
use Rattle.std.proofs.lemmas.Bool.{cases_eq, cases_lt, or_cases}
use Rattle.std.proofs.lemmas.Bool.Decides.{eqb_tells}
use Rattle.std.proofs.lemmas.List.{get_or_default, get_or-set_same, get_or-set_other, length-map, length-set, length-replicate, take_all}
use Rattle.std.proofs.lemmas.List.Elements.{All-map, All-tail}
use Rattle.std.proofs.lemmas.List.Folds.{list_any_at}
use Rattle.std.proofs.lemmas.List.FromFn.{length-range_with_len, get_or-range_with_len, length-map-range_with_len, get_or-map-range_with_len}
use Rattle.std.proofs.lemmas.List.Sorted.{All-permutation, length_permutation, list_any-IsPermutation}
use Rattle.std.specs.List.{range_with_len, list_any}
use Rattle.circuits.specs.declared.netlist.Lit.{Lit}
use Rattle.circuits.specs.declared.definition.Def.TheVariants.{Cover}
use Rattle.circuits.specs.Literals.{bit, signal_of, literal_bit, plain_literal}
use Rattle.circuits.specs.Netlists.{Net, IsOrdered, signals_of, function_of}
use Rattle.circuits.specs.Circuits.{Circuit, IsClosed, FitsCircuit, signals_in, signal_at, def_at, names_of, def_bit, circuit_outputs}
use Rattle.circuits.specs.Expansion.{Made, Making, stand_in, stands_for, def_made, with_def, with_defs, no_gates, expanded}
use Rattle.circuits.specs.Functions.{Computes}
use Rattle.circuits.specs.Levels.{IsWithin, HasLevel, IsAcyclic, IsLevelOrder, IsOrderOf}
use Rattle.circuits.proofs.CircuitValuations.{some_valuation}
use Rattle.circuits.proofs.Expansions.{AreEarlier, IsMade, IsMade-def, IsStoodFor, bits, kept_bit, literal_bit-plain, signal_of-plain, stands_for-read, stands_for-bit}
use Rattle.circuits.proofs.LevelLaws.{HasLevel-only, IsWithin-named, IsClosed-named}

pub Contains-from_any : (d : ℕ) (order : List ℕ) → list_any (eqb d) order ≡ true → Contains order d
Contains-from_any d [] h = cc
Contains-from_any d (e ∷ order) h =
    elim (or_cases (eqb d e) (list_any (eqb d) order) h) [
      | inl same ↦ (0, omega arith, sym (eqb-true d e same))
      | inr later ↦ let at = Contains-from_any d order later in (suc at.0, omega (arith, at.1), at.2)
    ]

-- each definition stands in the order, and nothing else
pub IsLevelOrder-entries : (circuit : Circuit) (order : List ℕ) → IsLevelOrder circuit order → length order ≡ length circuit.defs
IsLevelOrder-entries circuit order is =
    length_permutation (range_with_len 0 (length circuit.defs)) order is.each_once ∙ length-range_with_len 0 (length circuit.defs)

pub IsLevelOrder-in_range : (circuit : Circuit) (order : List ℕ) → IsLevelOrder circuit order → All (λ d. d < length circuit.defs) order
IsLevelOrder-in_range circuit order is =
    All-permutation (λ d. d < length circuit.defs) (range_with_len 0 (length circuit.defs)) order is.each_once below
  where
    below : All (λ d. d < length circuit.defs) (range_with_len 0 (length circuit.defs))
    below k d h =
        let within : k < length circuit.defs = omega (arith, length-range_with_len 0 (length circuit.defs)) in
        omega (arith, get_or-range_with_len 0 (length circuit.defs) k d within)

pub IsLevelOrder-onto : (circuit : Circuit) (order : List ℕ) → IsLevelOrder circuit order → (d : ℕ) → d < length circuit.defs → Contains order d
IsLevelOrder-onto circuit order is d h =
    Contains-from_any d order (sym (list_any-IsPermutation (eqb d) (range_with_len 0 (length circuit.defs)) order is.each_once) ∙ list_any_at (eqb d) (range_with_len 0 (length circuit.defs)) d d (omega (arith, length-range_with_len 0 (length circuit.defs))) same)
  where
    same : eqb d (get_or (range_with_len 0 (length circuit.defs)) d d) ≡ true
    same =
        elim (eqb_tells d (get_or (range_with_len 0 (length circuit.defs)) d d)) [
          | inl tells ↦ tells.0
          | inr tells ↦ absurd (tells.1 (omega (arith, get_or-range_with_len 0 (length circuit.defs) d d h)))
        ]

-- a signal below the definitions, or that of one of the first k definitions of the order
abbrev pub IsTaken : Circuit → List ℕ → ℕ → ℕ → Type 0
IsTaken circuit order k s = (s < 1 + circuit.inputs) ⊎ ((j : ℕ) × (j < k) × (s ≡ signal_at circuit (get_or order j 0)))

-- what is within a lower level than a definition is taken before it
pub lower_is_taken : (circuit : Circuit) (order : List ℕ) (t m s : ℕ) → IsAcyclic circuit → IsLevelOrder circuit order → t < length order → HasLevel circuit (signal_at circuit (get_or order t 0)) (suc m) → s < signals_in circuit → IsWithin circuit m s → IsTaken circuit order t s
lower_is_taken circuit order t m s acyclic is h here there within =
    elim (cases_lt s (1 + circuit.inputs)) [
      | inl input ↦ inl input
      | inr above ↦
          let d : ℕ = s - (1 + circuit.inputs) in
          let at = IsLevelOrder-onto circuit order is d (omega arith) in
          let same : s ≡ signal_at circuit (get_or order at.0 0) = omega (arith, get_or_default order at.0 d 0 at.1, at.2) in
          elim (cases_lt at.0 t) [
            | inl less ↦ inr (at.0, less, same)
            | inr not_less ↦ absurd (too_late at.0 at.1 same not_less)
          ]
    ]
  where
    too_late : (k : ℕ) → k < length order → s ≡ signal_at circuit (get_or order k 0) → t ≤ k → ⊥
    too_late k k_in same le =
        let has = acyclic (get_or order k 0) (IsLevelOrder-in_range circuit order is k 0 k_in) in
        let low : has.0 ≤ m = has.1.least m (subst (IsWithin circuit m) same within) in
        elim (cases_lt t k) [
          | inl later ↦
              elim (is.ascending t k 0 later k_in (suc m) has.0 here has.1) [
                | inl up ↦ omega arith
                | inr both ↦ omega (arith, both.0)
              ]
          | inr at ↦
              let e : k ≡ t = omega arith in
              let one = HasLevel-only circuit (signal_at circuit (get_or order t 0)) (suc m) has.0 here (subst (λ n. HasLevel circuit (signal_at circuit (get_or order n 0)) has.0) e has.1) in
              omega (arith, one)
        ]

-- what a definition names is taken before it
pub names_are_taken : (circuit : Circuit) (order : List ℕ) (t : ℕ) → IsAcyclic circuit → IsClosed circuit → IsLevelOrder circuit order → t < length order → All (IsTaken circuit order t) (names_of circuit (get_or order t 0))
names_are_taken circuit order t acyclic closed is h =
    by_level (acyclic (get_or order t 0) (IsLevelOrder-in_range circuit order is t 0 h)).0 (acyclic (get_or order t 0) (IsLevelOrder-in_range circuit order is t 0 h)).1
  where
    by_level : (l : ℕ) → HasLevel circuit (signal_at circuit (get_or order t 0)) l → All (IsTaken circuit order t) (names_of circuit (get_or order t 0))
    by_level zero has = absurd (omega (arith, has.within))
    by_level (suc m) has = λ k s k_in.
        let d = get_or order t 0 in
        lower_is_taken circuit order t m (get_or (names_of circuit d) k s) acyclic is h has (IsClosed-named circuit d closed (IsLevelOrder-in_range circuit order is t 0 h) k s k_in) (IsWithin-named circuit d m has.within k s k_in)

-- After k definitions each signal that is taken is stood for, under a valuation v that fits.
pub record IsMaking (circuit : Circuit) (x v : List Bool) (order : List ℕ) (k : ℕ) (so_far : Making) : Type 0 where
  pub earlier : AreEarlier (1 + circuit.inputs) so_far.gates
  pub entries : length so_far.literals ≡ signals_in circuit
  pub stood : (s : ℕ) → IsTaken circuit order k s → IsStoodFor x v so_far.gates so_far.literals s

pub IsMaking-start : (circuit : Circuit) (x v : List Bool) (order : List ℕ) → length x ≡ circuit.inputs → FitsCircuit circuit x v → IsMaking circuit x v order 0 (no_gates circuit)
IsMaking-start circuit x v order len fits = record {
  earlier = record { firsts = λ t d h. absurd (omega arith); seconds = λ t d h. absurd (omega arith) };
  entries = length-map-range_with_len plain_literal 0 (signals_in circuit);
  stood = stood;
}
  where
    same : (s : ℕ) → s < 1 + circuit.inputs → bit (false ∷ x) s ≡ bit v s
    same zero h = sym fits.constant
    same (suc i) h = let e : 1 + i ≡ suc i = omega arith in sym (fits.inputs i (omega arith)) ∙ ap (bit v) e

    input : (s : ℕ) → s < 1 + circuit.inputs → IsStoodFor x v [] (no_gates circuit).literals s
    input s h =
        let at = get_or-map-range_with_len plain_literal 0 (signals_in circuit) s s (record { 0 = 0 }) (omega arith) (omega arith) in
        record {
          there = subst (λ l. signal_of l < 1 + length x + 0) (sym at) (omega (arith, signal_of-plain s, len));
          is = ap (literal_bit (false ∷ x)) at ∙ (literal_bit-plain (false ∷ x) s ∙ same s h);
        }

    stood : (s : ℕ) → IsTaken circuit order 0 s → IsStoodFor x v [] (no_gates circuit).literals s
    stood s (inl h) = input s h
    stood s (inr at) = absurd (omega (arith, at.1))

-- one definition more
pub IsMaking-more : (circuit : Circuit) (x v : List Bool) (order : List ℕ) (k : ℕ) (so_far : Making) → length x ≡ circuit.inputs → FitsCircuit circuit x v → get_or order k 0 < length circuit.defs → All (IsTaken circuit order k) (names_of circuit (get_or order k 0)) → IsMaking circuit x v order k so_far → IsMaking circuit x v order (suc k) (with_def circuit so_far (get_or order k 0))
IsMaking-more circuit x v order k so_far len fits h taken is = record {
  earlier = subst (λ n. AreEarlier (1 + n) next.gates) len is_made.earlier;
  entries = length-set so_far.literals (signal_at circuit d) next.value ∙ is.entries;
  stood = stood;
}
  where
    d : ℕ
    d = get_or order k 0

    next : Made
    next = def_made (1 + circuit.inputs) so_far.literals so_far.gates (def_at circuit (get_or order k 0))

    is_made : IsMade x so_far.gates (def_made (1 + circuit.inputs) so_far.literals so_far.gates (def_at circuit (get_or order k 0))) (def_bit v (def_at circuit (get_or order k 0)))
    is_made =
        let def = def_at circuit (get_or order k 0) in
        subst (λ n. IsMade x so_far.gates (def_made (1 + n) so_far.literals so_far.gates def) (def_bit v def)) len (IsMade-def x v so_far.gates so_far.literals def (subst (λ n. AreEarlier (1 + n) so_far.gates) (sym len) is.earlier) (λ i s l. is.stood (get_or (names_of circuit (get_or order k 0)) i s) (taken i s l)))

    stood : (s : ℕ) → IsTaken circuit order (suc k) s → IsStoodFor x v next.gates (set so_far.literals (signal_at circuit d) next.value) s
    stood s at =
        elim (cases_eq s (signal_at circuit d)) [
          | inl same ↦
              let value = ap (λ n. get_or (set so_far.literals (signal_at circuit d) next.value) n (record { 0 = 0 })) same ∙ get_or-set_same so_far.literals (signal_at circuit d) next.value (record { 0 = 0 }) (omega (arith, is.entries, h)) in
              record {
                there = subst (λ l. signal_of l < 1 + length x + length next.gates) (sym value) is_made.there;
                is = ap (literal_bit (bits x next.gates)) value ∙ (is_made.is ∙ (sym (fits.defs d (Cover [] [] true) h) ∙ ap (bit v) (sym same)));
              }
          | inr other ↦
              let old = is.stood s (before s other at) in
              let value = get_or-set_other so_far.literals (signal_at circuit d) s next.value (record { 0 = 0 }) other in
              record {
                there = subst (λ l. signal_of l < 1 + length x + length next.gates) (sym value) (omega (arith, old.there, is_made.longer));
                is = ap (literal_bit (bits x next.gates)) value ∙ (kept_bit x so_far.gates next (def_bit v (def_at circuit (get_or order k 0))) (stand_in so_far.literals s) is_made old.there ∙ old.is);
              }
        ]
      where
        before : (s : ℕ) → s ≢ signal_at circuit d → IsTaken circuit order (suc k) s → IsTaken circuit order k s
        before s other (inl input) = inl input
        before s other (inr at) =
            elim (cases_lt at.0 k) [
              | inl less ↦ inr (at.0, less, at.2)
              | inr past ↦
                  let e : at.0 ≡ k = omega (arith, at.1) in
                  absurd (other (at.2 ∙ ap (λ n. signal_at circuit (get_or order n 0)) e))
            ]

pub with_defs-push : (circuit : Circuit) (so_far : Making) (order : List ℕ) (d : ℕ) → with_defs circuit so_far (order ++ d ∷ []) ≡ with_def circuit (with_defs circuit so_far order) d
with_defs-push circuit so_far [] d = refl
with_defs-push circuit so_far (e ∷ order) d = with_defs-push circuit (with_def circuit so_far e) order d

pub IsMaking-first : (circuit : Circuit) (x v : List Bool) (order : List ℕ) (k : ℕ) → length x ≡ circuit.inputs → FitsCircuit circuit x v → IsAcyclic circuit → IsClosed circuit → IsLevelOrder circuit order → k ≤ length order → IsMaking circuit x v order k (with_defs circuit (no_gates circuit) (take k order))
IsMaking-first circuit x v order zero len fits acyclic closed is h = IsMaking-start circuit x v order len fits
IsMaking-first circuit x v order (suc k) len fits acyclic closed is h =
    let before = IsMaking-first circuit x v order k len fits acyclic closed is (omega arith) in
    let k_in : k < length order = omega arith in
    let so_far = with_defs circuit (no_gates circuit) (take k order) in
    let e = ap (with_defs circuit (no_gates circuit)) (take-suc order k 0 k_in) ∙ with_defs-push circuit (no_gates circuit) (take k order) (get_or order k 0) in
    subst (IsMaking circuit x v order (suc k)) (sym e) (IsMaking-more circuit x v order k so_far len fits (IsLevelOrder-in_range circuit order is k 0 k_in) (names_are_taken circuit order k acyclic closed is k_in) before)

-- what all definitions make
abbrev pub all_made : Circuit → List ℕ → Making
all_made circuit order = with_defs circuit (no_gates circuit) order

pub IsMaking-whole : (circuit : Circuit) (x v : List Bool) (order : List ℕ) → length x ≡ circuit.inputs → FitsCircuit circuit x v → IsAcyclic circuit → IsClosed circuit → IsLevelOrder circuit order → IsMaking circuit x v order (length order) (all_made circuit order)
IsMaking-whole circuit x v order len fits acyclic closed is =
    subst (λ xs. IsMaking circuit x v order (length order) (with_defs circuit (no_gates circuit) xs)) (take_all (length order) order (omega arith)) (IsMaking-first circuit x v order (length order) len fits acyclic closed is (omega arith))

-- then each signal is taken
pub all_taken : (circuit : Circuit) (order : List ℕ) (s : ℕ) → IsLevelOrder circuit order → s < signals_in circuit → IsTaken circuit order (length order) s
all_taken circuit order s is h =
    elim (cases_lt s (1 + circuit.inputs)) [
      | inl input ↦ inl input
      | inr above ↦
          let d : ℕ = s - (1 + circuit.inputs) in
          let at = IsLevelOrder-onto circuit order is d (omega arith) in
          inr (at.0, at.1, omega (arith, get_or_default order at.0 d 0 at.1, at.2))
    ]

pub expanded-ordered : (circuit : Circuit) (order : List ℕ) → IsAcyclic circuit → IsClosed circuit → IsLevelOrder circuit order → IsOrdered (expanded circuit order)
expanded-ordered circuit order acyclic closed is = record {
  first_operands = making.earlier.firsts;
  second_operands = making.earlier.seconds;
  outputs = All-map (λ output. signal_of output < signals_of (expanded circuit order)) (stands_for (all_made circuit order).literals) circuit.outputs (λ k l h. omega (arith, stands_for-read x v.0 (all_made circuit order).gates (all_made circuit order).literals (get_or circuit.outputs k l) (making.stood (signal_of (get_or circuit.outputs k l)) (all_taken circuit order (signal_of (get_or circuit.outputs k l)) is (closed.outputs k l h))), len));
}
  where
    x : List Bool
    x = replicate circuit.inputs false

    len : length (replicate circuit.inputs false) ≡ circuit.inputs
    len = length-replicate circuit.inputs false

    v : (v : List Bool) × FitsCircuit circuit (replicate circuit.inputs false) v
    v = some_valuation circuit (replicate circuit.inputs false) acyclic (length-replicate circuit.inputs false)

    making : IsMaking circuit (replicate circuit.inputs false) v.0 order (length order) (all_made circuit order)
    making = IsMaking-whole circuit (replicate circuit.inputs false) v.0 order len v.1 acyclic closed is

-- under each valuation that fits, the outputs are those of the ordered netlist
pub expanded-function : (circuit : Circuit) (order : List ℕ) (x v : List Bool) → IsAcyclic circuit → IsClosed circuit → IsLevelOrder circuit order → length x ≡ circuit.inputs → FitsCircuit circuit x v → circuit_outputs circuit v ≡ function_of (expanded circuit order) x
expanded-function circuit order x v acyclic closed is len fits =
    outputs circuit.outputs closed.outputs
  where
    making : IsMaking circuit x v order (length order) (all_made circuit order)
    making = IsMaking-whole circuit x v order len fits acyclic closed is

    outputs : (ls : List Lit) → All (λ l. signal_of l < signals_in circuit) ls → map (literal_bit v) ls ≡ map (literal_bit (bits x (all_made circuit order).gates)) (map (stands_for (all_made circuit order).literals) ls)
    outputs [] there = refl
    outputs (l ∷ ls) there =
        let stood = making.stood (signal_of l) (all_taken circuit order (signal_of l) is (there 0 l (omega arith))) in
        ap₂ (λ a b. a ∷ b) (sym (stands_for-bit x v (all_made circuit order).gates (all_made circuit order).literals l stood)) (outputs ls (All-tail (λ l. signal_of l < signals_in circuit) l ls there))

pub IsOrderOf-ordered : (circuit : Circuit) (net : Net) → IsAcyclic circuit → IsClosed circuit → IsOrderOf circuit net → IsOrdered net
IsOrderOf-ordered circuit net acyclic closed is =
    subst IsOrdered (sym is.is) (expanded-ordered circuit is.order acyclic closed is.is_order)

pub same_function : (circuit : Circuit) (net : Net) (x v : List Bool) → IsAcyclic circuit → IsClosed circuit → IsOrderOf circuit net → length x ≡ circuit.inputs → FitsCircuit circuit x v → circuit_outputs circuit v ≡ function_of net x
same_function circuit net x v acyclic closed is len fits =
    expanded-function circuit is.order x v acyclic closed is.is_order len fits ∙ ap (λ n. function_of n x) (sym is.is)

-- the ordered netlist has the same numbers of inputs and outputs
pub IsOrderOf-inputs : (circuit : Circuit) (net : Net) → IsOrderOf circuit net → net.inputs ≡ circuit.inputs
IsOrderOf-inputs circuit net is = ap (λ (n : Net). n.inputs) is.is

pub IsOrderOf-outputs : (circuit : Circuit) (net : Net) → IsOrderOf circuit net → length net.outputs ≡ length circuit.outputs
IsOrderOf-outputs circuit net is =
    ap (λ (n : Net). length n.outputs) is.is ∙ length-map circuit.outputs (stands_for (all_made circuit is.order).literals)

-- so it computes what the netlist means
pub IsOrderOf-computes : (circuit : Circuit) (net : Net) → IsAcyclic circuit → IsClosed circuit → IsOrderOf circuit net → Computes net circuit
IsOrderOf-computes circuit net acyclic closed is = record {
  inputs = IsOrderOf-inputs circuit net is;
  outputs = IsOrderOf-outputs circuit net is;
  function = λ x v len fits. sym (same_function circuit net x v acyclic closed is len fits);
}
