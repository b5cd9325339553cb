-- That exactly one valuation fits a netlist without a cycle and a vector.
use Rattle.std.proofs.Common.{ℕ, zero, suc, ◌+◌, ◌-◌, ◌<◌, ◌≤◌, ◌≡◌, Bool, true, false, ◌&&◌, List, [], ◌∷◌, ◌++◌, length, get_or, map, All, refl, sym, ap, subst, ◌∙◌, inl, inr, arith, ext_get_or, length-append}
use Rattle.std.proofs.lemmas.Bool.{cases_lt}
use Rattle.std.proofs.lemmas.List.{get_or_append_left, get_or-append-add, length-map, get_or-map}
use Rattle.circuits.specs.declared.definition.Def.{Def}
use Rattle.circuits.specs.declared.definition.Def.TheVariants.{And, Cover}
use Rattle.circuits.specs.Literals.{bit, differ, is_negated, literal_bit}
use Rattle.circuits.specs.Circuits.{Circuit, FitsCircuit, signals_in, signal_at, def_at, named_by, names_of, cover_bit, def_bit}
use Rattle.circuits.specs.Levels.{IsWithin, IsAcyclic}
use Rattle.circuits.proofs.LevelLaws.{IsWithin-le}
use Rattle.circuits.proofs.Expansions.{map-agree}

-- a definition has one bit under valuations that agree where it looks
pub def_bit-agree : (v w : List Bool) (def : Def) → All (λ s. bit v s ≡ bit w s) (named_by def) → def_bit v def ≡ def_bit w def
def_bit-agree v w (And a b) same =
    ap (λ x. differ x (is_negated a) && literal_bit v b) (same 0 0 (omega arith)) ∙ ap (λ x. literal_bit w a && differ x (is_negated b)) (same 1 0 (omega arith))
def_bit-agree v w (Cover names rows on) same =
    ap (λ values. cover_bit values rows on) (map-agree (bit v) (bit w) names same)

-- each definition's bit, computed once from the bits before
abbrev pub next_round : Circuit → List Bool → List Bool → List Bool
next_round circuit x v = false ∷ (x ++ map (def_bit v) circuit.defs)

abbrev pub rounds : Circuit → List Bool → ℕ → List Bool
rounds circuit x zero = next_round circuit x []
rounds circuit x (suc n) = next_round circuit x (rounds circuit x n)

pub length-next_round : (circuit : Circuit) (x v : List Bool) → length x ≡ circuit.inputs → length (next_round circuit x v) ≡ signals_in circuit
length-next_round circuit x v len =
    omega (arith, length-append x (map (def_bit v) circuit.defs), length-map circuit.defs (def_bit v), len)

pub next_round-input : (circuit : Circuit) (x v : List Bool) (s : ℕ) → length x ≡ circuit.inputs → s < 1 + circuit.inputs → bit (next_round circuit x v) s ≡ bit (false ∷ x) s
next_round-input circuit x v zero len h = refl
next_round-input circuit x v (suc i) len h =
    get_or_append_left x (map (def_bit v) circuit.defs) false i (omega (arith, len))

pub next_round-def : (circuit : Circuit) (x v : List Bool) (d : ℕ) (def : Def) → length x ≡ circuit.inputs → d < length circuit.defs → bit (next_round circuit x v) (signal_at circuit d) ≡ def_bit v (get_or circuit.defs d def)
next_round-def circuit x v d def len h =
    let at : signal_at circuit d ≡ suc (length x + d) = omega (arith, len) in
    ap (bit (next_round circuit x v)) at ∙ (get_or-append-add x (map (def_bit v) circuit.defs) d false ∙ get_or-map (def_bit v) circuit.defs d def false h)

pub rounds-input : (circuit : Circuit) (x : List Bool) (n s : ℕ) → length x ≡ circuit.inputs → s < 1 + circuit.inputs → bit (rounds circuit x n) s ≡ bit (false ∷ x) s
rounds-input circuit x zero s len h = next_round-input circuit x [] s len h
rounds-input circuit x (suc n) s len h = next_round-input circuit x (rounds circuit x n) s len h

pub length-rounds : (circuit : Circuit) (x : List Bool) (n : ℕ) → length x ≡ circuit.inputs → length (rounds circuit x n) ≡ signals_in circuit
length-rounds circuit x zero len = length-next_round circuit x [] len
length-rounds circuit x (suc n) len = length-next_round circuit x (rounds circuit x n) len

-- what is within a level stays as it is from that round on
pub rounds-stay : (circuit : Circuit) (x : List Bool) (l k s : ℕ) → length x ≡ circuit.inputs → IsWithin circuit l s → bit (rounds circuit x (l + k)) s ≡ bit (rounds circuit x l) s
rounds-stay circuit x zero k s len h =
    rounds-input circuit x (0 + k) s len h ∙ sym (rounds-input circuit x 0 s len h)
rounds-stay circuit x (suc l) k s len (inl h) =
    rounds-input circuit x (suc l + k) s len h ∙ sym (rounds-input circuit x (suc l) s len h)
rounds-stay circuit x (suc l) k s len (inr only) =
    let later : suc l + k ≡ suc (l + k) = omega arith in
    let agree = def_bit-agree (rounds circuit x (l + k)) (rounds circuit x l) (def_at circuit only.place) (λ i e h. rounds-stay circuit x l k (get_or (names_of circuit only.place) i e) len (only.named i e h)) in
    let high = next_round-def circuit x (rounds circuit x (l + k)) only.place (Cover [] [] true) len only.there in
    let low = next_round-def circuit x (rounds circuit x l) only.place (Cover [] [] true) len only.there in
    ap (λ n. bit (rounds circuit x n) s) later ∙ (ap (bit (rounds circuit x (suc (l + k)))) only.at ∙ (high ∙ (agree ∙ (sym low ∙ ap (bit (rounds circuit x (suc l))) (sym only.at)))))

-- one level that the first n definitions are within
pub common_level : (circuit : Circuit) (n : ℕ) → IsAcyclic circuit → n ≤ length circuit.defs → (level : ℕ) × ((d : ℕ) → d < n → IsWithin circuit level (signal_at circuit d))
common_level circuit zero acyclic h = (0, λ d l. absurd (omega arith))
common_level circuit (suc n) acyclic h =
    let before = common_level circuit n acyclic (omega arith) in
    let last = acyclic n (omega arith) in (
      before.0 + last.0,
      λ d l. elim (cases_lt d n) [
        | inl less ↦ IsWithin-le circuit before.0 (before.0 + last.0) (signal_at circuit d) (omega arith) (before.1 d less)
        | inr past ↦
            let e : n ≡ d = omega arith in
            IsWithin-le circuit last.0 (before.0 + last.0) (signal_at circuit d) (omega arith) (subst (λ m. IsWithin circuit last.0 (signal_at circuit m)) e last.1.within)
      ],
    )

pub some_valuation : (circuit : Circuit) (x : List Bool) → IsAcyclic circuit → length x ≡ circuit.inputs → (v : List Bool) × FitsCircuit circuit x v
some_valuation circuit x acyclic len = (
  rounds circuit x top.0,
  record {
    signals = length-rounds circuit x top.0 len;
    constant = rounds-input circuit x top.0 0 len (omega arith);
    inputs = λ i h. let e : 1 + i ≡ suc i = omega arith in ap (bit (rounds circuit x top.0)) e ∙ rounds-input circuit x top.0 (suc i) len (omega arith);
    defs = λ d def h. sym (stays d h) ∙ (next d ∙ next_round-def circuit x (rounds circuit x top.0) d def len h);
  },
)
  where
    top : (level : ℕ) × ((d : ℕ) → d < length circuit.defs → IsWithin circuit level (signal_at circuit d))
    top = common_level circuit (length circuit.defs) acyclic (omega arith)

    stays : (d : ℕ) → d < length circuit.defs → bit (rounds circuit x (top.0 + 1)) (signal_at circuit d) ≡ bit (rounds circuit x top.0) (signal_at circuit d)
    stays d h = rounds-stay circuit x top.0 1 (signal_at circuit d) len (top.1 d h)

    next : (d : ℕ) → bit (rounds circuit x (top.0 + 1)) (signal_at circuit d) ≡ bit (rounds circuit x (suc top.0)) (signal_at circuit d)
    next d = let e : top.0 + 1 ≡ suc top.0 = omega arith in ap (λ n. bit (rounds circuit x n) (signal_at circuit d)) e

-- two valuations that fit agree on the constant and the inputs
pub fits-agree_input : (circuit : Circuit) (x v w : List Bool) (s : ℕ) → FitsCircuit circuit x v → FitsCircuit circuit x w → s < 1 + circuit.inputs → bit v s ≡ bit w s
fits-agree_input circuit x v w zero one other h = one.constant ∙ sym other.constant
fits-agree_input circuit x v w (suc i) one other h =
    let e : suc i ≡ 1 + i = omega arith in
    ap (bit v) e ∙ (one.inputs i (omega arith) ∙ (sym (other.inputs i (omega arith)) ∙ ap (bit w) (sym e)))

-- and on what is within a level
pub fits-agree : (circuit : Circuit) (x v w : List Bool) (l s : ℕ) → FitsCircuit circuit x v → FitsCircuit circuit x w → IsWithin circuit l s → bit v s ≡ bit w s
fits-agree circuit x v w zero s one other h = fits-agree_input circuit x v w s one other h
fits-agree circuit x v w (suc l) s one other (inl h) = fits-agree_input circuit x v w s one other h
fits-agree circuit x v w (suc l) s one other (inr only) =
    let nothing : Def = Cover [] [] true in
    let agree = def_bit-agree v w (def_at circuit only.place) (λ i e h. fits-agree circuit x v w l (get_or (names_of circuit only.place) i e) one other (only.named i e h)) in
    ap (bit v) only.at ∙ (one.defs only.place nothing only.there ∙ (agree ∙ (sym (other.defs only.place nothing only.there) ∙ ap (bit w) (sym only.at))))

pub one_valuation : (circuit : Circuit) (x v w : List Bool) → IsAcyclic circuit → FitsCircuit circuit x v → FitsCircuit circuit x w → v ≡ w
one_valuation circuit x v w acyclic one other =
    ext_get_or false v w (one.signals ∙ sym other.signals) same
  where
    same : (s : ℕ) → s < length v → bit v s ≡ bit w s
    same s h =
        elim (cases_lt s (1 + circuit.inputs)) [
          | inl input ↦ fits-agree circuit x v w 0 s one other input
          | inr above ↦
              let d : ℕ = s - (1 + circuit.inputs) in
              let has = acyclic d (omega (arith, one.signals)) in
              let e : signal_at circuit d ≡ s = omega arith in
              fits-agree circuit x v w has.0 s one other (subst (IsWithin circuit has.0) e has.1.within)
        ]
