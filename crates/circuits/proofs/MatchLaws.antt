-- That a match of circuits is one of the functions that they compute, and each circuit matches itself.
use Rattle.std.proofs.Common.{◌↔◌, ◌≤◌, ◌*◌, ◌%◌, ◌^◌, Result, Ok, Err, IfOk, IsTrue, subst, shl_exact, one-mul, ℕ, ◌<◌, ◌≡◌, Bool, false, List, length, get_or, map, refl, sym, ap, ◌∙◌, arith, ext_get_or}
use Rattle.std.proofs.lemmas.List.FromFn.{length-map-range_with_len, get_or-map-range_with_len}
use Rattle.std.specs.List.{range_with_len}
use Rattle.circuits.specs.Literals.{bit, differ, vector_of}
use Rattle.circuits.specs.Netlists.{Net, function_of}
use Rattle.circuits.specs.Circuits.{Circuit, FitsCircuit, circuit_outputs}
use Rattle.circuits.specs.Functions.{Computes}
use Rattle.circuits.specs.Levels.{IsAcyclic}
use Rattle.circuits.specs.Bijections.{IsSignedBijection, Moves, moved, place_of, sign_of}
use Rattle.circuits.specs.Matches.{OutputsAgree, HavePorts, AgreeOn, AgreeOnAll, IsMatch, IsMatchOfFunctions, AreNpnpEqual, HaveNpnpEqualFunctions}
use Rattle.circuits.proofs.Codes.{code_of, code_of-below, vector_of-code_of}
use Rattle.circuits.proofs.CircuitValuations.{some_valuation, one_valuation}
use Rattle.circuits.proofs.Places.{moved-moves, moved-only, length-moved}
use Rattle.circuits.proofs.Expansions.{differ_false}

pub IsSignedBijection-at : (m n : ℕ) (p : List (ℕ × Bool)) → m ≡ n → IsSignedBijection n p → IsSignedBijection m p
IsSignedBijection-at m n p same bijection = record {
  entries = bijection.entries ∙ sym same;
  in_range = λ k d h. omega (arith, bijection.in_range k d h, same);
  distinct = bijection.distinct;
}

pub functions_from_match : (first second : Circuit) (f g : Net) (p q : List (ℕ × Bool)) → IsAcyclic first → IsAcyclic second → Computes f first → Computes g second → IsMatch first second p q → IsMatchOfFunctions f g p q
functions_from_match first second f g p q one two of_first of_second matches = record {
  same_inputs = of_second.inputs ∙ (matches.same_inputs ∙ sym of_first.inputs);
  same_outputs = of_second.outputs ∙ (matches.same_outputs ∙ sym of_first.outputs);
  inputs = IsSignedBijection-at f.inputs first.inputs p of_first.inputs matches.inputs;
  outputs = IsSignedBijection-at (length f.outputs) (length first.outputs) q of_first.outputs matches.outputs;
  agree = agree;
}
  where
    agree : (x : List Bool) → length x ≡ f.inputs → AgreeOn f g p q x
    agree x len k h =
        let y = moved p x in
        let len' : length x ≡ first.inputs = len ∙ of_first.inputs in
        let len'' : length y ≡ second.inputs = length-moved p x ∙ (len' ∙ sym matches.same_inputs) in
        let moves = moved-moves p x (IsSignedBijection-at (length x) first.inputs p len' matches.inputs) in
        let v = some_valuation first x one len' in
        let w = some_valuation second y two len'' in
        ap (λ z. bit z k) (of_first.function x v.0 len' v.1)
        ∙ (matches.agree x y v.0 w.0 len' moves v.1 w.1 k h ∙ ap (λ z. differ (bit z (place_of q k)) (sign_of q k)) (sym (of_second.function y w.0 len'' w.1)))

pub match_from_functions : (first second : Circuit) (f g : Net) (p q : List (ℕ × Bool)) → Computes f first → Computes g second → IsMatchOfFunctions f g p q → IsMatch first second p q
match_from_functions first second f g p q of_first of_second matches = record {
  same_inputs = sym of_second.inputs ∙ (matches.same_inputs ∙ of_first.inputs);
  same_outputs = sym of_second.outputs ∙ (matches.same_outputs ∙ of_first.outputs);
  inputs = IsSignedBijection-at first.inputs f.inputs p (sym of_first.inputs) matches.inputs;
  outputs = IsSignedBijection-at (length first.outputs) (length f.outputs) q (sym of_first.outputs) matches.outputs;
  agree = agree;
}
  where
    agree : (x y v w : List Bool) → length x ≡ first.inputs → Moves p x y → FitsCircuit first x v → FitsCircuit second y w → OutputsAgree q (circuit_outputs first v) (circuit_outputs second w)
    agree x y v w len moves fits fits' k h =
        let len' : length x ≡ f.inputs = len ∙ sym of_first.inputs in
        let ey = moved-only p x y (IsSignedBijection-at (length x) f.inputs p len' matches.inputs) moves in
        let len'' : length y ≡ second.inputs = moves.same_length ∙ (len' ∙ (sym matches.same_inputs ∙ of_second.inputs)) in
        let second_bits = ap (function_of g) (sym ey) ∙ of_second.function y w len'' fits' in
        ap (λ z. bit z k) (sym (of_first.function x v len fits)) ∙ (matches.agree x len' k h ∙ ap (λ z. differ (bit z (place_of q k)) (sign_of q k)) second_bits)

-- and so are the bijections of NPNP equality
pub functions_from_equal : (first second : Circuit) (f g : Net) → IsAcyclic first → IsAcyclic second → Computes f first → Computes g second → AreNpnpEqual first second → HaveNpnpEqualFunctions f g
functions_from_equal first second f g one two of_first of_second equal =
    (equal.0, equal.1, functions_from_match first second f g equal.0 equal.1 one two of_first of_second equal.2)

pub equal_from_functions : (first second : Circuit) (f g : Net) → Computes f first → Computes g second → HaveNpnpEqualFunctions f g → AreNpnpEqual first second
equal_from_functions first second f g of_first of_second equal =
    (equal.0, equal.1, match_from_functions first second f g equal.0 equal.1 of_first of_second equal.2)

-- each port to itself, plain
abbrev pub unmoved : ℕ → List (ℕ × Bool)
unmoved n = map (λ i. (i, false)) (range_with_len 0 n)

pub unmoved-at : (n i : ℕ) (d : ℕ × Bool) → i < n → get_or (unmoved n) i d ≡ (i, false)
unmoved-at n i d h = get_or-map-range_with_len (λ k. (k, false)) 0 n i i d h (omega arith)

pub length-unmoved : (n : ℕ) → length (unmoved n) ≡ n
length-unmoved n = length-map-range_with_len (λ (k : ℕ). (k, false)) 0 n

pub unmoved-bijection : (n : ℕ) → IsSignedBijection n (unmoved n)
unmoved-bijection n = record {
  entries = length-unmoved n;
  in_range = λ k d h.
      let l : k < n = omega (arith, length-unmoved n) in
      omega (arith, ap (λ entry. entry.0) (unmoved-at n k d l));
  distinct = λ i j d l h e.
      let m : j < n = omega (arith, length-unmoved n) in
      omega (arith, ap (λ entry. entry.0) (unmoved-at n i d (omega arith)), ap (λ entry. entry.0) (unmoved-at n j d m), e);
}

pub unmoved-agree : (n k : ℕ) (x : List Bool) → k < n → differ (bit x (place_of (unmoved n) k)) (sign_of (unmoved n) k) ≡ bit x k
unmoved-agree n k x h =
    ap (λ entry. differ (bit x entry.0) entry.1) (unmoved-at n k (0, false) h) ∙ differ_false (bit x k)

pub moves-unmoved : (n : ℕ) (x y : List Bool) → length x ≡ n → Moves (unmoved n) x y → y ≡ x
moves-unmoved n x y len moves =
    ext_get_or false y x moves.same_length (λ k h.
    let l : k < n = omega (arith, moves.same_length, len) in
    let at = unmoved-at n k (0, false) l in
    ap (λ (entry : ℕ × Bool). bit y entry.0) (sym at) ∙ (moves.bits k (omega (arith, length-unmoved n)) ∙ (ap (λ (entry : ℕ × Bool). differ (bit x k) entry.1) at ∙ differ_false (bit x k))))

pub match-unmoved : (circuit : Circuit) → IsAcyclic circuit → IsMatch circuit circuit (unmoved circuit.inputs) (unmoved (length circuit.outputs))
match-unmoved circuit acyclic = record {
  same_inputs = refl;
  same_outputs = refl;
  inputs = unmoved-bijection circuit.inputs;
  outputs = unmoved-bijection (length circuit.outputs);
  agree = λ x y v w len moves fits fits' k h.
      let ey = moves-unmoved circuit.inputs x y len moves in
      let ev = one_valuation circuit x v w acyclic fits (subst (λ z. FitsCircuit circuit z w) ey fits') in
      let l : k < length circuit.outputs = omega (arith, length-unmoved (length circuit.outputs)) in
      ap (λ z. bit (circuit_outputs circuit z) k) ev ∙ sym (unmoved-agree (length circuit.outputs) k (circuit_outputs circuit w) l);
}

pub match_from_all : (first second : Net) (p q : List (ℕ × Bool)) → HavePorts first second p q → AgreeOnAll first second p q → IsMatchOfFunctions first second p q
match_from_all first second p q ports agree = record {
  same_inputs = ports.same_inputs;
  same_outputs = ports.same_outputs;
  inputs = ports.inputs;
  outputs = ports.outputs;
  agree = agree;
}

-- the vectors with codes below 2 ^ n are all
pub AgreeOnAll-from_codes : (first second : Net) (p q : List (ℕ × Bool)) (n : ℕ) → n ≡ first.inputs → ((code : ℕ) → code < 2 ^ n → AgreeOn first second p q (vector_of n code)) → AgreeOnAll first second p q
AgreeOnAll-from_codes first second p q n same agreed x len =
    let e : length x ≡ n = len ∙ sym same in
    let is : vector_of n (code_of x) ≡ x = ap (λ m. vector_of m (code_of x)) (sym e) ∙ sym (vector_of-code_of x) in
    let below : code_of x < 2 ^ n = subst (λ m. code_of x < 2 ^ m) e (code_of-below x) in
    subst (λ z. AgreeOn first second p q z) is (agreed (code_of x) below)

-- the code's count of vectors
pub count-few : (n bound : ℕ) → n ≤ 16 → 1 * 2 ^ n % 4294967296 ≤ bound → 2 ^ n ≤ bound
count-few n bound few h =
    omega (arith, shl_exact {a = 1} 1 n 32 (omega arith) (omega arith), one-mul (2 ^ n))

pub IfOk-like : {E A B : Type 0} (r : Result Bool E) → (A → B) → (B → A) → IfOk r (λ b. IsTrue b ↔ A) → IfOk r (λ b. IsTrue b ↔ B)
IfOk-like (Ok b) to from h = (λ t. to (h.0 t), λ y. h.1 (from y))
IfOk-like (Err e) to from h = tt
