-- The rows that are printed have the form that the lines of their roles ask for, and define the variables in order.
use Rattle.std.proofs.Common.{◌≡◌, ◌≢◌, ℕ, zero, suc, ◌+◌, ◌-◌, ◌*◌, ◌/◌, ◌%◌, ◌<◌, ◌≤◌, IsTrue, List, [], ◌∷◌, ◌++◌, length, map, get_or, All, AllPairs, replicate, refl, sym, ap, ap₂, ◌∙◌, arith, append_assoc}
use Rattle.std.specs.List.{range_with_len, AllZip, Contains}
use Rattle.std.proofs.lemmas.Bool.{false≢true}
use Rattle.std.proofs.lemmas.Nat.{div-mul-add}
use Rattle.std.proofs.Math.Nat.{mul-mod_right, lt-div-mul-add}
use Rattle.std.proofs.lemmas.List.Elements.{All-nil, All-cons, All-head, All-tail}
use Rattle.std.proofs.lemmas.List.FromFn.{get_or-range_with_len, length-range_with_len}
use Rattle.circuits.specs.Literals.{signal_of}
use Rattle.circuits.specs.declared.netlist.Lit.{Lit}
use Rattle.circuits.specs.declared.netlist.Gate.{Gate}
use Rattle.aiger_reader.specs.Bodies.{Role, Input, Output, Gate as GateLine, width_of, defines, defined, first_of}
use Rattle.aiger_reader.proofs.GoodLemmas.{defined_by}
use Rattle.net_print.specs.Rows.{input_row, output_row, gate_row, gate_rows}

-- A row has the width of its role, literals of variables up to the greatest, and a plain one where it defines.
pub record IsFit (greatest : ℕ) (role : Role) (row : List ℕ) : Type 0 where
  pub width : length row ≡ width_of role
  pub in_range : All (λ literal. literal ≤ 2 * greatest + 1) row
  pub plain : IsTrue (defines role) → (first_of row % 2 ≡ 0) × (2 ≤ first_of row)

-- each row fits its role
abbrev pub AreFit : ℕ → List Role → List (List ℕ) → Type 0
AreFit greatest roles rows = AllZip (IsFit greatest) roles rows

pub fit_at : (greatest : ℕ) (roles : List Role) (rows : List (List ℕ)) (k : ℕ) → AreFit greatest roles rows → k < length rows → IsFit greatest (get_or roles k Output) (get_or rows k [])
fit_at greatest [] [] k fit h = absurd (omega (arith, h))
fit_at greatest [] (row ∷ rows) k fit h = absurd fit
fit_at greatest (role ∷ roles) [] k fit h = absurd fit
fit_at greatest (role ∷ roles) (row ∷ rows) zero fit h = fit.0
fit_at greatest (role ∷ roles) (row ∷ rows) (suc k) fit h = fit_at greatest roles rows k fit.1 (omega (arith, h))

-- Rows that fit the lines of these roles, and define these variables.
pub record IsSection (greatest : ℕ) (roles : List Role) (rows : List (List ℕ)) (variables : List ℕ) : Type 0 where
  pub fits : AreFit greatest roles rows
  pub defines : defined roles rows ≡ variables

-- one row more in front
section_more : (greatest : ℕ) (role : Role) (row : List ℕ) (own : List ℕ) (roles : List Role) (rows : List (List ℕ)) (variables : List ℕ) → IsFit greatest role row → defined_by role row ≡ own → IsSection greatest roles rows variables → IsSection greatest (role ∷ roles) (row ∷ rows) (own ++ variables)
section_more greatest role row own roles rows variables fit is rest = record {
  fits = (fit, rest.fits);
  defines = ap₂ (λ (xs ys : List ℕ). xs ++ ys) is rest.defines;
}

pub section_append : (greatest : ℕ) (roles more : List Role) (rows others : List (List ℕ)) (vs ws : List ℕ) → IsSection greatest roles rows vs → IsSection greatest more others ws → IsSection greatest (roles ++ more) (rows ++ others) (vs ++ ws)
section_append greatest roles more rows others vs ws one next = record {
  fits = fit_append roles rows one.fits;
  defines = defined_append roles rows one.fits ∙ ap₂ (λ (xs ys : List ℕ). xs ++ ys) one.defines next.defines;
}
  where
    fit_append : (roles : List Role) (rows : List (List ℕ)) → AreFit greatest roles rows → AreFit greatest (roles ++ more) (rows ++ others)
    fit_append [] [] fit = next.fits
    fit_append [] (row ∷ rows) fit = absurd fit
    fit_append (role ∷ roles) [] fit = absurd fit
    fit_append (role ∷ roles) (row ∷ rows) fit = (fit.0, fit_append roles rows fit.1)

    defined_append : (roles : List Role) (rows : List (List ℕ)) → AreFit greatest roles rows → defined (roles ++ more) (rows ++ others) ≡ defined roles rows ++ defined more others
    defined_append [] [] fit = refl
    defined_append [] (row ∷ rows) fit = absurd fit
    defined_append (role ∷ roles) [] fit = absurd fit
    defined_append (role ∷ roles) (row ∷ rows) fit =
        ap (λ vs. defined_by role row ++ vs) (defined_append roles rows fit.1)
        ∙ sym (append_assoc (defined_by role row) (defined roles rows) (defined more others))

half : (n : ℕ) → 2 * n / 2 ≡ n
half n =
    let e : 2 * n ≡ n * 2 + 0 = omega arith in
    rw e (div-mul-add n 2 0 (omega arith))

pub inputs_section : (greatest a n : ℕ) → a + n ≤ greatest → IsSection greatest (replicate n Input) (map input_row (range_with_len a n)) (range_with_len (a + 1) n)
inputs_section greatest a zero h = record { fits = tt; defines = refl }
inputs_section greatest a (suc n) h =
    let P : ℕ → Type 0 = λ literal. literal ≤ 2 * greatest + 1 in
    let fit : IsFit greatest Input (input_row a) = record {
      width = refl;
      in_range = All-cons P (2 * (a + 1)) [] (omega (arith, h)) (All-nil P);
      plain = λ _. (mul-mod_right 2 (a + 1), omega arith);
    } in
    section_more greatest Input (input_row a) ((a + 1) ∷ []) (replicate n Input) (map input_row (range_with_len (a + 1) n)) (range_with_len (a + 1 + 1) n) fit (ap (λ v. v ∷ []) (half (a + 1)))
    (inputs_section greatest (a + 1) n (omega (arith, h)))

-- the literals of a signal below a bound
pub below : (number bound : ℕ) → number / 2 < bound → number < 2 * bound
below number bound h =
    let near : number < number / 2 * 2 + 2 = lt-div-mul-add (omega arith) in
    omega (arith, near, h)

pub outputs_section : (greatest : ℕ) (outputs : List Lit) → All (λ output. signal_of output < 1 + greatest) outputs → IsSection greatest (replicate (length outputs) Output) (map output_row outputs) []
outputs_section greatest [] all = record { fits = tt; defines = refl }
outputs_section greatest (output ∷ outputs) all =
    let P : ℕ → Type 0 = λ literal. literal ≤ 2 * greatest + 1 in
    let Q : Lit → Type 0 = λ output. signal_of output < 1 + greatest in
    let fit : IsFit greatest Output (output_row output) = record {
      width = refl;
      in_range = All-cons P output.0 [] (omega (arith, below output.0 (1 + greatest) (All-head Q output outputs all))) (All-nil P);
      plain = λ h. absurd (false≢true h);
    } in
    section_more greatest Output (output_row output) [] (replicate (length outputs) Output) (map output_row outputs) [] fit refl
    (outputs_section greatest outputs (All-tail Q output outputs all))

-- both operands of a gate are signals up to the greatest variable
abbrev pub ReadsUpTo : ℕ → Gate → Type 0
ReadsUpTo greatest gate = (signal_of gate.a < 1 + greatest) × (signal_of gate.b < 1 + greatest)

pub gates_section : (greatest variable : ℕ) (gates : List Gate) → 1 ≤ variable → variable + length gates ≤ 1 + greatest → All (ReadsUpTo greatest) gates → IsSection greatest (replicate (length gates) GateLine) (gate_rows variable gates) (range_with_len variable (length gates))
gates_section greatest variable [] some few all = record { fits = tt; defines = refl }
gates_section greatest variable (gate ∷ gates) some few all =
    let P : ℕ → Type 0 = λ literal. literal ≤ 2 * greatest + 1 in
    let reads = All-head (ReadsUpTo greatest) gate gates all in
    let second = All-cons P gate.b.0 [] (omega (arith, below gate.b.0 (1 + greatest) reads.1)) (All-nil P) in
    let both = All-cons P gate.a.0 (gate.b.0 ∷ []) (omega (arith, below gate.a.0 (1 + greatest) reads.0)) second in
    let few_after : variable + suc (length gates) ≤ 1 + greatest = few in
    let fit : IsFit greatest GateLine (gate_row variable gate) = record {
      width = refl;
      in_range = All-cons P (2 * variable) (gate.a.0 ∷ gate.b.0 ∷ []) (omega (arith, few_after)) both;
      plain = λ _. (mul-mod_right 2 variable, omega (arith, some));
    } in
    section_more greatest GateLine (gate_row variable gate) (variable ∷ []) (replicate (length gates) GateLine) (gate_rows (variable + 1) gates) (range_with_len (variable + 1) (length gates)) fit (ap (λ v. v ∷ []) (half variable))
    (gates_section greatest (variable + 1) gates (omega arith) (omega (arith, few_after)) (All-tail (ReadsUpTo greatest) gate gates all))

pub range_append : (a b n m k : ℕ) → b ≡ a + n → k ≡ n + m → range_with_len a n ++ range_with_len b m ≡ range_with_len a k
range_append a b zero m k e h =
    let same : b ≡ a = omega (arith, e) in
    let count : k ≡ m = omega (arith, h) in
    rw (same, count) refl
range_append a b (suc n) m k e h =
    let count : k ≡ suc (n + m) = omega (arith, h) in
    rw count (ap (λ vs. a ∷ vs) (range_append (a + 1) b n m (n + m) (omega (arith, e)) refl))

-- numbers in a row are distinct, and those between its ends are in it
pub range_distinct : (a n : ℕ) → AllPairs (λ one other. one ≢ other) (range_with_len a n)
range_distinct a n i j d before there same =
    let few : j < n = omega (arith, there, length-range_with_len a n) in
    let one = get_or-range_with_len a n i d (omega (arith, before, few)) in
    let other = get_or-range_with_len a n j d few in
    omega (arith, before, one, other, same)

pub range_contains : (a n x : ℕ) → a ≤ x → x < a + n → Contains (range_with_len a n) x
range_contains a n x low high =
    let k : ℕ = x - a in
    let few : k < n = omega (arith, low, high) in
    (k, omega (arith, few, length-range_with_len a n), omega (arith, get_or-range_with_len a n k x few, low))
