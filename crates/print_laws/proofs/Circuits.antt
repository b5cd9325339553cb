-- The netlist of the rows that are printed is the netlist itself.
use Rattle.std.proofs.Common.{◌≡◌, ℕ, ◌+◌, ◌-◌, ◌*◌, ◌/◌, ◌%◌, ◌<◌, ◌≤◌, ◌==◌, Bool, true, false, List, [], ◌∷◌, ◌++◌, length, map, take, drop, All, refl, sym, ap, ◌∙◌, arith}
use Rattle.std.specs.Prelude.{if◌then◌else◌}
use Rattle.std.specs.List.{range_with_len, position_or_len}
use Rattle.std.proofs.Math.Nat.{mod-eq-sub-mul-div, mul-div-le}
use Rattle.std.proofs.Math.Seq.{drop-append_seam, take-append_seam}
use Rattle.std.proofs.lemmas.Bool.{ne_eqb, eq-eqb, eqb-true, eqb-false}
use Rattle.std.proofs.lemmas.List.Elements.{All-head, All-tail}
use Rattle.std.proofs.lemmas.List.Sums.{position_or_len_is}
use Rattle.std.proofs.lemmas.List.FromFn.{get_or-range_with_len, length-range_with_len}
use Rattle.circuits.specs.Literals.{signal_of}
use Rattle.circuits.specs.Functions.{gate_def}
use Rattle.circuits.specs.declared.netlist.Lit.{Lit}
use Rattle.circuits.specs.declared.netlist.Gate.{Gate}
use Rattle.circuits.specs.declared.definition.Def.TheVariants.{And}
use Rattle.aiger_reader.specs.Bodies.{first_of, lit_from, literal_of, and_on}
use Rattle.net_print.specs.Rows.{output_row, gate_rows}
use Rattle.print_laws.proofs.Fitting.{ReadsUpTo}

-- among the variables from 1 on, x stands at place x - 1
place_of_variable : (greatest x : ℕ) → 1 ≤ x → x < 1 + greatest → position_or_len (λ v. v == x) (range_with_len 1 greatest) ≡ x - 1
place_of_variable greatest x some few =
    position_or_len_is (λ v. v == x) (range_with_len 1 greatest) (x - 1) 0 (omega (arith, few, length-range_with_len 1 greatest))
    (λ k h. ne_eqb _ x (λ same. omega (arith, same, h, some, get_or-range_with_len 1 greatest k 0 (omega (arith, h, few)))))
    (λ h. eq-eqb _ x (omega (arith, some, get_or-range_with_len 1 greatest (x - 1) 0 (omega (arith, some, few)))))

-- the number of the signal that a variable is
number_by_test : (t : Bool) (signal place number : ℕ) → (t ≡ true → signal ≡ 0) → (t ≡ false → 1 + place ≡ signal) → number ≡ 2 * signal + number % 2 → 2 * (if t then 0 else 1 + place) + number % 2 ≡ number
number_by_test true signal place number passes fails whole = omega (arith, passes refl, whole)
number_by_test false signal place number passes fails whole = omega (arith, fails refl, whole)

whole_number : (number : ℕ) → number ≡ 2 * (number / 2) + number % 2
whole_number number = omega (arith, mod-eq-sub-mul-div number 2, mul-div-le number 2)

-- so each literal is the one that is printed
pub literal_of-same : (greatest : ℕ) (literal : Lit) → signal_of literal < 1 + greatest → literal_of (range_with_len 1 greatest) literal.0 ≡ literal
literal_of-same greatest literal h =
    let number = literal.0 in
    let signal = number / 2 in
    ap lit_from
    (number_by_test (signal == 0) signal (position_or_len (λ v. v == signal) (range_with_len 1 greatest)) number
    (eqb-true signal 0)
    (λ fails. let some = eqb-false signal 0 fails in omega (arith, some, place_of_variable greatest signal (omega (arith, some)) h))
    (whole_number number))

pub outputs_same : (greatest : ℕ) (outputs : List Lit) → All (λ output. signal_of output < 1 + greatest) outputs → map (λ row. literal_of (range_with_len 1 greatest) (first_of row)) (map output_row outputs) ≡ outputs
outputs_same greatest [] all = refl
outputs_same greatest (output ∷ outputs) all =
    let P : Lit → Type 0 = λ output. signal_of output < 1 + greatest in
    let more = map (λ row. literal_of (range_with_len 1 greatest) (first_of row)) (map output_row outputs) in
    ap (λ first. first ∷ more) (literal_of-same greatest output (All-head P output outputs all))
    ∙ ap (λ rest. output ∷ rest) (outputs_same greatest outputs (All-tail P output outputs all))

pub gates_same : (greatest variable : ℕ) (gates : List Gate) → All (ReadsUpTo greatest) gates → map (and_on (range_with_len 1 greatest)) (gate_rows variable gates) ≡ map gate_def gates
gates_same greatest variable [] all = refl
gates_same greatest variable (gate ∷ gates) all =
    let reads = All-head (ReadsUpTo greatest) gate gates all in
    let vars = range_with_len 1 greatest in
    let more = map (and_on vars) (gate_rows (variable + 1) gates) in
    ap (λ a. And a (literal_of vars gate.b.0) ∷ more) (literal_of-same greatest gate.a reads.0)
    ∙ ap (λ b. And gate.a b ∷ more) (literal_of-same greatest gate.b reads.1)
    ∙ ap (λ rest. gate_def gate ∷ rest) (gates_same greatest (variable + 1) gates (All-tail (ReadsUpTo greatest) gate gates all))

-- the parts of the rows
pub rows_after : {X : Type 0} (n : ℕ) (xs ys : List X) → length xs ≡ n → drop n (xs ++ ys) ≡ ys
rows_after n xs ys h = rw (sym h) (drop-append_seam xs ys)

pub rows_before : {X : Type 0} (n : ℕ) (xs ys : List X) → length xs ≡ n → take n (xs ++ ys) ≡ xs
rows_before n xs ys h = rw (sym h) (take-append_seam xs ys)
