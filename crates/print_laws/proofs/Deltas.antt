-- The deltas that are printed are read as the gates, the greater operand first.
use Rattle.std.proofs.Common.{◌≡◌, ℕ, zero, suc, ◌+◌, ◌-◌, ◌*◌, ◌/◌, ◌%◌, ◌^◌, ◌<◌, ◌≤◌, min, max, Bool, true, false, List, [], ◌∷◌, ◌++◌, length, map, get_or, nat_lt, if◌then◌else◌, refl, sym, subst, ◌∙◌, arith, append_assoc}
use Rattle.std.proofs.Math.Nat.{mod-eq-sub-mul-div, mul-div-le}
use Rattle.std.proofs.lemmas.Bool.{ltb-true}
use Rattle.circuits.specs.declared.netlist.Gate.{Gate}
use Rattle.aiger_reader.specs.Deltas.{IsInGroups, BeginsGates}
use Rattle.aiger_reader.proofs.DeltaLemmas.{more_groups}
use Rattle.text_core.specs.Groups.{groups}
use Rattle.net_print.specs.Deltas.{delta_groups, deltas}

-- numbers below this have one group more than `more` at most
abbrev top : ℕ → ℕ
top zero = 128
top (suc more) = 128 * top more

top_is : top 4 ≡ 34359738368
top_is = refl

parts : (n : ℕ) → n ≡ 128 + n % 128 - 128 + 128 * (n / 128)
parts n = omega (arith, mod-eq-sub-mul-div n 128, mul-div-le n 128)

in_groups_by_test : (t : Bool) (more n : ℕ) → nat_lt n 128 ≡ t → IsInGroups (groups more (n / 128)) (n / 128) → IsInGroups (if t then n ∷ [] else (128 + n % 128) ∷ groups more (n / 128)) n
in_groups_by_test true more n test is = (ltb-true n 128 test, refl)
in_groups_by_test false more n test is =
    subst (IsInGroups ((128 + n % 128) ∷ groups more (n / 128))) (sym (parts n)) (more_groups (128 + n % 128) (n / 128) (groups more (n / 128)) (omega arith) is)

in_groups : (more n : ℕ) → n < top more → IsInGroups (groups more n) n
in_groups zero n h = (h, refl)
in_groups (suc more) n h =
    let wide : n < 128 * top more = h in
    in_groups_by_test (nat_lt n 128) more n refl (in_groups more (n / 128) (omega (arith, wide, mul-div-le n 128)))

few_by_test : (t : Bool) (more n : ℕ) → length (groups more (n / 128)) ≤ more + 1 → length (if t then n ∷ [] else (128 + n % 128) ∷ groups more (n / 128)) ≤ suc more + 1
few_by_test true more n few = omega arith
few_by_test false more n few = omega (arith, few)

pub few_groups : (more n : ℕ) → length (groups more n) ≤ more + 1
few_groups zero n = omega arith
few_groups (suc more) n = few_by_test (nat_lt n 128) more n (few_groups more (n / 128))

-- the operands of a gate, the greater one first
abbrev pub operands_of : Gate → ℕ × ℕ
operands_of gate = (max gate.a.0 gate.b.0, min gate.a.0 gate.b.0)

pub gates_begin : (variable : ℕ) (gates : List Gate) (rest : List ℕ) → variable + length gates < 2 ^ 32 → ((t : ℕ) (d : Gate) → t < length gates → (max (get_or gates t d).a.0 (get_or gates t d).b.0 < 2 * (variable + t))) → BeginsGates variable (deltas variable gates ++ rest) (map operands_of gates) rest
gates_begin variable [] rest few below = refl
gates_begin variable (gate ∷ gates) rest few below =
    let few_after : variable + suc (length gates) < 2 ^ 32 = few in
    let big = max gate.a.0 gate.b.0 in
    let small = min gate.a.0 gate.b.0 in
    let here : big < 2 * (variable + 0) = below 0 gate (omega arith) in
    let first = delta_groups (2 * variable - big) in
    let second = delta_groups (big - small) in
    let more = deltas (variable + 1) gates in
    let all : (deltas variable (gate ∷ gates)) ++ rest ≡ first ++ (second ++ (more ++ rest)) = append_assoc (first ++ second) more rest ∙ append_assoc first second (more ++ rest) in
    let small_enough : small ≤ big = omega arith in (
      second ++ (more ++ rest),
      more ++ rest,
      record {
        delta = 2 * variable - big;
        read = record { groups = first; spelled = all; value = in_groups 4 (2 * variable - big) (omega (arith, few_after, top_is)); short = few_groups 4 (2 * variable - big) };
        above = omega (arith, here);
        operand = omega (arith, here);
      },
      record {
        delta = big - small;
        read = record { groups = second; spelled = refl; value = in_groups 4 (big - small) (omega (arith, few_after, here, top_is)); short = few_groups 4 (big - small) };
        above = omega arith;
        operand = omega (arith, small_enough);
      },
      gates_begin (variable + 1) gates rest (omega (arith, few_after)) (λ t d h. let e : variable + 1 + t ≡ variable + suc t = omega arith in rw e (below (suc t) d (omega (arith, h)))),
    )
