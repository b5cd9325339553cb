-- Each file in the binary form has all its gates, or a first bad delta.
use Rattle.std.proofs.Common.{◌≡◌, ℕ, zero, suc, ◌+◌, ◌-◌, ◌*◌, ◌<◌, ◌≤◌, ◌⊎◌, List, [], ◌∷◌, ◌++◌, length, length-append, length-drop, inl, inr, refl, ap, arith}
use Rattle.std.proofs.lemmas.Bool.{cases_lt}
use Rattle.std.proofs.lemmas.List.{length_push}
use Rattle.aiger_reader.specs.Headers.{AigerHeader}
use Rattle.aiger_reader.specs.Bodies.{line_offset}
use Rattle.aiger_reader.specs.Deltas.{IsInGroups, BeginsGroups, BeginsDelta, BeginsOperand, BeginsGates, AreGates, IsBadPair, IsPairFault, IsDeltaFault, after_outputs}
use Rattle.aiger_reader.proofs.DeltaLemmas.{last_group, group_before, no_group_after, delta_same}
use Rattle.aiger_reader.proofs.PairLemmas.{BeginsPair, gates_push}
use Rattle.aiger_reader.proofs.DecidableLemmas.{Decidable, decidable_both, decidable_le, steps_or}

groups_some : (groups : List ℕ) (n : ℕ) → IsInGroups groups n → 0 < length groups
groups_some [] n value = absurd value
groups_some (group ∷ groups) n value = omega arith

abbrev HasGroups : ℕ → List ℕ → Type 0
HasGroups most bytes = (n : ℕ) × (rest : List ℕ) × BeginsGroups most bytes n rest

decidable_groups : (most : ℕ) (bytes : List ℕ) → Decidable (HasGroups most bytes)
decidable_groups zero bytes = inr (λ has. omega (arith, groups_some has.2.groups has.0 has.2.value, has.2.short))
decidable_groups (suc most) [] =
    inr (λ has. omega (arith, groups_some has.2.groups has.0 has.2.value, ap length has.2.spelled, length-append has.2.groups has.1))
decidable_groups (suc most) (byte ∷ bytes) =
    elim (cases_lt byte 128) [
      | inl below ↦ inl (byte, bytes, last_group (suc most) byte byte (byte ∷ bytes) bytes refl below refl (omega arith))
      | inr above ↦ elim (decidable_groups most bytes) [
        | inl has ↦ inl (byte - 128 + 128 * has.0, has.1, group_before (suc most) most byte (byte - 128) has.0 (byte ∷ bytes) bytes has.1 refl above refl (omega arith) has.2)
        | inr none ↦ inr (λ has. no_group_after (suc most) most byte has.0 (byte ∷ bytes) bytes has.1 refl above (omega arith) (λ m left begins. none (m, left, begins)) has.2)
      ]
    ]

abbrev HasOperand : ℕ → ℕ → List ℕ → Type 0
HasOperand least literal bytes = (a : ℕ) × (rest : List ℕ) × BeginsOperand least literal bytes a rest

decidable_operand : (least literal : ℕ) (bytes : List ℕ) → Decidable (HasOperand least literal bytes)
decidable_operand least literal bytes =
    elim (decidable_groups 5 bytes) [
      | inr none ↦ inr (λ has. none (has.2.delta, has.1, has.2.read))
      | inl delta ↦ elim (decidable_both (decidable_le least delta.0) (decidable_le delta.0 literal)) [
        | inl fits ↦ inl (literal - delta.0, delta.1, record { delta = delta.0; read = delta.2; above = fits.0; operand = omega (arith, fits.1) })
        | inr not_so ↦ inr (λ has. let same = delta_same bytes delta.1 has.1 delta.0 has.2.delta delta.2 has.2.read in not_so (omega (arith, same.0, has.2.above), omega (arith, same.0, has.2.operand)))
      ]
    ]

-- what is left is no longer
delta_shorter : (bytes rest : List ℕ) (delta : ℕ) → BeginsDelta bytes delta rest → length rest ≤ length bytes
delta_shorter bytes rest delta begins = omega (arith, ap length begins.spelled, length-append begins.groups rest)

abbrev HasPair : ℕ → List ℕ → Type 0
HasPair literal bytes = (pair : ℕ × ℕ) × (rest : List ℕ) × (length rest ≤ length bytes) × BeginsPair literal bytes pair rest

pair_or_bad : (literal total : ℕ) (bytes : List ℕ) → length bytes ≤ total → HasPair literal bytes ⊎ ((at : ℕ) × IsBadPair literal bytes total at)
pair_or_bad literal total bytes within =
    elim (decidable_operand 1 literal bytes) [
      | inr none ↦ inr (total - length bytes, inl ((λ a rest begins. none (a, rest, begins)), omega (arith, within)))
      | inl first ↦ let shorter = delta_shorter bytes first.1 first.2.delta first.2.read in
          elim (decidable_operand 0 first.0 first.1) [
            | inr none ↦ inr (total - length first.1, inr (first.0, first.1, first.2, (λ b rest begins. none (b, rest, begins)), omega (arith, within, shorter)))
            | inl second ↦ let less = delta_shorter first.1 second.1 second.2.delta second.2.read in
                inl ((first.0, second.0), second.1, omega (arith, shorter, less), (first.1, first.2, second.2))
          ]
    ]

-- n gates at the front of the bytes
abbrev Front : ℕ → ℕ → List ℕ → ℕ → Type 0
Front variable total bytes n = (gates : List (ℕ × ℕ)) × (rest : List ℕ) × (length gates ≡ n) × (length rest ≤ total) × BeginsGates variable bytes gates rest

abbrev HasPairFault : ℕ → ℕ → ℕ → List ℕ → Type 0
HasPairFault variable count total bytes = (at : ℕ) × IsPairFault variable count bytes total at

next_or_bad : (variable count total : ℕ) (bytes : List ℕ) (n : ℕ) → n < count → Front variable total bytes n → Front variable total bytes (n + 1) ⊎ HasPairFault variable count total bytes
next_or_bad variable count total bytes n below front =
    elim (pair_or_bad (2 * (variable + length front.0)) total front.1 front.3) [
      | inr bad ↦ inr (bad.0, record { gates = front.0; rest = front.1; fewer = omega (arith, front.2, below); read = front.4; why = bad.1 })
      | inl pair ↦ inl (front.0 ++ pair.0 ∷ [], pair.1, omega (arith, length_push front.0 pair.0, front.2), omega (arith, pair.2, front.3), gates_push variable (2 * (variable + length front.0)) bytes front.1 pair.1 front.0 pair.0 front.4 refl pair.3)
    ]

abbrev HasGates : List ℕ → AigerHeader → Type 0
HasGates bytes h = (gates : List (ℕ × ℕ)) × (rest : List ℕ) × (length rest ≤ length bytes) × AreGates bytes h gates rest

pub gates_or_bad : (bytes : List ℕ) (h : AigerHeader) → HasGates bytes h ⊎ ((at : ℕ) × IsDeltaFault bytes h at)
gates_or_bad bytes h =
    let within : length (after_outputs bytes h) ≤ length bytes = omega (arith, length-drop (line_offset bytes (1 + h.outputs)) bytes) in
    let v = h.inputs + 1 in
    let all = after_outputs bytes h in
    elim (steps_or (Front v (length bytes) all) (HasPairFault v h.gates (length bytes) all) h.gates ([], all, refl, within, refl) (next_or_bad v h.gates (length bytes) all)) [
      | inr bad ↦ inr bad
      | inl front ↦ inl (front.0, front.1, front.3, record { count = front.2; read = front.4 })
    ]
