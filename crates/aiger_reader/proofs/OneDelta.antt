-- The gates of the binary form are determined: each number, each operand, the row of gates, and the offset of the first bad
-- delta.
use Rattle.std.proofs.Common.{◌≡◌, ℕ, ◌+◌, ◌*◌, ◌<◌, List, [], ◌∷◌, length, inl, inr, refl, sym, ap, ap₂, subst, ◌∙◌, arith}
use Rattle.std.proofs.lemmas.Bool.{cases_lt}
use Rattle.aiger_reader.specs.Headers.{AigerHeader}
use Rattle.aiger_reader.specs.Deltas.{BeginsOperand, BeginsSecond, BeginsGates, AreGates, IsBadPair, IsDeltaFault, after_outputs}
use Rattle.aiger_reader.proofs.DeltaLemmas.{one_delta}
use Rattle.aiger_reader.proofs.PairLemmas.{BeginsPair}

-- an operand of a gate
pub one_operand : (least literal other : ℕ) (bytes others x y : List ℕ) (a b : ℕ) → literal ≡ other → bytes ≡ others → BeginsOperand least literal bytes a x → BeginsOperand least other others b y → (a ≡ b) × (x ≡ y)
one_operand least literal other bytes others x y a b literals same one two =
    let deltas = one_delta bytes others x y one.delta two.delta same one.read two.read in
    (omega (arith, literals, one.operand, two.operand, deltas.0), deltas.1)

-- equally many gates
pub one_gates : (variable : ℕ) (bytes others x y : List ℕ) (gates more : List (ℕ × ℕ)) → bytes ≡ others → length gates ≡ length more → BeginsGates variable bytes gates x → BeginsGates variable others more y → (gates ≡ more) × (x ≡ y)
one_gates variable bytes others x y [] [] same count one other = (cc, sym one ∙ (same ∙ other))
one_gates variable bytes others x y [] (q ∷ qs) same count one other = absurd (omega (arith, count))
one_gates variable bytes others x y (p ∷ ps) [] same count one other = absurd (omega (arith, count))
one_gates variable bytes others x y (p ∷ ps) (q ∷ qs) same count one other =
    let firsts = one_operand 1 (2 * variable) (2 * variable) bytes others one.0 other.0 p.0 q.0 refl same one.2 other.2 in
    let seconds = one_operand 0 p.0 q.0 one.0 other.0 one.1 other.1 p.1 q.1 firsts.0 firsts.1 one.3 other.3 in
    let tails = one_gates (variable + 1) one.1 other.1 x y ps qs seconds.1 (omega (arith, count)) one.4 other.4 in
    let pair : p ≡ q = ap₂ (λ (a b : ℕ). (a, b)) firsts.0 seconds.0 in
    (ap₂ (λ (d : ℕ × ℕ) (ds : List (ℕ × ℕ)). d ∷ ds) pair tails.0, tails.1)

pub one_are_gates : (bytes x y : List ℕ) (h : AigerHeader) (gates more : List (ℕ × ℕ)) → AreGates bytes h gates x → AreGates bytes h more y → (gates ≡ more) × (x ≡ y)
one_are_gates bytes x y h gates more one other =
    let here : after_outputs bytes h ≡ after_outputs bytes h = refl in
    one_gates (h.inputs + 1) (after_outputs bytes h) (after_outputs bytes h) x y gates more here (one.count ∙ sym other.count) one.read other.read

-- gates that go on past others have a pair after them
pub pair_after : (variable : ℕ) (bytes others x y : List ℕ) (gates more : List (ℕ × ℕ)) → bytes ≡ others → length gates < length more → BeginsGates variable bytes gates x → BeginsGates variable others more y → (pair : ℕ × ℕ) × (rest : List ℕ) × BeginsPair (2 * (variable + length gates)) x pair rest
pair_after variable bytes others x y gates [] same fewer one other = absurd (omega (arith, fewer))
pair_after variable bytes others x y [] (q ∷ qs) same fewer one other =
    let none : List (ℕ × ℕ) = [] in
    let e : variable ≡ variable + length none = omega arith in
    let P : ℕ → List ℕ → Type 0 = λ n xs. BeginsPair (2 * n) xs q other.1 in
    let here : P variable others = (other.0, other.2, other.3) in
    (q, other.1, subst (λ n. P n x) e (subst (P variable) (sym same ∙ one) here))
pair_after variable bytes others x y (p ∷ ps) (q ∷ qs) same fewer one other =
    let firsts = one_operand 1 (2 * variable) (2 * variable) bytes others one.0 other.0 p.0 q.0 refl same one.2 other.2 in
    let seconds = one_operand 0 p.0 q.0 one.0 other.0 one.1 other.1 p.1 q.1 firsts.0 firsts.1 one.3 other.3 in
    let next = pair_after (variable + 1) one.1 other.1 x y ps qs seconds.1 (omega (arith, fewer)) one.4 other.4 in
    let e : variable + 1 + length ps ≡ variable + length (p ∷ ps) = omega arith in
    (next.0, next.1, subst (λ n. BeginsPair (2 * n) x next.0 next.1) e next.2)

-- a pair isn't both there and bad
pub not_bad : (literal total at : ℕ) (bytes rest : List ℕ) (pair : ℕ × ℕ) → BeginsPair literal bytes pair rest → IsBadPair literal bytes total at → ⊥
not_bad literal total at bytes rest pair there (inl bad) = bad.0 pair.0 there.0 there.1
not_bad literal total at bytes rest pair there (inr bad) =
    let here : bytes ≡ bytes = refl in
    let firsts = one_operand 1 literal literal bytes bytes there.0 bad.1 pair.0 bad.0 refl here there.1 bad.2 in
    let P : ℕ → Type 0 = λ a. BeginsSecond a there.0 pair.1 rest in
    let Q : List ℕ → Type 0 = λ xs. BeginsSecond bad.0 xs pair.1 rest in
    bad.3 pair.1 rest (subst Q firsts.1 (subst P firsts.0 there.2))

-- a bad pair is at one offset
pub one_bad : (literal total at place : ℕ) (bytes : List ℕ) → IsBadPair literal bytes total at → IsBadPair literal bytes total place → at ≡ place
one_bad literal total at place bytes (inl one) (inl other) = omega (arith, one.1, other.1)
one_bad literal total at place bytes (inl one) (inr other) = absurd (one.0 other.0 other.1 other.2)
one_bad literal total at place bytes (inr one) (inl other) = absurd (other.0 one.0 one.1 one.2)
one_bad literal total at place bytes (inr one) (inr other) =
    let here : bytes ≡ bytes = refl in
    let firsts = one_operand 1 literal literal bytes bytes one.1 other.1 one.0 other.0 refl here one.2 other.2 in
    omega (arith, one.4, other.4, ap length firsts.1)

-- gates that go on past a bad pair
past_bad : (variable total at : ℕ) (bytes x y : List ℕ) (gates more : List (ℕ × ℕ)) → length gates < length more → BeginsGates variable bytes gates x → BeginsGates variable bytes more y → IsBadPair (2 * (variable + length gates)) x total at → ⊥
past_bad variable total at bytes x y gates more fewer one other bad =
    let here : bytes ≡ bytes = refl in
    let next = pair_after variable bytes bytes x y gates more here fewer one other in
    not_bad (2 * (variable + length gates)) total at x next.1 next.0 next.2 bad

-- a file has all its gates or a bad delta
pub gates_or_fault : (bytes rest : List ℕ) (h : AigerHeader) (gates : List (ℕ × ℕ)) (at : ℕ) → AreGates bytes h gates rest → IsDeltaFault bytes h at → ⊥
gates_or_fault bytes rest h gates at all fault =
    past_bad (h.inputs + 1) (length bytes) at (after_outputs bytes h) fault.rest rest fault.gates gates (omega (arith, fault.fewer, all.count)) fault.read all.read fault.why

-- the first bad delta is at one offset
same_bad : (variable total at place : ℕ) (bytes x y : List ℕ) (gates more : List (ℕ × ℕ)) → length gates ≡ length more → BeginsGates variable bytes gates x → BeginsGates variable bytes more y → IsBadPair (2 * (variable + length gates)) x total at → IsBadPair (2 * (variable + length more)) y total place → at ≡ place
same_bad variable total at place bytes x y gates more count one other bad worse =
    let here : bytes ≡ bytes = refl in
    let both = one_gates variable bytes bytes x y gates more here count one other in
    let P : ℕ → Type 0 = λ n. IsBadPair (2 * (variable + n)) y total place in
    let Q : List ℕ → Type 0 = λ xs. IsBadPair (2 * (variable + length gates)) xs total place in
    one_bad (2 * (variable + length gates)) total at place x bad (subst Q (sym both.1) (subst P (sym count) worse))

pub one_delta_fault : (bytes : List ℕ) (h : AigerHeader) (at place : ℕ) → IsDeltaFault bytes h at → IsDeltaFault bytes h place → at ≡ place
one_delta_fault bytes h at place one other =
    elim (cases_lt (length one.gates) (length other.gates)) [
      | inl fewer ↦ absurd (past_bad (h.inputs + 1) (length bytes) at (after_outputs bytes h) one.rest other.rest one.gates other.gates fewer one.read other.read one.why)
      | inr least ↦ elim (cases_lt (length other.gates) (length one.gates)) [
        | inl more ↦ absurd (past_bad (h.inputs + 1) (length bytes) place (after_outputs bytes h) other.rest one.rest other.gates one.gates more other.read one.read other.why)
        | inr most ↦ same_bad (h.inputs + 1) (length bytes) at place (after_outputs bytes h) one.rest other.rest one.gates other.gates (omega (arith, least, most)) one.read other.read one.why other.why
      ]
    ]
