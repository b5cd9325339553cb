-- The operands of the gates of the binary form: one more pair, and why there is none.
use Rattle.std.proofs.Common.{◌≡◌, ℕ, ◌+◌, ◌-◌, ◌*◌, ◌<◌, ◌≤◌, List, [], ◌∷◌, ◌++◌, length, Option, None, Some, IfNone, refl, sym, subst, arith}
use Rattle.std.specs.Option.{SomeIff}
use Rattle.aiger_reader.specs.Headers.{AigerHeader}
use Rattle.aiger_reader.specs.Deltas.{BeginsDelta, BeginsOperand, BeginsFirst, BeginsSecond, BeginsGates, IsBadPair, IsPairFault, IsDeltaFault, AreGates, after_outputs}
use Rattle.aiger_reader.proofs.DeltaLemmas.{delta_same}

-- a delta that is too small, or greater than the literal
pub no_operand : (r : Option ℕ) (least literal delta : ℕ) (bytes after : List ℕ) → SomeIff r ((least ≤ delta) × (delta ≤ literal)) (literal - delta) → BeginsDelta bytes delta after → IfNone r ((a : ℕ) (rest : List ℕ) → BeginsOperand least literal bytes a rest → ⊥)
no_operand None least literal delta bytes after outside read = λ a rest begins.
    let same = (delta_same bytes after rest delta begins.delta read begins.read).0 in
    outside (omega (arith, same, begins.above), omega (arith, same, begins.operand))
no_operand (Some a) least literal delta bytes after inside read = tt

-- the gate with this literal stands at the front of the bytes
abbrev pub BeginsPair : ℕ → List ℕ → ℕ × ℕ → List ℕ → Type 0
BeginsPair literal bytes pair rest = (middle : List ℕ) × BeginsFirst literal bytes pair.0 middle × BeginsSecond pair.0 middle pair.1 rest

-- a pair after some gates
pub gates_push : (variable literal : ℕ) (bytes middle rest : List ℕ) (gates : List (ℕ × ℕ)) (pair : ℕ × ℕ) → BeginsGates variable bytes gates middle → literal ≡ 2 * (variable + length gates) → BeginsPair literal middle pair rest → BeginsGates variable bytes (gates ++ pair ∷ []) rest
gates_push variable literal bytes middle rest [] pair begins place next =
    let e : literal ≡ 2 * variable = omega arith in
    let P : ℕ → Type 0 = λ n. BeginsPair n middle pair rest in
    let Q : List ℕ → Type 0 = λ xs. BeginsPair (2 * variable) xs pair rest in
    let here = subst Q (sym begins) (subst P e next) in
    (here.0, rest, here.1, here.2, refl)
gates_push variable literal bytes middle rest (gate ∷ gates) pair begins place next =
    (begins.0, begins.1, begins.2, begins.3, gates_push (variable + 1) literal begins.1 middle rest gates pair begins.4 (omega arith) next)

-- a bad pair after some gates
pub pair_fault : (variable count literal total end at : ℕ) (bytes middle : List ℕ) (gates : List (ℕ × ℕ)) → BeginsGates variable bytes gates middle → length gates < count → literal ≡ 2 * (variable + length gates) → end ≡ total → IsBadPair literal middle end at → IsPairFault variable count bytes total at
pair_fault variable count literal total end at bytes middle gates begins fewer place same bad =
    let P : ℕ → Type 0 = λ n. IsBadPair n middle end at in
    let Q : ℕ → Type 0 = λ n. IsBadPair (2 * (variable + length gates)) middle n at in
    record {
      gates = gates;
      rest = middle;
      fewer = fewer;
      read = begins;
      why = subst Q same (subst P place bad);
    }

-- a bad pair after the outputs of a file is the file's fault
pub file_fault : (bytes left : List ℕ) (h : AigerHeader) (inputs count total at : ℕ) → left ≡ after_outputs bytes h → inputs ≡ h.inputs → count ≡ h.gates → total ≡ length bytes → IsPairFault (inputs + 1) count left total at → IsDeltaFault bytes h at
file_fault bytes left h inputs count total at here same as_many end fault =
    let P : List ℕ → Type 0 = λ xs. IsPairFault (inputs + 1) count xs total at in
    let Q : ℕ → Type 0 = λ n. IsPairFault (n + 1) count (after_outputs bytes h) total at in
    let R : ℕ → Type 0 = λ n. IsPairFault (h.inputs + 1) n (after_outputs bytes h) total at in
    let S : ℕ → Type 0 = λ n. IsPairFault (h.inputs + 1) h.gates (after_outputs bytes h) n at in
    subst S end (subst R as_many (subst Q same (subst P here fault)))

pub file_gates : (bytes left rest : List ℕ) (h : AigerHeader) (inputs : ℕ) (gates : List (ℕ × ℕ)) → left ≡ after_outputs bytes h → inputs ≡ h.inputs → length gates ≡ h.gates → BeginsGates (inputs + 1) left gates rest → AreGates bytes h gates rest
file_gates bytes left rest h inputs gates here same count begins =
    let P : List ℕ → Type 0 = λ xs. BeginsGates (inputs + 1) xs gates rest in
    let Q : ℕ → Type 0 = λ n. BeginsGates (n + 1) (after_outputs bytes h) gates rest in
    record { count = count; read = subst Q same (subst P here begins) }
