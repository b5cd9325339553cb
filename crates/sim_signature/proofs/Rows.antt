-- The vectors that blocks hold.
use Rattle.std.proofs.Common.{ℕ, ◌<◌, ◌≡◌, ◌/◌, ◌%◌, ◌^◌, eqb, List, [], length, sym, ◌∙◌, arith}
use Rattle.circuits.specs.Literals.{EachAt, vector_of}
use Rattle.circuits.proofs.Codes.{vector_of-from_bits}
use Rattle.sim_signature.specs.Blocks.{block_bit, pattern}
use Rattle.sim_signature.proofs.Evaluating.{length-pattern, pattern-bit}

-- each bit of block k is digit k of its lane's number
abbrev pub IsDigit : ℕ → List ℕ → Type 0
IsDigit k block = (w v : ℕ) → w < 8 → v < 64 → block_bit w v block ≡ eqb (v / 2 ^ k % 2) 1

pub all-vectors : (blocks : List (List ℕ)) (n w v : ℕ) → length blocks ≡ n → EachAt IsDigit blocks → w < 8 → v < 64 → pattern blocks w v ≡ vector_of n v
all-vectors blocks n w v len has h l =
    vector_of-from_bits (pattern blocks w v) n v (length-pattern blocks w v ∙ len) (λ k less. sym (pattern-bit blocks w v k) ∙ has k [] (omega (arith, less, len)) w v h l)
