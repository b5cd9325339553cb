-- Vectors of bits, and literals as the AIGER format numbers them.
use Rattle.std.specs.Prelude.{ℕ, ◌+◌, ◌-◌, ◌*◌, ◌/◌, ◌%◌, ◌^◌, ◌<◌, ◌==◌, Bool, false, not, List, length, map, slice_index_or, if◌then◌else◌}
use Rattle.std.specs.Bool.{beq}
use Rattle.std.specs.List.{range_with_len}
use Rattle.circuits.specs.declared.netlist.Lit.{Lit}

-- P of each element with its place
abbrev pub EachAt : {X : Type 0} → (ℕ → X → Type 0) → List X → Type 0
EachAt {X} P xs = (k : ℕ) (d : X) → k < length xs → P k (slice_index_or xs k d)

-- bit i of a vector
abbrev pub bit : List Bool → ℕ → Bool
bit x i = slice_index_or x i false

-- the vector of n bits that a number codes: bit i is its digit i in base two, the lowest first
abbrev pub vector_of : ℕ → ℕ → List Bool
vector_of n code = map (λ i. code / 2 ^ i % 2 == 1) (range_with_len 0 n)

-- exclusive or
abbrev pub differ : Bool → Bool → Bool
differ a b = not (beq a b)

-- the signal that a literal reads
abbrev pub signal_of : Lit → ℕ
signal_of literal = literal.0 / 2

-- whether a literal inverts its signal
abbrev pub is_negated : Lit → Bool
is_negated literal = literal.0 % 2 == 1

-- the literal's bit where each signal has the bit that v gives it
abbrev pub literal_bit : List Bool → Lit → Bool
literal_bit v literal = differ (bit v (signal_of literal)) (is_negated literal)

-- the plain literal of a signal
abbrev pub plain_literal : ℕ → Lit
plain_literal signal = record { 0 = 2 * signal }

-- the literal of the same signal with the other sign
abbrev pub inverse : Lit → Lit
inverse literal = record { 0 = 2 * signal_of literal + (1 - literal.0 % 2) }

-- a literal that stands for the signal of another, with that one's sign
abbrev pub signed_as : Lit → Lit → Lit
signed_as literal signal = if is_negated literal then inverse signal else signal

-- the literal of the constant that is 0
abbrev pub false_literal : Lit
false_literal = record { 0 = 0 }

-- the inverse of it, which is 1
abbrev pub true_literal : Lit
true_literal = record { 0 = 1 }
