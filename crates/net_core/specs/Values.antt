-- What a netlist gives its signals where they have values of any kind: a bit, words of bits, or 0, 1 and X.
use Rattle.std.specs.Prelude.{ℕ, ◌≡◌, ◌-◌, ◌^◌, Bool, false, ◌&&◌, if◌then◌else◌, List, [], ◌∷◌, ◌++◌, map, slice_index_or, bit_and, bit_xor}
use Rattle.std.specs.List.{range_with_len}
use Rattle.circuits.specs.declared.netlist.Lit.{Lit}
use Rattle.circuits.specs.declared.netlist.Gate.{Gate}
use Rattle.circuits.specs.Literals.{differ, signal_of, is_negated}
use Rattle.circuits.specs.Netlists.{Net}

-- A value that may be inverted, the AND of two, and what a signal has that isn't there.
pub record Operations (V : Type 0) : Type 0 where
  pub absent : V
  pub signed : V → Bool → V
  pub and : V → V → V

-- a map of values that keeps the operations (a homomorphism)
pub record KeepsOperations {V W : Type 0} (on : Operations V) (to : Operations W) (f : V → W) : Type 0 where
  pub absent : f on.absent ≡ to.absent
  pub signed : (value : V) (negated : Bool) → f (on.signed value negated) ≡ to.signed (f value) negated
  pub and : (one other : V) → f (on.and one other) ≡ to.and (f one) (f other)

-- the value of a literal where each signal has the value that is given
abbrev pub literal_value : {V : Type 0} → Operations V → List V → Lit → V
literal_value on values literal = on.signed (slice_index_or values (signal_of literal) on.absent) (is_negated literal)

-- the value of a gate where each signal has the value that is given
abbrev pub gate_value : {V : Type 0} → Operations V → List V → Gate → V
gate_value on values gate = on.and (literal_value on values gate.a) (literal_value on values gate.b)

-- the values so far, continued by one value for each gate
abbrev pub with_values : {V : Type 0} → Operations V → List V → List Gate → List V
with_values on values [] = values
with_values on values (gate ∷ gates) = with_values on (values ++ gate_value on values gate ∷ []) gates

-- each output's value where the signals before the gates have these values
abbrev pub output_values : {V : Type 0} → Operations V → Net → List V → List V
output_values on net values = map (literal_value on (with_values on values net.gates)) net.outputs

-- Bits, words of 64 bits, and blocks of n words.
abbrev pub bits : Operations Bool
bits = record { absent = false; signed = differ; and = λ a b. a && b }

-- the bits of a word, all inverted where a sign says so
abbrev pub signed_word : ℕ → Bool → ℕ
signed_word word negated = bit_xor word (if negated then 2 ^ 64 - 1 else 0)

-- 64 bits at once, each on a pattern of its own
abbrev pub words : Operations ℕ
words = record { absent = 0; signed = signed_word; and = bit_and }

-- lane by lane, in n lanes
abbrev pub each_lane : ℕ → (ℕ → ℕ → ℕ) → List ℕ → List ℕ → List ℕ
each_lane n f one other = map (λ l. f (slice_index_or one l 0) (slice_index_or other l 0)) (range_with_len 0 n)

-- n words at once, 64 patterns in each
abbrev pub blocks : ℕ → Operations (List ℕ)
blocks n = record {
  absent = [];
  signed = λ block negated. map (λ l. signed_word (slice_index_or block l 0) negated) (range_with_len 0 n);
  and = each_lane n bit_and;
}
