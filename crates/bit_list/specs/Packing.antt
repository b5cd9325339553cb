-- Bits packed into words of 64, the lowest bit of a word first.
use Rattle.std.specs.Prelude.{◌≡◌, ℕ, ◌+◌, ◌*◌, ◌/◌, ◌%◌, ◌^◌, ◌<◌, ◌≤◌, ◌==◌, Bool, false, List, length, map, slice_index_or}
use Rattle.std.specs.List.{range_with_len}

-- bit v of a word
abbrev pub word_bit : ℕ → ℕ → Bool
word_bit v word = word / 2 ^ v % 2 == 1

-- bit i of words is bit i % 64 of word i / 64; after the last word all bits are 0
abbrev pub packed_bit : List ℕ → ℕ → Bool
packed_bit words i = word_bit (i % 64) (slice_index_or words (i / 64) 0)

-- the first n bits of words
abbrev pub bits_of : List ℕ → ℕ → List Bool
bits_of words count = map (packed_bit words) (range_with_len 0 count)

-- There are as many words as the bits need, and what is left of the last one is 0.
pub record IsPacked (words : List ℕ) (count : ℕ) : Type 0 where
  pub enough : count ≤ 64 * length words
  pub none_more : 64 * length words < count + 64
  pub rest : (i : ℕ) → count ≤ i → packed_bit words i ≡ false
