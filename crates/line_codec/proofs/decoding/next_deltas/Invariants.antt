-- Where the bytes are those of numbers, the first of these were read, and the others are left.
use Rattle.std.proofs.Common.{◌≡◌, ℕ, List, ◌+◌, ◌++◌, All, drop, length, take}
use Rattle.line_codec.specs.LineBytes.{IsWord, deltas_bytes}
use Rattle.line_codec.proofs.decoding.next_deltas.Given as goal

abbrev pub invariant-loop-number : goal.invariant-loop-number
invariant-loop-number l = record {
  reads : (numbers rest : List ℕ) → length numbers ≡ l.count → All IsWord numbers → l.fn.cursor.bytes ≡ deltas_bytes 0 numbers ++ rest
      → (l.numbers.items ≡ take l._number numbers) × (l.cursor.bytes ≡ deltas_bytes l.from (drop l._number numbers) ++ rest);
  end : l.cursor.at + length l.cursor.bytes ≡ l.fn.cursor.at + length l.fn.cursor.bytes;
}
