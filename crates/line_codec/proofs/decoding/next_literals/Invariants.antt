-- Where the bytes are those of literals, the first of these were read, and the others are left.
use Rattle.std.proofs.Common.{◌≡◌, ℕ, List, ◌+◌, ◌++◌, All, drop, length, take}
use Rattle.cnf_core.specs.declared.literal.SatLit.{SatLit}
use Rattle.line_codec.specs.LineBytes.{IsWord, literal_numbers, deltas_bytes}
use Rattle.line_codec.proofs.decoding.next_literals.Given as goal

abbrev pub invariant-loop-literal : goal.invariant-loop-literal
invariant-loop-literal l = record {
  reads : (clause : List SatLit) (rest : List ℕ) → length clause ≡ l.count → All IsWord (literal_numbers clause) → l.fn.cursor.bytes ≡ deltas_bytes 0 (literal_numbers clause) ++ rest
      → (l.literals.items ≡ take l._literal clause) × (l.cursor.bytes ≡ deltas_bytes l.from (drop l._literal (literal_numbers clause)) ++ rest);
  end : l.cursor.at + length l.cursor.bytes ≡ l.fn.cursor.at + length l.fn.cursor.bytes;
}
