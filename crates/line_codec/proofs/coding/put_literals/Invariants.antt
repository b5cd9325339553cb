-- What is written and what is left make the whole, and what stood there stays.
use Rattle.std.proofs.Common.{◌≡◌, ◌++◌, All, drop, take}
use Rattle.text_core.specs.Extends.{Extends}
use Rattle.line_codec.specs.LineBytes.{IsWord, literal_numbers, deltas_bytes}
use Rattle.line_codec.proofs.coding.put_literals.Given as goal

abbrev pub invariant-loop-literal : goal.invariant-loop-literal
invariant-loop-literal l = record {
  whole : l.out.items ++ deltas_bytes l.from (drop l.literal-index (literal_numbers l.clause)) ≡ l.fn.out.items ++ deltas_bytes 0 (literal_numbers l.clause);
  kept : Extends l.fn.out.items l.out.items;
  words : All IsWord (take l.literal-index (literal_numbers l.clause));
}
