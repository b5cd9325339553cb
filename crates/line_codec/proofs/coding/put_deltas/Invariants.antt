-- What is written and what is left make the whole, and what stood there stays.
use Rattle.std.proofs.Common.{◌≡◌, ◌++◌, All, drop, take}
use Rattle.text_core.specs.Extends.{Extends}
use Rattle.line_codec.specs.LineBytes.{IsWord, deltas_bytes}
use Rattle.line_codec.proofs.coding.put_deltas.Given as goal

abbrev pub invariant-loop-number : goal.invariant-loop-number
invariant-loop-number l = record {
  whole : l.out.items ++ deltas_bytes l.from (drop l.number-index l.numbers) ≡ l.fn.out.items ++ deltas_bytes 0 l.numbers;
  kept : Extends l.fn.out.items l.out.items;
  words : All IsWord (take l.number-index l.numbers);
}
