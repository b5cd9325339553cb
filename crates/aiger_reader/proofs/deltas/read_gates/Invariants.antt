-- The gates so far stand before what is left.
use Rattle.std.proofs.Common.{◌≡◌, ◌+◌, length, vec_len}
use Rattle.aiger_reader.specs.Deltas.{BeginsGates}
use Rattle.aiger_reader.proofs.deltas.read_gates.Given as goal

abbrev pub invariant-loop-t : goal.invariant-loop-t
invariant-loop-t l = record {
  count : vec_len l.gates ≡ l.t;
  gates : BeginsGates (l.inputs + 1) l.fn.cursor.bytes l.gates.items l.cursor.bytes;
  end : l.cursor.at + length l.cursor.bytes ≡ l.fn.cursor.at + length l.fn.cursor.bytes;
}
