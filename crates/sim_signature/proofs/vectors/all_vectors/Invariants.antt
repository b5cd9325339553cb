-- The blocks so far have the digits of all numbers.
use Rattle.std.proofs.Common.{◌≡◌, length}
use Rattle.circuits.specs.Literals.{EachAt}
use Rattle.sim_signature.proofs.Rows.{IsDigit}
use Rattle.sim_signature.proofs.vectors.all_vectors.Given as goal

abbrev pub invariant-loop-input : goal.invariant-loop-input
invariant-loop-input l = (length l.blocks.items ≡ l.input) × EachAt IsDigit l.blocks.items
