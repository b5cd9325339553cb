use Rattle.std.proofs.Common.{◌≡◌, ◌*◌, length}
use Rattle.circuits.specs.Literals.{EachAt}
use Rattle.sim_signature.specs.Supports.{IsBlock}
use Rattle.sim_signature.proofs.supports.blocks_of.Given as goal

abbrev pub invariant-loop-block : goal.invariant-loop-block
invariant-loop-block l = record {
  count : length l.blocks.items ≡ l.block;
  each : EachAt (λ b words. IsBlock l.graph (64 * b) words) l.blocks.items;
}
