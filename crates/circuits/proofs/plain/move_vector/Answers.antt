-- A vector to which all bits are sent is the vector moved.
use Rattle.std.proofs.Common.{arith}
use Rattle.circuits.proofs.Places.{moved-only}
use Rattle.circuits.proofs.plain.move_vector.Goals as goal

pub returns : goal.returns
returns c =
    moved-only c.args.entries.now c.args.vector.now c.loop-i.bits.items c.requires (record {
      same_length = omega (arith, c.loop-i.bits.ok);
      bits = λ k h. c.loop-i.invariant.sent k (omega arith);
    })
