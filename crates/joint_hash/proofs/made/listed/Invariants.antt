-- The literals so far.
use Rattle.std.proofs.Common.{take}
use Rattle.joint_hash.specs.Made.{AreNumbersOf}
use Rattle.joint_hash.proofs.made.listed.Given as goal

abbrev pub invariant-loop-literal : goal.invariant-loop-literal
invariant-loop-literal l = AreNumbersOf (take l.literal-index l.literals) l.all.keys
