-- The bits so far are those of the literals so far.
use Rattle.std.proofs.Common.{◌≡◌, map, take}
use Rattle.circuits.specs.Literals.{literal_bit}
use Rattle.circuits.proofs.plain.literal_bits.Given as goal

abbrev pub invariant-loop-literal : goal.invariant-loop-literal
invariant-loop-literal l =
    l.bits.items ≡ map (literal_bit l.values) (take l.literal-index l.literals)
