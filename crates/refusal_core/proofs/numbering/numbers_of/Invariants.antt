use Rattle.std.proofs.Common.{◌≡◌, map}
use Rattle.std.specs.List.{range_with_len}
use Rattle.refusal_core.specs.Trims.{number_of}
use Rattle.refusal_core.proofs.numbering.numbers_of.Given as goal

abbrev pub invariant-loop-mark : goal.invariant-loop-mark
invariant-loop-mark l =
    (l.next ≡ number_of l.marks l.mark-index) × (l.numbers ≡ map (number_of l.marks) (range_with_len 0 l.mark-index))
