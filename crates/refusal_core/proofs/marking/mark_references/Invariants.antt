use Rattle.std.proofs.Common.{take}
use Rattle.std.specs.Prelude.{option_to_list}
use Rattle.std.specs.List.{flat_map}
use Rattle.refusal_core.specs.Marks.{Adds}
use Rattle.refusal_core.proofs.marking.mark_references.Given as goal

abbrev pub invariant-loop-reference : goal.invariant-loop-reference
invariant-loop-reference l = Adds (flat_map option_to_list (take l.reference-index l.references)) l.fn.marks.items l.marks.items
