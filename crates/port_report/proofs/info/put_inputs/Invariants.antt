-- What is written and the inputs that are left make the whole, and what stood there stays.
use Rattle.std.proofs.Common.{◌≡◌, ◌++◌, drop}
use Rattle.port_report.specs.Infos.{input_lines}
use Rattle.text_core.specs.Extends.{Extends}
use Rattle.port_report.proofs.info.put_inputs.Given as goal

abbrev pub invariant-loop-entry : goal.invariant-loop-entry
invariant-loop-entry l =
    (l.out.items ++ input_lines l.names (drop l.entry-index l.support) ≡ l.initial.out.items ++ input_lines l.names l.support)
    × Extends l.initial.out.items l.out.items
