-- What is written and the rows that are left make the whole, and what stood there stays.
use Rattle.std.proofs.Common.{◌≡◌, ◌++◌, drop}
use Rattle.port_report.specs.Infos.{output_texts}
use Rattle.port_report.specs.Reports.{names_of}
use Rattle.text_core.specs.Extends.{Extends}
use Rattle.port_report.proofs.info.put_outputs.Given as goal

abbrev pub invariant-loop-port : goal.invariant-loop-port
invariant-loop-port l =
    (l.out.items ++ output_texts (names_of l.named) l.port (drop l.port l.rows) ≡ l.initial.out.items ++ output_texts (names_of l.named) 0 l.rows)
    × Extends l.initial.out.items l.out.items
