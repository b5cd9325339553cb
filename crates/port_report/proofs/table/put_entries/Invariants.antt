use Rattle.std.proofs.Common.{◌≡◌, ◌++◌, drop}
use Rattle.port_report.specs.Reports.{entry_lines}
use Rattle.text_core.specs.Extends.{Extends}
use Rattle.port_report.proofs.table.put_entries.Given as goal

-- what is written and the lines that are left make the whole, and what stood there stays
abbrev pub invariant-loop-port : goal.invariant-loop-port
invariant-loop-port l =
    (l.out.items ++ entry_lines l.kind l.firsts l.seconds l.port (drop l.port l.entries) ≡ l.initial.out.items ++ entry_lines l.kind l.firsts l.seconds 0 l.entries)
    × Extends l.initial.out.items l.out.items
