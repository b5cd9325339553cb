-- What is written and the pairs that are left make the whole, and what stood there stays.
use Rattle.std.proofs.Common.{◌≡◌, ◌++◌, drop}
use Rattle.port_report.specs.Infos.{pair_lines}
use Rattle.text_core.specs.Extends.{Extends}
use Rattle.port_report.proofs.info.put_pairs.Given as goal

abbrev pub invariant-loop-pair : goal.invariant-loop-pair
invariant-loop-pair l =
    (l.out.items ++ pair_lines (drop l.pair-index l.pairs) ≡ l.initial.out.items ++ pair_lines l.pairs)
    × Extends l.initial.out.items l.out.items
