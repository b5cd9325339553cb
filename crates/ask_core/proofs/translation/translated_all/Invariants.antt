-- The lines so far.
use Rattle.std.proofs.Common.{◌≡◌, map, take}
use Rattle.ask_core.specs.Renamings.{translated}
use Rattle.ask_core.proofs.translation.translated_all.Given as goal

abbrev pub invariant-loop-line : goal.invariant-loop-line
invariant-loop-line l = l.copies.items ≡ map (translated l.dense.names l.dense.numbers l.next) (take l.line-index l.lines)
