-- What is made so far, continued by the positions that are left, is the row.
use Rattle.std.proofs.Common.{◌≡◌, map, drop}
use Rattle.circuits.specs.Expansion.{row_literals, row_made, stand_in}
use Rattle.net_core.specs.Rows.{row_continued}
use Rattle.net_core.proofs.expanding.Gates.row.Given as goal

abbrev pub invariant-loop-place : goal.invariant-loop-place
invariant-loop-place l = record {
  made : row_continued l.fn.self.first l.self.list.items l.value (row_literals (drop l.place (map (stand_in l.literals) l.names)) (drop l.place l.row)) ≡ row_made l.fn.self.first (map (stand_in l.literals) l.names) l.fn.self.list.items l.row;
  first : l.self.first ≡ l.fn.self.first;
}
