-- What is made so far, joined with the rows that are left, is the whole.
use Rattle.std.proofs.Common.{◌≡◌, true, map, drop}
use Rattle.circuits.specs.Expansion.{made, or_each, cover_made, stand_in}
use Rattle.net_core.proofs.expanding.Gates.rows.Given as goal

abbrev pub invariant-loop-place : goal.invariant-loop-place
invariant-loop-place l = record {
  made : or_each l.fn.self.first (map (stand_in l.literals) l.names) (made l.self.list.items l.value) (drop l.place l.rows) ≡ cover_made l.fn.self.first (map (stand_in l.literals) l.names) l.fn.self.list.items l.rows true;
  first : l.self.first ≡ l.fn.self.first;
}
