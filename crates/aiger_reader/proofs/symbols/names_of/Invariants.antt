-- The ports so far have their names.
use Rattle.std.proofs.Common.{◌≡◌, length}
use Rattle.aiger_reader.proofs.NameLemmas.{AreSoFar}
use Rattle.aiger_reader.proofs.symbols.names_of.Given as goal

abbrev pub invariant-loop-position : goal.invariant-loop-position
invariant-loop-position l = record {
  count : length l.names ≡ l.position;
  each : AreSoFar l.kind l.slots l.names;
}
