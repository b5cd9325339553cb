use Rattle.std.proofs.Common.{take}
use Rattle.std.specs.List.{AllZip}
use Rattle.hier_blif.specs.NameFaults.{redefined_faults}
use Rattle.hier_blif.specs.Scopes.{HasNames}
use Rattle.hier_blif.proofs.FindLemmas.{AreLeft}
use Rattle.hier_blif.proofs.names.Scope.number_names.Given as goal

abbrev pub invariant-loop-place : goal.invariant-loop-place
invariant-loop-place l =
    AreLeft (redefined_faults l.self.models.now) l.self.models.now l.place × AllZip (HasNames l.self.models.now) (take l.place l.self.models.now) l.all.items
