use Rattle.hier_blif.specs.NameFaults.{undefined_faults}
use Rattle.hier_blif.proofs.FindLemmas.{AreLeft}
use Rattle.hier_blif.proofs.names.Scope.check_read.Given as goal

abbrev pub invariant-loop-place : goal.invariant-loop-place
invariant-loop-place l = AreLeft (undefined_faults l.self.models.now) l.self.models.now l.place
