use Rattle.hier_blif.specs.declared.fault.HierKind.TheVariants as wrong
use Rattle.hier_blif.specs.NameFaults.{binds_no_port}
use Rattle.hier_blif.proofs.FindLemmas.{AreLeft, wrong_word}
use Rattle.hier_blif.proofs.names.Scope.check_formals.Given as goal

abbrev pub invariant-loop-word : goal.invariant-loop-word
invariant-loop-word l = AreLeft (wrong_word wrong.Formal (binds_no_port l.self.models.now l.line)) l.line.bindings l.word-index
