use Rattle.class_refine.proofs.InputLemmas.{IsTaking}
use Rattle.class_refine.proofs.inputs.inputs_of.Given as goal

abbrev pub invariant-loop-pair : goal.invariant-loop-pair
invariant-loop-pair l = IsTaking l.assigned l.inputs.items l.pair-index
