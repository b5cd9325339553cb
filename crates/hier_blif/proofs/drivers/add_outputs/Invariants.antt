use Rattle.std.proofs.Common.{take}
use Rattle.hier_blif.specs.Bindings.{formal_of, actual_of}
use Rattle.hier_blif.specs.Names.{is_among, outputs_of}
use Rattle.hier_blif.specs.Scopes.{model_at}
use Rattle.hier_blif.specs.Drivers.{IsFilled}
use Rattle.hier_blif.proofs.DriverLemmas.{bound_number}
use Rattle.hier_blif.proofs.drivers.add_outputs.Given as goal

abbrev pub invariant-loop-word : goal.invariant-loop-word
invariant-loop-word l =
    IsFilled (λ word. is_among (formal_of word.bytes) (outputs_of (model_at l.scope.models.now l.place))) (λ word. actual_of word.bytes) (bound_number l.inside l.before) l.initial.driven (take l.word-index l.line.bindings) l.driven
