use Rattle.std.proofs.Common.{take}
use Rattle.blif_reader.specs.Numbers.{names_of}
use Rattle.hier_blif.specs.Bindings.{formal_of}
use Rattle.hier_blif.specs.Scopes.{HasKeys}
use Rattle.hier_blif.proofs.names.formals_of.Given as goal

abbrev pub invariant-loop-word : goal.invariant-loop-word
invariant-loop-word l = HasKeys (λ word. formal_of word.bytes) (take l.word-index l.words) (names_of l.formals)
