use Rattle.std.proofs.Common.{◌≡◌, ◌++◌, map, drop, slice_index_or}
use Rattle.circuits.specs.Literals.{signal_of}
use Rattle.sim_signature.proofs.supports.words_of.Given as goal

abbrev pub invariant-loop-literal : goal.invariant-loop-literal
invariant-loop-literal l =
    l.list ++ map (λ literal. slice_index_or l.words (signal_of literal) 0) (drop l.literal-index l.literals) ≡ map (λ literal. slice_index_or l.words (signal_of literal) 0) l.literals
