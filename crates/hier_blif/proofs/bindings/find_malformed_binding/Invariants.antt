use Rattle.std.proofs.Common.{◌≡◌, drop}
use Rattle.std.specs.List.{find}
use Rattle.hier_blif.specs.Bindings.{is_malformed_binding}
use Rattle.hier_blif.proofs.bindings.find_malformed_binding.Given as goal

-- the first is among the words that are left
abbrev pub invariant-loop-word : goal.invariant-loop-word
invariant-loop-word l = find is_malformed_binding (drop l.word-index l.words) ≡ find is_malformed_binding l.words
