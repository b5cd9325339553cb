use Rattle.std.proofs.Common.{◌≡◌, ◌+◌, ℕ, List, take}
use Rattle.std.specs.Prelude.{option_map, position}
use Rattle.std.specs.Str.{bytes_eq}
use Rattle.hier_blif.specs.Scopes.{number_of}
use Rattle.hier_blif.proofs.flattening.input_numbers.Given as goal

abbrev pub invariant-loop-place : goal.invariant-loop-place
invariant-loop-place l =
    (name : List ℕ) → number_of l.numbers name ≡ option_map (λ k. 1 + k) (position (λ key. bytes_eq name key.now) (take l.place l.names.keys))
