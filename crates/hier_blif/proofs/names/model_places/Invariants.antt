use Rattle.std.proofs.Common.{◌≡◌, ℕ, List, take}
use Rattle.std.specs.Prelude.{position}
use Rattle.hier_blif.specs.Names.{has_name}
use Rattle.hier_blif.specs.Scopes.{number_of}
use Rattle.hier_blif.proofs.names.model_places.Given as goal

abbrev pub invariant-loop-place : goal.invariant-loop-place
invariant-loop-place l = (name : List ℕ) → number_of l.places name ≡ position (has_name name) (take l.place l.models)
