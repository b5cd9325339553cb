-- The numbers so far.
use Rattle.std.proofs.Common.{◌≡◌, []}
use Rattle.ask_core.specs.Renamings.{numbers_of}
use Rattle.ask_core.proofs.dense_search.places.Given as goal

abbrev pub invariant-loop-place : goal.invariant-loop-place
invariant-loop-place l = l.places.items ≡ numbers_of [] 0 l.place
