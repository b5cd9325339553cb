-- The places are in some order; what is left to exchange gives the whole.
use Rattle.std.proofs.Common.{◌≡◌, ◌-◌, ◌≤◌, length, IsPermutation}
use Rattle.gen_pair.specs.Shuffles.{shuffled}
use Rattle.gen_pair.proofs.hidden.shuffle.Given as goal

abbrev pub invariant-loop-left : goal.invariant-loop-left
invariant-loop-left l = record {
  permutation : IsPermutation l.initial.places l.places;
  within : l.left ≤ length l.places;
  same : length l.places ≡ length l.initial.places;
  drawn : shuffled (l.left - 1) l.places l.random ≡ shuffled (length l.initial.places - 1) l.initial.places l.initial.random;
}

abbrev pub decreases-loop-left : goal.decreases-loop-left
decreases-loop-left l = l.left
