use Rattle.std.proofs.Common.{◌≡◌, true, All, take}
use Rattle.cnf_core.specs.Derivations.{is_false}
use Rattle.trail_core.specs.Trails.{literals}
use Rattle.watch_lists.proofs.watch_choice.first_not_false.Given as goal

abbrev pub invariant-loop-literal : goal.invariant-loop-literal
invariant-loop-literal l = All (λ y. is_false (literals l.trail.entries) y ≡ true) (take l.literal-index l.clause)
