-- The outputs so far agree.
use Rattle.std.proofs.Common.{ℕ, ◌<◌, ◌≡◌}
use Rattle.circuits.specs.Literals.{bit, differ}
use Rattle.circuits.specs.Bijections.{place_of, sign_of}
use Rattle.circuits.proofs.plain.outputs_agree.Given as goal

abbrev pub invariant-loop-k : goal.invariant-loop-k
invariant-loop-k l =
    (j : ℕ) → j < l.k → bit l.first j ≡ differ (bit l.second (place_of l.q j)) (sign_of l.q j)
