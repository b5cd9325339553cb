-- On each vector the gates so far have their bits after the change.
use Rattle.std.proofs.Common.{ℕ, ◌+◌, ◌<◌, ◌≡◌, [], Bool, List, length, get_or}
use Rattle.sim_signature.specs.Blocks.{IsEvaluated, IsValuation, block_after, block_bit}
use Rattle.sim_signature.proofs.gates.run_reached.Given as goal

abbrev pub invariant-loop-t : goal.invariant-loop-t
invariant-loop-t l =
    ((w v : ℕ) (x y : List Bool) → w < 8 → v < 64 → length x ≡ l.graph.inputs → length y ≡ l.graph.inputs
    → IsValuation l.graph x (λ s. block_bit w v (get_or l.before s []))
    → IsEvaluated l.graph y (1 + l.graph.inputs) (λ s. block_bit w v (block_after l.before l.initial.after l.initial.marks s))
    → IsEvaluated l.graph y (1 + l.graph.inputs + l.t) (λ s. block_bit w v (block_after l.before l.after l.marks s)))
    × (length l.after ≡ length l.initial.after) × (length l.marks ≡ length l.initial.marks)
