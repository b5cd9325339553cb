-- None of the lists with the codes so far makes a match.
use Rattle.std.proofs.Common.{ℕ, ◌<◌}
use Rattle.circuits.specs.Bijections.{entries_of}
use Rattle.circuits.specs.Matches.{IsMatchOfFunctions}
use Rattle.circuits.proofs.plain.is_part_of_match.Given as goal

abbrev pub invariant-loop-code : goal.invariant-loop-code
invariant-loop-code l =
    (c : ℕ) → c < l.code → IsMatchOfFunctions l.first l.second l.p (entries_of l.outputs c) → ⊥
