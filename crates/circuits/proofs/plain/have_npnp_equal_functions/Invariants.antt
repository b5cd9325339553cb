-- None of the lists with the codes so far is part of a match.
use Rattle.std.proofs.Common.{ℕ, ◌<◌}
use Rattle.circuits.specs.Bijections.{entries_of}
use Rattle.circuits.specs.Matches.{IsPartOfMatch}
use Rattle.circuits.proofs.plain.have_npnp_equal_functions.Given as goal

abbrev pub invariant-loop-code : goal.invariant-loop-code
invariant-loop-code l =
    (c : ℕ) → c < l.code → IsPartOfMatch l.first l.second (entries_of l.inputs c) → ⊥
