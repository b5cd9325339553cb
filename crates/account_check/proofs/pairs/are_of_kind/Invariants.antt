use Rattle.std.proofs.Common.{◌≡◌, ℕ, ◌<◌, slice_index_or}
use Rattle.circuits.specs.declared.port.Pair.{Pair}
use Rattle.account_check.proofs.pairs.are_of_kind.Given as goal

abbrev pub invariant-loop-k : goal.invariant-loop-k
invariant-loop-k l = (j : ℕ) (d : Pair) → j < l.k → ((slice_index_or l.pairs j d).kind ≡ l.kind) × ((slice_index_or l.pairs j d).from ≡ j)
