use Rattle.std.proofs.Common.{◌≡◌, map, take}
use Rattle.claim_core.specs.Queries.{feed_bit}
use Rattle.table_oracle.proofs.vectors.fed.Given as goal

abbrev pub invariant-loop-input : goal.invariant-loop-input
invariant-loop-input l = l.bits.items ≡ map (feed_bit l.vector) (take l.input l.feed)
