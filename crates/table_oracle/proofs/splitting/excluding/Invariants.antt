use Rattle.std.proofs.Common.{◌≡◌, ◌+◌, not, map}
use Rattle.std.specs.List.{range_with_len}
use Rattle.circuits.specs.Literals.{bit}
use Rattle.cnf_core.specs.Clauses.{literal_of}
use Rattle.table_oracle.proofs.splitting.excluding.Given as goal

abbrev pub invariant-loop-input : goal.invariant-loop-input
invariant-loop-input l = l.clause ≡ map (λ i. literal_of (1 + i) (not (bit l.bits i))) (range_with_len 0 l.input)
