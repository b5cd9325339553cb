use Rattle.std.proofs.Common.{◌≡◌, ◌+◌, length, drop}
use Rattle.claim_core.specs.Formulas.{reaching}
use Rattle.query_core.proofs.reaching.push_reaching.Given as goal

abbrev pub invariant-loop-gate : goal.invariant-loop-gate
invariant-loop-gate l = record {
  count : length l.signals.items ≡ length l.fn.signals.items + l.gate-index;
  reaches : reaching l.signals.items (drop l.gate-index l.gates) ≡ reaching l.fn.signals.items l.gates;
}
