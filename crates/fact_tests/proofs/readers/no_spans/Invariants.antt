-- The spans so far are empty.
use Rattle.std.proofs.Common.{◌≡◌, length, All}
use Rattle.fact_tests.specs.declared.readers.GateSpan.{GateSpan}
use Rattle.fact_tests.proofs.readers.no_spans.Given as goal

abbrev pub invariant-loop-signal : goal.invariant-loop-signal
invariant-loop-signal l = (length l.spans ≡ l._signal) × All (λ (span : GateSpan). span.end ≡ 0) l.spans
