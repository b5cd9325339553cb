-- One empty span more.
use Rattle.std.proofs.Common.{refl, arith}
use Rattle.fact_tests.proofs.LocalLemmas.{empty_more, spans_none}
use Rattle.fact_tests.proofs.readers.no_spans.Goals as goal

pub loop-signal-preserved : goal.loop-signal-preserved
loop-signal-preserved c =
    empty_more c.loop-signal.spans c.push.new.self c.loop-signal._signal _ c.loop-signal.invariant.0 c.loop-signal.invariant.1 refl c.in_ok-push.ensures.ok

pub returns : goal.returns
returns c =
    λ net count. spans_none net c.loop-signal.spans (omega (arith, c.loop-signal.invariant.0, count)) c.loop-signal.invariant.1
