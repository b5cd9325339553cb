use Rattle.std.proofs.Common.{◌≡◌, drop}
use Rattle.std.specs.Cmp.Lexicographic.{pointwise}
use Rattle.claim_core.specs.contracts.query.FeedPartialEq.TheImpl.{eq-value as feed_eq}
use Rattle.claim_core.proofs.feeds.same_entries.Given as goal

abbrev pub invariant-loop-input : goal.invariant-loop-input
invariant-loop-input l =
    pointwise feed_eq.it (drop l.input l.one) (drop l.input l.other) ≡ pointwise feed_eq.it l.one l.other
