use Rattle.std.proofs.Common.{◌≡◌, drop, fold}
use Rattle.std.specs.List.{flat_map}
use Rattle.claim_core.specs.contracts.query.FeedHash.TheImpl.{hash_input-value as feed_writes}
use Rattle.claim_core.proofs.feeds.hash_entries.Given as goal

abbrev pub invariant-loop-input : goal.invariant-loop-input
invariant-loop-input g l =
    fold g.H.Hasher.write l.state (flat_map feed_writes.it (drop l.input l.feeds)) ≡ fold g.H.Hasher.write l.fn.state (flat_map feed_writes.it l.feeds)
