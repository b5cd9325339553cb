use Rattle.std.proofs.Common.{◌≡◌, ℕ, ◌<◌, All, length, slice_index_or}
use Rattle.circuits.specs.Bijections.{place_of, sign_of}
use Rattle.claim_core.specs.declared.query.Feed.{Feed}
use Rattle.claim_core.specs.declared.query.Feed.TheVariants.{Wire}
use Rattle.claim_core.specs.Queries.{IsWired}
use Rattle.claim_core.proofs.matches.put_wires.Given as goal

abbrev pub invariant-loop-i : goal.invariant-loop-i
invariant-loop-i l = record {
  same_length : length l.feed ≡ length l.entries;
  wired : All (IsWired (length l.entries)) l.feed;
  wires : (j : ℕ) (d : Feed) → j < l.i → slice_index_or l.feed (place_of l.entries j) d ≡ Wire j (sign_of l.entries j);
}
