-- The feed whose wires these are.
use Rattle.std.proofs.Common.{arith}
use Rattle.claim_core.proofs.MatchLemmas.{moved_alone}
use Rattle.claim_core.proofs.matches.put_wires.Goals as goal

pub returns : goal.returns
returns c =
    let kept = c.loop-i.invariant in
    moved_alone c.args.entries.now c.loop-i.feed c.requires.shape (record {
      inputs = kept.same_length;
      wires = λ i d below. kept.wires i d (omega (arith, below, c.loop-i-test.false));
      wired = kept.wired;
    })
