-- All signals have new classes.
use Rattle.std.proofs.Common.{◌≡◌, length, subst, arith}
use Rattle.sweep.specs.Classes.{AreSplit}
use Rattle.sweep.proofs.classes.split_by_word.Goals as goal

pub returns : goal.returns
returns c =
    let old = c.args.members.now.items in
    let all : c.loop-signal.signal ≡ length old = omega (arith, c.loop-signal-test.false, c.loop-signal.auto.signal-end, c.len-signal-end.ensures, c.args.members.now.ok.0) in
    record {
      entries = c.loop-signal.numbers.entries;
      split = subst (λ n. AreSplit n c.args.values.now c.args.word old c.loop-signal.members.items c.loop-signal.numbers.entries) all c.loop-signal.invariant;
    }
