-- One entry more.
use Rattle.circuits.specs.Bijections.{entries_of}
use Rattle.circuits.proofs.Entries.{entries_of-more}
use Rattle.circuits.proofs.plain.entries.Goals as goal

pub loop-i-preserved : goal.loop-i-preserved
loop-i-preserved c =
    entries_of-more c.loop-i.entries.items c.push.new.self.items (entries_of c.args.n c.args.code) c.args.n c.loop-i.i c.loop-i.rest c.loop-i-test.true c.in_ok-push.ensures.items c.loop-i.invariant
