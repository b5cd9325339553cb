-- One signal more has its number.
use Rattle.std.proofs.Common.{◌+◌, ◌||◌, nat_lt, arith}
use Rattle.circuits.specs.Literals.{bit}
use Rattle.sweep.proofs.NumberingLemmas.{few_ascending, numbered_more, stays_is}
use Rattle.sweep.proofs.pruning.Numbering.of.Goals as goal

pub add-requires : goal.add-requires
add-requires c =
    omega (arith, few_ascending c.loop-signal.numbering.origins.items c.loop-signal.signal c.loop-signal.invariant.ascending c.loop-signal.invariant.there, c.loop-signal-test.true, c.requires.count, c.inputs.ensures.graph.signals)

pub loop-signal-preserved : goal.loop-signal-preserved
loop-signal-preserved c =
    let net = c.args.graph.now in
    let used = c.args.used.now in
    let s = c.loop-signal.signal in
    let f = c.inputs.result + 1 in
    let is = stays_is net used s f c.requires (omega (arith, c.inputs.ensures.value)) in
    numbered_more net s (bit used s || nat_lt s f) c.loop-signal.numbering.origins.items c.loop-signal.numbering.numbers.items c.add.new.self.origins.items c.add.new.self.numbers.items is.0 is.1 c.in_ok-add.ensures c.loop-signal.invariant
