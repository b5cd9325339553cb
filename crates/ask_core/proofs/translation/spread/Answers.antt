-- One bit more.
use Rattle.std.proofs.Common.{◌<◌, length, slice_index_or, refl, arith}
use Rattle.std.proofs.lemmas.List.{get_or_default}
use Rattle.circuits.specs.Literals.{bit}
use Rattle.ask_core.proofs.BaseLemmas.{spreading_more}
use Rattle.ask_core.proofs.translation.spread.Goals as goal

pub loop-place-preserved : goal.loop-place-preserved
loop-place-preserved c =
    let names = c.args.names.now in
    let values = c.args.values.now in
    let k = c.loop-place.place in
    let v = slice_index_or names k 0 in
    let within : k < length names = omega (arith, c.loop-place-test.true) in
    spreading_more c.args.variables names values c.loop-place.full c.mark_where.new.self k v (bit values k) c.requires.names c.loop-place.invariant within (get_or_default names k 0 v within) refl c.in_ok-mark_where.ensures.marked
