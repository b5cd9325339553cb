-- A row's literals so far, and then its value.
use Rattle.std.proofs.Common.{◌∙◌, map, drop, arith}
use Rattle.circuits.specs.Expansion.{row_literals, row_made, stand_in}
use Rattle.net_core.proofs.ExpandLaws.{row_room, row_step}
use Rattle.net_core.proofs.expanding.Gates.row.Goals as goal

pub and_position-requires : goal.and_position-requires
and_position-requires c =
    let names = map (stand_in c.args.literals.now) c.args.names.now in
    let rest = row_literals (drop c.loop-place.place names) (drop c.loop-place.place c.args.row.now) in
    let room = row_room c.args.self.now.first c.args.self.now.first c.loop-place.self.list.items c.loop-place.value rest (row_made c.args.self.now.first names c.args.self.now.list.items c.args.row.now) c.loop-place.invariant.made c.requires.room in
    record { room = omega (arith, room, c.loop-place.invariant.first, c.loop-place.self.list.ok.0) }

pub loop-place-preserved : goal.loop-place-preserved
loop-place-preserved c =
    let names = map (stand_in c.args.literals.now) c.args.names.now in
    let whole = row_made c.args.self.now.first names c.args.self.now.list.items c.args.row.now in
    record {
      made = row_step c.args.self.now.first c.loop-place.self.first c.args.literals.now c.args.names.now c.args.row.now c.loop-place.place c.loop-place.self.list.items c.and_position.new.self.list.items c.loop-place.value c.in_ok-value.value whole c.loop-place-test.true c.requires.wide c.loop-place.invariant.first c.in_ok-value.ensures.made c.loop-place.invariant.made;
      first = c.and_position.ensures.first ∙ c.loop-place.invariant.first;
    }
