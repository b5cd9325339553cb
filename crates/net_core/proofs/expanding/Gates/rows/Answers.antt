-- The first row, and then one row more at a time.
use Rattle.std.proofs.Common.{true, map}
use Rattle.circuits.specs.Expansion.{made, cover_made, stand_in}
use Rattle.net_core.proofs.ExpandLaws.{first_row_room, or_row_room}
use Rattle.net_core.proofs.expanding.Gates.rows.Goals as goal

pub row-requires-clause-room : goal.row-requires-clause-room
row-requires-clause-room c =
    let names = map (stand_in c.args.literals.now) c.args.names.now in
    rw c.deref.ensures.value (first_row_room c.args.self.now.first names c.args.self.now.list.items c.args.rows.now c.index-rows-0.result c.requires.some c.index-rows-0.is c.requires.room)

pub or_row-requires-clause-room : goal.or_row-requires-clause-room
or_row-requires-clause-room c =
    let names = map (stand_in c.args.literals.now) c.args.names.now in
    let whole = cover_made c.args.self.now.first names c.args.self.now.list.items c.args.rows.now true in
    rw (c.deref-in-loop-place.ensures.value, c.loop-place.invariant.first) (or_row_room c.args.self.now.first c.args.self.now.first names (made c.loop-place.self.list.items c.loop-place.value) c.args.rows.now c.loop-place.place c.index-rows-place.result whole c.loop-place-test.true c.index-rows-place.is c.loop-place.invariant.made c.requires.room)
