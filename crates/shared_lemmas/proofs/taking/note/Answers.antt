-- A number more is listed.
use Rattle.std.proofs.Common.{nat_lt, arith}
use Rattle.std.proofs.lemmas.Bool.{and_parts, ltb-true}
use Rattle.shared_lemmas.proofs.PlaceLemmas.{listed}
use Rattle.shared_lemmas.proofs.taking.note.Goals as goal

pub returns-then-is_copy-place-clause-placed : goal.returns-then-is_copy-place-clause-placed
returns-then-is_copy-place-clause-placed c =
    let numbers = c.args.numbers.now.items in
    let both = and_parts c.is_copy.result (nat_lt c.args.place c.len.result) c.if-is_copy-place.true in
    listed c.args.count c.args.source.now c.args.target.now numbers c.args.place c.args.number c.requires.placed (omega (arith, ltb-true c.args.place c.len.result both.1, c.len.ensures)) (c.is_copy.ensures both.0)
