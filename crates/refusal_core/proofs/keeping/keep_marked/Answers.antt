-- The element at each place is moved forward, if it is marked.
use Rattle.std.proofs.Common.{◌∙◌, refl, arith}
use Rattle.refusal_core.proofs.KeptLemmas.{first_all, first_more}
use Rattle.refusal_core.proofs.keeping.keep_marked.Goals as goal

pub loop-place-init : goal.loop-place-init
loop-place-init g c = record { as_many = refl; within = omega arith; front = refl; back = refl }

pub loop-place-preserved : goal.loop-place-preserved
loop-place-preserved g c =
    let list = c.args.list.now in
    let same = c.requires ∙ list.ok.0 in
    first_more c.args.marks.now list.items c.loop-place.list.items c.keep_one-count.new.list.items c.loop-place.count c.keep_one-count.result c.loop-place.place same
    (omega (arith, same, c.loop-place-test.true)) c.loop-place.invariant c.keep_one-count.ensures.list c.keep_one-count.ensures.count

pub returns : goal.returns
returns g c =
    let list = c.args.list.now in
    c.truncate.ensures.items
    ∙ first_all c.args.marks.now list.items c.loop-place.list.items c.loop-place.count c.loop-place.place (c.requires ∙ list.ok.0) c.loop-place-test.false c.loop-place.invariant
