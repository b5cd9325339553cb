-- One record more.
use Rattle.std.proofs.Common.{◌<◌, ◌+◌, length, slice_set, refl, arith}
use Rattle.std.proofs.lemmas.List.{drop-set-lt, length-set}
use Rattle.circuits.specs.Literals.{bit}
use Rattle.account_trim.proofs.WriteLemmas.{line_there, writing_more}
use Rattle.account_trim.proofs.writing.put_left.Goals as goal

pub loop-place-preserved : goal.loop-place-preserved
loop-place-preserved c =
    let old = c.args.records.now in
    let i = c.loop-place.place in
    let now = c.loop-place.records.items in
    let entry = c.put_marked.new.entry in
    let below : i < length old.items = omega (arith, c.loop-place-test.true, c.len-place-end.ensures, old.ok.0) in
    writing_more c.args.lower.now c.args.marks.now c.args.links.now old.items c.args.out.now.items i now (slice_set now i entry) c.loop-place.out.items c.put_marked.new.out.items c.loop-place.count c.in_ok-count.field-0
    (bit c.args.marks.now i) c.index-links-place.result c.index_mut.result.now
    (omega (arith, below, c.requires.marks)) (omega (arith, below, c.requires.links)) below
    refl c.index-links-place.is c.index_mut.ensures.value
    (length-set now i entry) (drop-set-lt (i + 1) now i entry (omega arith))
    c.in_ok-count.ensures.text c.in_ok-count.ensures.writable c.in_ok-count.ensures.count c.loop-place.invariant

pub put_marked-requires : goal.put_marked-requires
put_marked-requires c =
    let old = c.args.records.now in
    let i = c.loop-place.place in
    let below : i < length old.items = omega (arith, c.loop-place-test.true, c.len-place-end.ensures, old.ok.0) in
    line_there c.args.lower.now c.args.marks.now c.args.links.now old.items c.args.out.now.items i c.loop-place.records.items c.loop-place.out.items c.loop-place.count (bit c.args.marks.now i) c.index_mut.result.now
    below refl c.index_mut.ensures.value c.requires.lines c.loop-place.invariant
