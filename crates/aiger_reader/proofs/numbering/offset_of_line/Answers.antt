-- From line to line.
use Rattle.std.proofs.Common.{◌+◌, subst, sym, ◌∙◌, arith, ap}
use Rattle.aiger_reader.specs.Bodies.{line_offset}
use Rattle.aiger_reader.specs.Reading.{IsAtLine}
use Rattle.aiger_reader.proofs.PlaceLemmas.{place_more, offset_is, some_left}
use Rattle.aiger_reader.proofs.numbering.offset_of_line.Goals as goal

pub loop-preserved : goal.loop-preserved
loop-preserved c =
    let bytes = c.args.input.now in
    let i = c.loop in
    subst (IsAtLine bytes (i.counter + 1)) (sym c.next_line.ensures.rest) (place_more bytes i.counter i.cursor (some_left bytes i.counter i.cursor i.invariant (omega arith)) i.invariant)

pub returns : goal.returns
returns c =
    let bytes = c.args.input.now in
    let i = c.loop in
    let here = offset_is bytes i.counter i.cursor (some_left bytes i.counter i.cursor i.invariant (omega arith)) i.invariant in
    c.at.ensures.value ∙ (here ∙ ap (line_offset bytes) (omega arith))
