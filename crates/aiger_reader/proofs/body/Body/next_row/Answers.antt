-- The next line, or its fault.
use Rattle.std.proofs.Common.{◌+◌, [], length, sym, subst, ◌∙◌}
use Rattle.std.proofs.lemmas.Result.{IfOk-weaker, IfErr-weaker}
use Rattle.net_file.proofs.StopLemmas.{stop_as}
use Rattle.aiger_reader.specs.Numbers.{header_of}
use Rattle.aiger_reader.specs.Reading.{rows_of, IsRowRead}
use Rattle.aiger_reader.proofs.GoodLemmas.{next_fault, row_read}
use Rattle.aiger_reader.proofs.PlaceLemmas.{offset_is}
use Rattle.aiger_reader.proofs.body.Body.next_row.Goals as goal

pub returns-clause-row : goal.returns-clause-row
returns-clause-row c =
    let bytes = c.args.input.now in
    let body = c.args.self.now in
    let h = header_of c.args.header [] in
    let row = c.read_line.new.row in
    IfOk-weaker c.read_line.result _ _ (λ at read. subst (IsRowRead bytes h (rows_of body.literals) c.args.defining row) (sym read.moved) (row_read bytes h (rows_of body.literals) body.rest body.signals.items body.count c.args.defining row c.requires.reading read.there read.on)) c.read_line.ensures.read

pub returns-clause-at : goal.returns-clause-at
returns-clause-at c =
    let body = c.args.self.now in
    IfOk-weaker c.read_line.result _ _ (λ at read. read.offset ∙ offset_is c.args.input.now (length (rows_of body.literals) + 1) body.rest read.there c.requires.reading.left) c.read_line.ensures.read

pub returns-clause-stop : goal.returns-clause-stop
returns-clause-stop c =
    let body = c.args.self.now in
    IfErr-weaker c.read_line.result _ _ (λ why. stop_as _ _ why (λ kind at is. next_fault c.args.input.now (header_of c.args.header []) (rows_of body.literals) body.rest body.signals.items body.count (length c.args.row.now) c.args.defining kind at c.requires.reading c.requires.next_line is.1 is.0)) c.read_line.ensures.stop
