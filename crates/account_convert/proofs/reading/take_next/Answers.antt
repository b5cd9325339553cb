-- The next record, as it is taken.
use Rattle.std.proofs.Common.{Err, ap, ◌∙◌}
use Rattle.account_file.specs.declared.fault.FileStop.{FileStop}
use Rattle.account_convert.proofs.ReadLemmas.{goes_on, goes_out, goes_wrong, line_next}
use Rattle.account_convert.proofs.reading.take_next.Goals as goal

pub returns-in-Ok-clause-goes : goal.returns-in-Ok-clause-goes
returns-in-Ok-clause-goes g c account first so_far =
    let entry = c.in-Ok-Some.entry in
    let read = rw c.in-Ok-Some.field-0-is at (c.in-Ok-Some.ensures.reads account so_far.records so_far.read) in
    let number_is = line_next so_far.records entry account c.next.new.self c.in-Ok-Some.ensures.no_fault read in
    goes_on g.T.TakeRecords.leads account first c.args.reader.now c.next.new.self c.args.taker.now c.take.new.self entry so_far read c.in-Ok-Some.ensures.finished c.in-Ok-Some.ensures.no_fault
    (c.in-Ok.ensures first so_far.records so_far.led (c.line.ensures ∙ number_is))

pub returns-in-Ok-None-clause-goes : goal.returns-in-Ok-None-clause-goes
returns-in-Ok-None-clause-goes g c account first so_far =
    let says = rw c.in-Ok-None.field-0-is at (c.in-Ok-None.ensures.answer account so_far.records so_far.read) in
    let read = rw c.in-Ok-None.field-0-is at (c.in-Ok-None.ensures.reads account so_far.records so_far.read) in
    goes_out g.T.TakeRecords.leads account first c.args.reader.now c.next.new.self c.args.taker.now so_far says read c.in-Ok-None.ensures.no_fault

pub returns-in-Err-Fault-clause-goes : goal.returns-in-Err-Fault-clause-goes
returns-in-Err-Fault-clause-goes g c account first so_far =
    let fault = c.in-Err-Fault.fault in
    let says = rw c.in-Err-Fault.field-0-is at (c.in-Err-Fault.ensures.answer account so_far.records so_far.read) in
    let is = c.in-Err-Fault.ensures.fault fault (ap (λ (s : FileStop). Err s) c.in-Err-Fault.field-0-is) in
    goes_wrong g.T.TakeRecords.leads account first c.args.reader.now c.next.new.self c.args.taker.now fault c.line-record_number.result so_far says (c.in-Err-Fault.ensures.reads account so_far.records so_far.read) is c.line-record_number.ensures
