-- The next record of the text, as the checker takes it.
use Rattle.std.proofs.Common.{◌≡◌, Some, Err, sym, ap, subst, ◌∙◌}
use Rattle.account_file.specs.declared.fault.RecordFault.{RecordFault}
use Rattle.account_file.specs.declared.fault.FileStop.{FileStop}
use Rattle.account_file.specs.declared.fault.FileStop.TheVariants as file
use Rattle.account_file.proofs.VersionLemmas.{next_said}
use Rattle.account_check.specs.declared.reject.Reject.{Reject}
use Rattle.account_check.specs.declared.reject.RecordStop.{RecordStop}
use Rattle.account_check.specs.declared.reject.RecordStop.TheVariants as stop
use Rattle.account_check.specs.Accounts.{HasFault}
use Rattle.account_check.specs.declared.verdict.CheckStop.{CheckStop}
use Rattle.account_check.specs.Checking.{refused, unread, Goes}
use Rattle.account_check.proofs.CheckingLemmas.{goes_on, may_stand, refused_goes, through, unread_goes}
use Rattle.account_check.proofs.pieces.take_next.Goals as goal

pub take-requires : goal.take-requires
take-requires c =
    let finished = c.requires.0 in
    let bytes = c.requires.2 in
    let so_far = c.requires.3 in
    let next = rw c.in-Ok-Some.field-0-is at (c.in-Ok-Some.ensures.answer bytes so_far.records so_far.read) in
    may_stand finished c.requires.1 bytes c.args.reader.now c.args.checker.now c.in-Ok-Some.entry so_far (next_said bytes c.args.reader.now.finished so_far.records c.in-Ok-Some.entry next)

pub returns-in-Ok-clause-goes : goal.returns-in-Ok-clause-goes
returns-in-Ok-clause-goes c finished graphs bytes so_far =
    let read = rw c.in-Ok-Some.field-0-is at (c.in-Ok-Some.ensures.reads bytes so_far.records so_far.read) in
    goes_on finished graphs bytes c.args.reader.now c.next.new.self c.args.checker.now c.take.new.checker c.in-Ok-Some.entry so_far read c.in-Ok-Some.ensures.finished c.in-Ok-Some.ensures.no_fault c.in-Ok.ensures.taken c.in-Ok.ensures.leads

pub returns-in-Err-take-clause-goes : goal.returns-in-Err-take-clause-goes
returns-in-Err-take-clause-goes c finished graphs bytes so_far =
    let new = c.next.new.self in
    let read = rw c.in-Ok-Some.field-0-is at (c.in-Ok-Some.ensures.reads bytes so_far.records so_far.read) in
    let next = rw c.in-Ok-Some.field-0-is at (c.in-Ok-Some.ensures.answer bytes so_far.records so_far.read) in
    let has : (reject : Reject) → c.in-Err-take.stop ≡ stop.Reject reject → HasFault c.args.checker.now c.in-Ok-Some.entry (Some reject) =
    λ reject is. c.in-Err-take.ensures.refused reject (ap (λ (s : RecordStop). Err s) is) in
    let goes = refused_goes finished graphs bytes c.args.reader.now new c.args.checker.now c.take.new.checker c.in-Ok-Some.entry c.in-Err-take.stop so_far (next_said bytes c.args.reader.now.finished so_far.records c.in-Ok-Some.entry next) read c.in-Ok-Some.ensures.no_fault has in
    let same : refused new.line c.in-Err-take.stop ≡ c.refused.result = ap (λ n. refused n c.in-Err-take.stop) (sym c.line-in-Err-take.ensures) ∙ sym c.refused.ensures in
    subst (λ (s : CheckStop). Goes finished graphs bytes new c.take.new.checker (Err s)) same goes

pub returns-in-Ok-None-clause-goes : goal.returns-in-Ok-None-clause-goes
returns-in-Ok-None-clause-goes c finished graphs bytes so_far =
    let says = rw c.in-Ok-None.field-0-is at (c.in-Ok-None.ensures.answer bytes so_far.records so_far.read) in
    let read = rw c.in-Ok-None.field-0-is at (c.in-Ok-None.ensures.reads bytes so_far.records so_far.read) in
    through finished graphs bytes c.args.reader.now c.next.new.self c.args.checker.now so_far says read c.in-Ok-None.ensures.finished c.in-Ok-None.ensures.no_fault

pub returns-in-Err-clause-goes : goal.returns-in-Err-clause-goes
returns-in-Err-clause-goes c finished graphs bytes so_far =
    let new = c.next.new.self in
    let account = c.args.checker.now in
    let told : (fault : RecordFault) → c.in-Err.stop ≡ file.Fault fault → new.fault ≡ Some fault = λ fault is. c.in-Err.ensures.fault fault (ap (λ (s : FileStop). Err s) is) in
    let goes = unread_goes finished graphs bytes c.args.reader.now new account account c.in-Err.stop so_far (c.in-Err.ensures.answer bytes so_far.records so_far.read) (c.in-Err.ensures.reads bytes so_far.records so_far.read) told in
    let same : unread new.line c.in-Err.stop ≡ c.unread.result = ap (λ n. unread n c.in-Err.stop) (sym c.line.ensures) ∙ sym c.unread.ensures in
    subst (λ (s : CheckStop). Goes finished graphs bytes new account (Err s)) same goes
