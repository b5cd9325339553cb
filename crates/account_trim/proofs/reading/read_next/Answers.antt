-- An account has no fault.
use Rattle.std.proofs.Common.{Err, subst, true}
use Rattle.account_file.specs.Accounts.{SaysNext}
use Rattle.account_file.proofs.VersionLemmas.{account_or_fault, fault_said}
use Rattle.account_trim.proofs.reading.read_next.Goals as goal

pub unreachable-requires : goal.unreachable-requires
unreachable-requires c =
    let bytes = c.requires.0 in
    let records = c.args.records.now in
    let reading = c.requires.3 in
    let fault = c.in-Err-Fault.field-0-0 in
    let says = rw c.in-Err-Fault.field-0-is at (c.in-Err-Fault.ensures.answer bytes records reading.read) in
    account_or_fault bytes c.requires.1 records fault c.requires.2 (fault_said bytes true records fault (subst (λ finished. SaysNext bytes finished records (Err fault)) reading.finished says))
