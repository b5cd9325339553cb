-- An entry that was read, with its bytes, or why none was.
use Rattle.std.proofs.Common.{List, ℕ, subst, sym}
use Rattle.byte_form.specs.Codes.{BeginsWith}
use Rattle.account_bytes.specs.Entries.{EntryFits, ReadsEntry, entry_bytes}
use Rattle.account_file.proofs.BinaryReadingLemmas.{found, stop_passed}
use Rattle.account_file.proofs.binary.entry_found.Goals as goal

pub returns-in_err-entry : goal.returns-in_err-entry
returns-in_err-entry c =
    let reads = subst (λ (l : List ℕ). ReadsEntry l c.read_entry.result c.read_entry.new.text) c.new-text.ensures c.read_entry.ensures in
    stop_passed c.args.left.now c.read_entry.new.text c.read_entry.result c.from_residual.result _ c.in_err-entry.was c.from_residual.ensures.1 reads

pub returns : goal.returns
returns c =
    let entry = c.in_ok-entry.entry in
    let here = subst (λ (l : List ℕ). BeginsWith entry_bytes EntryFits l entry c.read_entry.new.text) c.new-text.ensures c.in_ok-entry.ensures in
    let begins = subst (λ (l : List ℕ). BeginsWith entry_bytes EntryFits c.args.left.now entry l) (sym c.left.ensures) here in
    (entry, c.record_with.ensures, found c.args.left.now c.left.result.now entry begins)
