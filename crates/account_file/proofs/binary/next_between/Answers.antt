-- The entry that comes next.
use Rattle.std.proofs.Common.{refl, sym, subst, ◌∙◌}
use Rattle.account_file.specs.declared.record.Record.{Record}
use Rattle.account_file.specs.Binary.{record_with}
use Rattle.account_file.specs.Order.{next_place}
use Rattle.account_file.specs.NextRecords.{IsBinaryNext, IsFound, entry_next}
use Rattle.account_file.proofs.BinaryReadingLemmas.{entry_read}
use Rattle.account_file.proofs.binary.next_between.Goals as goal

pub returns-in-Ok : goal.returns-in-Ok
returns-in-Ok c =
    let found = c.in-Ok.ensures in
    let left = c.args.left.now in
    let finished = c.args.finished in
    let place = c.args.place in
    let used = c.in-Ok.used in
    let is = subst (IsFound left found.0) c.in-Ok.used-is found.2 in
    let same = sym found.1 ∙ c.in-Ok.entry-is in
    let read = entry_read left finished place found.0 used (record { begun = c.requires.begun; not_ended = c.requires.not_ended }) is (next_place place (record_with found.0)) refl in
    let by_entry = subst (λ (e : Record). IsBinaryNext left finished place (entry_next e used (next_place place e))) same read in
    subst (IsBinaryNext left finished place) (sym c.entry_next.ensures) by_entry
