-- The header, and what stands after the end.
use Rattle.std.proofs.Common.{sym, subst}
use Rattle.account_file.specs.declared.place.Place.{Place}
use Rattle.account_file.specs.NextRecords.{IsBinaryNext, next_at_end}
use Rattle.account_file.specs.declared.next_record.NextRecord.TheVariants.{Read}
use Rattle.account_file.specs.declared.record.Record.TheVariants.{Header}
use Rattle.account_file.specs.declared.place.Place.TheVariants.{Headed}
use Rattle.account_file.proofs.BinaryReadingLemmas.{ended_next, header_begins}
use Rattle.account_file.proofs.binary.next_entry.Goals as goal

pub returns-in-Start : goal.returns-in-Start
returns-in-Start c =
    subst (λ (p : Place). IsBinaryNext c.args.left.now c.args.finished p (Read Header Headed 8)) (sym c.in-Start.is) (header_begins c.args.left.now (c.requires c.in-Start.is))

pub returns-in-Ended : goal.returns-in-Ended
returns-in-Ended c =
    let at' = subst (λ (p : Place). IsBinaryNext c.args.left.now c.args.finished p (next_at_end p c.args.left.now)) (sym c.in-Ended.is) (ended_next c.args.left.now c.args.finished) in
    subst (IsBinaryNext c.args.left.now c.args.finished c.args.place) (sym c.next_at_end.ensures) at'
