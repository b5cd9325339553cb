-- A record, and the drops that follow it before the conclusion.
use Rattle.std.proofs.Common.{◌||◌, sym, ap, refl, ◌∙◌}
use Rattle.account_convert.specs.declared.binary_writer.BinaryWriter.{BinaryWriter}
use Rattle.account_convert.proofs.PutDropLemmas.{lead_more, wrote_alone, wrote_drops}
use Rattle.account_convert.proofs.TextLemmas.{on_ok_three}
use Rattle.account_convert.proofs.binary_writer.BinaryWriterTakeRecords.take.Goals as goal

pub returns-then-self : goal.returns-then-self
returns-then-self c first before led number_is =
    let old = c.args.self.now in
    let concluded = ap (λ b. old.concluded || b) c.is_conclusion.ensures in
    let new : BinaryWriter = record { concluded = old.concluded || c.is_conclusion.result; facts = old.facts; bans = old.bans; bytes = c.put_record2.new.out } in
    lead_more first old new before c.args.entry.now c.args.record_number led number_is
    (wrote_alone old new c.args.record_number c.args.entry.now c.in_ok-put_record2.ensures.bytes c.in_ok-put_record2.ensures.fits concluded (sym concluded ∙ c.if-self.true) refl refl)

pub returns : goal.returns
returns c first before led number_is =
    let old = c.args.self.now in
    let concluded = ap (λ b. old.concluded || b) c.is_conclusion.ensures in
    let new : BinaryWriter = record { concluded = old.concluded || c.is_conclusion.result; facts = c.put_drops.new.due; bans = c.put_drops-2.new.due; bytes = c.put_drops-2.new.out } in
    on_ok_three c.put_drops-2.result
    (λ bytes fit left. lead_more first old new before c.args.entry.now c.args.record_number led number_is
    (wrote_drops old new c.args.record_number c.args.entry.now c.put_record2.new.out.items c.put_drops.new.out.items c.in_ok-put_record2.ensures.bytes c.in_ok-put_record2.ensures.fits concluded (sym concluded ∙ c.if-self.false)
    c.in_ok-put_drops.ensures.bytes c.in_ok-put_drops.ensures.fit c.in_ok-put_drops.ensures.left bytes fit left))
    c.put_drops-2.ensures.bytes c.put_drops-2.ensures.fit c.put_drops-2.ensures.left
