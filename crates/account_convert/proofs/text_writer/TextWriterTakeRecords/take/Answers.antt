-- A record that is no drop.
use Rattle.account_convert.proofs.TextLemmas.{on_ok_both, text_more, undropped}
use Rattle.account_convert.proofs.text_writer.TextWriterTakeRecords.take.Goals as goal

pub returns-in_default : goal.returns-in_default
returns-in_default c first before led number_is =
    let entry = c.args.entry.now in
    on_ok_both c.put_record.result (text_more first c.args.self.now (record { bytes = c.put_record.new.out }) before entry led (undropped entry c.in_default.not-DropFact c.in_default.not-DropBan)) c.put_record.ensures.line c.put_record.ensures.writable
