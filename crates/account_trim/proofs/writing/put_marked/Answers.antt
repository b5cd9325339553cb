-- A record that has a line has one under its new numbers.
use Rattle.std.proofs.Common.{subst, sym}
use Rattle.account_file.specs.Spelling.{HasLine}
use Rattle.account_trim.proofs.LowerLemmas.{lowered_line}
use Rattle.account_trim.proofs.writing.put_marked.Goals as goal

pub put_record-requires : goal.put_record-requires
put_record-requires c =
    subst HasLine (sym c.lower_record.ensures) (lowered_line c.args.lower.now c.args.link.now c.args.entry.now (c.requires c.if-not-mark.false))
