-- The account's lines were written, and the last one by itself.
use Rattle.std.proofs.Common.{◌++◌, ap, subst}
use Rattle.account_write.specs.Records.{lines_of, records_of}
use Rattle.run_steps.specs.Writing.{WritesFile}
use Rattle.run_steps.proofs.writing.write_account.Goals as goal

pub returns : goal.returns
returns g c =
    let tells = g.S.Shelf.tells in
    let old = g.S.Shelf.state c.args.shelf.now in
    let new = g.S.Shelf.state c.write_with_end.new.shelf in
    subst (λ end. WritesFile tells c.args.name.now (lines_of (records_of c.args.account.now) ++ end) old new c.write_with_end.result) c.last_line.ensures
    (subst (λ lines. WritesFile tells c.args.name.now (lines ++ c.last_line.result.now) old new c.write_with_end.result) (ap lines_of c.lines-lines.ensures) c.write_with_end.ensures.writes)
