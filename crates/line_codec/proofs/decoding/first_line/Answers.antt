-- The cursor stands after the line.
use Rattle.std.proofs.Common.{◌+◌, length, ap, subst, arith}
use Rattle.text_core.specs.Piece.{Piece}
use Rattle.line_codec.specs.LineBytes.{IsOfWords, ReadsBack, line_bytes}
use Rattle.line_codec.proofs.LineLemmas.{cut_read}
use Rattle.line_codec.proofs.decoding.first_line.Goals as goal

pub returns-clause-reads : goal.returns-clause-reads
returns-clause-reads c =
    let after = c.next_line.new.cursor in
    let told = subst (λ (p : Piece). ReadsBack IsOfWords line_bytes p.bytes after.bytes c.in_ok-line.line) c.new-cursor.ensures c.in_ok-line.ensures.reads in
    cut_read c.args.bytes.now after.bytes c.at.result c.in_ok-line.line (omega (arith, c.at.ensures.value, c.next_line.ensures.end, ap (λ (p : Piece). p.at + length p.bytes) c.new-cursor.ensures)) told
