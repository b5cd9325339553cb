use Rattle.std.proofs.Common.{sym, ap, subst}
use Rattle.std.specs.List.{filter}
use Rattle.blif_reader.specs.JoinedLines.{has_words}
use Rattle.blif_reader.specs.Blif.{blif_lines}
use Rattle.hier_blif.specs.Reading.{IsReading}
use Rattle.hier_blif.proofs.StopLemmas.{stop_passed}
use Rattle.hier_blif.proofs.ReaderLemmas.{reading_more, first_fault}
use Rattle.hier_blif.proofs.reader.Reader.read_lines.Goals as goal

pub loop-first-init : goal.loop-first-init
loop-first-init c =
    subst (λ ls. IsReading (blif_lines c.args.input.now) (filter has_words ls) c.args.self.now) (sym c.new-lines.ensures.lines) c.requires

pub loop-first-preserved : goal.loop-first-preserved
loop-first-preserved c =
    let all = blif_lines c.args.input.now in
    let here = subst (λ ls. IsReading all ls c.loop-first.self) c.in-Some.ensures c.loop-first.invariant in
    let more = reading_more all _ _ c.loop-first.self c.read_line.new.self here c.in_ok-read_line.ensures.advances in
    subst (λ ls. IsReading all ls c.read_line.new.self) (ap (filter has_words) (sym c.in_ok-read_line.ensures.lines)) more

pub returns-in_err-read_line-clause-stop : goal.returns-in_err-read_line-clause-stop
returns-in_err-read_line-clause-stop c =
    let all = blif_lines c.args.input.now in
    let here = subst (λ ls. IsReading all ls c.loop-first.self) c.in-Some.ensures c.loop-first.invariant in
    stop_passed c.read_line.result _ _ _ _ c.in_err-read_line.was c.from_residual.ensures.1 c.read_line.ensures.stop (λ fault. first_fault all _ _ c.loop-first.self fault here)

pub returns-clause-read : goal.returns-clause-read
returns-clause-read c =
    subst (λ ls. IsReading (blif_lines c.args.input.now) ls c.loop-first.self) c.in_default.ensures c.loop-first.invariant
