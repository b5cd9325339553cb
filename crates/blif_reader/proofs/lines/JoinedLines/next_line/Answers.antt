use Rattle.std.proofs.Common.{ap, sym, ◌∙◌}
use Rattle.std.specs.List.{filter}
use Rattle.blif_reader.specs.JoinedLines.{has_words}
use Rattle.blif_reader.proofs.ReadingLemmas.{entered_as, between, first_of_lines, none_of_lines}
use Rattle.blif_reader.proofs.lines.JoinedLines.next_line.Goals as goal

pub returns-in-Some-read_word : goal.returns-in-Some-read_word
returns-in-Some-read_word c =
    let entered = entered_as c.loop-line.self.rest c.in-Some.line c.enter.new.self.line c.enter.new.self.rest c.enter.new.self.goes_on c.in-Some.ensures.line c.enter.ensures.words c.enter.ensures.goes_on (c.enter.ensures.rest ∙ c.in-Some.ensures.rest) in
    let whole = between c.loop-line.self c.loop-line.invariant.ended in
    ap (filter has_words) (sym c.pass_line.ensures.lines)
    ∙ (sym c.loop-line.invariant.lines
    ∙ first_of_lines _ _ _ c.in-Some-read_word.word _ _ (whole ∙ entered) c.in-Some-read_word.ensures.word c.in-Some-read_word.ensures.lines)

pub loop-line-preserved : goal.loop-line-preserved
loop-line-preserved c =
    let entered = entered_as c.loop-line.self.rest c.in-Some.line c.enter.new.self.line c.enter.new.self.rest c.enter.new.self.goes_on c.in-Some.ensures.line c.enter.ensures.words c.enter.ensures.goes_on (c.enter.ensures.rest ∙ c.in-Some.ensures.rest) in
    let whole = between c.loop-line.self c.loop-line.invariant.ended in
    record {
      lines = none_of_lines _ _ _ _ (whole ∙ entered) c.in_default-read_word.ensures.word.0 c.in_default-read_word.ensures.lines ∙ c.loop-line.invariant.lines;
      ended = c.in_default-read_word.ensures.ended;
    }
