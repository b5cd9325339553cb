use Rattle.std.proofs.Common.{◌≡◌, [], sym, ◌∙◌, arith}
use Rattle.blif_reader.specs.JoinedLines.{words_at}
use Rattle.blif_reader.proofs.PlacedLemmas.{words_at-no_first, words_at-empty}
use Rattle.blif_reader.proofs.ReadingLemmas.{word_taken, nothing_left, same_left}
use Rattle.blif_reader.proofs.lines.JoinedLines.read_word.Goals as goal

pub returns-in-Some-clause-word : goal.returns-in-Some-clause-word
returns-in-Some-clause-word c =
    sym c.lines.invariant.words ∙ word_taken c.lines.self.line c.next_word.new.line c.in-Some.word _ c.in-Some.ensures.word c.in-Some.ensures.rest

pub returns-then-not-self-clause-word : goal.returns-then-not-self-clause-word
returns-then-not-self-clause-word c =
    let before : words_at c.lines.self.line ≡ [] = words_at-no_first c.lines.self.line (sym c.in_default.ensures.word) in
    let after : words_at c.next_word.new.line ≡ [] = words_at-empty c.next_word.new.line c.in_default.ensures.none.1 in
    (sym c.lines.invariant.words ∙ nothing_left c.lines.self.line c.lines.self.rest c.lines.self.goes_on c.if-not-self.true before, nothing_left c.next_word.new.line c.lines.self.rest c.lines.self.goes_on c.if-not-self.true after)

pub lines-preserved : goal.lines-preserved
lines-preserved c =
    let before : words_at c.lines.self.line ≡ [] = words_at-no_first c.lines.self.line (sym c.in_default.ensures.word) in
    let after : words_at c.next_word.new.line ≡ [] = words_at-empty c.next_word.new.line c.in_default.ensures.none.1 in
    record {
      words = c.go_on.ensures.words after ∙ (same_left c.next_word.new.line c.lines.self.line c.lines.self.rest c.lines.self.goes_on (after ∙ sym before) ∙ c.lines.invariant.words);
      lines = c.go_on.ensures.lines ∙ c.lines.invariant.lines;
      shorter = omega (arith, c.go_on.ensures.shorter, c.lines.invariant.shorter);
    }
