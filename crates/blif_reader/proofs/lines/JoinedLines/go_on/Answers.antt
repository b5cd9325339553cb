-- The next line was entered.
use Rattle.std.proofs.Common.{◌≡◌, true, cond, List, [], ◌∷◌, ◌++◌, get_or, drop, sym, ap, ap₂, ◌∙◌}
use Rattle.text_core.specs.Piece.{Piece}
use Rattle.blif_reader.specs.declared.lines.JoinedLines.{JoinedLines}
use Rattle.blif_reader.specs.JoinedLines.{lines_at, words_at, joined}
use Rattle.blif_reader.specs.Reading.{words_left, lines_left}
use Rattle.blif_reader.proofs.ReadingLemmas.{entered_as}
use Rattle.blif_reader.proofs.lines.JoinedLines.go_on.Goals as goal

words_go_on : (old new : JoinedLines) → old.goes_on ≡ true → joined (lines_at old.rest) ≡ words_left new ∷ lines_left new → words_at old.line ≡ [] → words_left new ≡ words_left old
words_go_on old new on entered none =
    sym (ap₂ (λ (ws : List Piece) t. ws ++ cond t (get_or (joined (lines_at old.rest)) 0 []) []) none on ∙ ap (λ ls. get_or ls 0 []) entered)

lines_go_on : (old new : JoinedLines) → old.goes_on ≡ true → joined (lines_at old.rest) ≡ words_left new ∷ lines_left new → lines_left new ≡ lines_left old
lines_go_on old new on entered =
    sym (ap (λ t. cond t (drop 1 (joined (lines_at old.rest))) (joined (lines_at old.rest))) on ∙ ap (drop 1) entered)

pub returns-in-Some-clause-words : goal.returns-in-Some-clause-words
returns-in-Some-clause-words c =
    let old = c.args.self.now in
    let new = c.enter.new.self in
    words_go_on old new c.requires (entered_as old.rest c.in-Some.line new.line new.rest new.goes_on c.in-Some.ensures.line c.enter.ensures.words c.enter.ensures.goes_on (c.enter.ensures.rest ∙ c.in-Some.ensures.rest))

pub returns-in-Some-clause-lines : goal.returns-in-Some-clause-lines
returns-in-Some-clause-lines c =
    let old = c.args.self.now in
    let new = c.enter.new.self in
    lines_go_on old new c.requires (entered_as old.rest c.in-Some.line new.line new.rest new.goes_on c.in-Some.ensures.line c.enter.ensures.words c.enter.ensures.goes_on (c.enter.ensures.rest ∙ c.in-Some.ensures.rest))
