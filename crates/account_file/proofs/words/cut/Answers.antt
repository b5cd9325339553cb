use Rattle.std.proofs.Common.{◌≡◌, ◌+◌, ◌-◌, ◌∷◌, length, take, drop, sym, ap, subst, ◌∙◌, arith}
use Rattle.std.proofs.lemmas.List.{length-drop}
use Rattle.std.proofs.Math.Seq.{take-length}
use Rattle.account_file.specs.Words.{words_of}
use Rattle.account_file.proofs.WordLemmas.{words_cut, words_whole}
use Rattle.account_file.proofs.words.cut.Goals as goal

pub returns-then-end-line-clause-alone : goal.returns-then-end-line-clause-alone
returns-then-end-line-clause-alone c = words_whole c.args.line.now (omega (arith, c.word_end-end.ensures, c.if-end-line.true))

pub returns-clause-words : goal.returns-clause-words
returns-clause-words c =
    let line = c.args.line.now in
    let end = c.word_end-end.result in
    let parts = subst (λ n. words_of line ≡ take n line ∷ words_of (drop (n + 1) line)) (sym c.word_end-end.ensures) (words_cut line (omega (arith, c.word_end-end.ensures, c.if-end-line.false))) in
    let rest : take (length line - (end + 1)) (drop (end + 1) line) ≡ drop (end + 1) line = ap (λ n. take n (drop (end + 1) line)) (sym (length-drop (end + 1) line)) ∙ take-length (drop (end + 1) line) in
    parts ∙ ap (λ after. take end line ∷ words_of after) (sym rest)
