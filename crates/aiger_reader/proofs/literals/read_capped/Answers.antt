-- A word that is no number refutes each row.
use Rattle.std.proofs.Common.{◌∷◌, ◌++◌, List, ℕ, map, take, Option, Some, sym, ap, ◌∙◌}
use Rattle.text_core.specs.Numbers.{number}
use Rattle.aiger_reader.specs.Reading.{capped_on}
use Rattle.aiger_reader.proofs.LiteralLemmas.{not_written, all_capped}
use Rattle.aiger_reader.proofs.literals.read_capped.Goals as goal

pub returns-in_err-number-clause-none : goal.returns-in_err-number-clause-none
returns-in_err-number-clause-none c =
    let i = c.loop-number in
    let limit = c.args.limit in
    let done = take i.number-index i.row in
    let left = capped_on limit c.next_word.new.line.bytes in
    let next = i.invariant ∙ ap (λ (ws : List (List ℕ)). map Some done ++ all_capped limit (map number ws)) c.in_ok-word.ensures.next in
    let front = next ∙ ap (λ (w : Option ℕ). map Some done ++ w ∷ left) (sym c.in_err-number.ensures) in
    rw c.from_residual-in_err-number.ensures (λ numbers wide same. not_written done numbers (capped_on limit c.args.line.now.bytes) left front same)
