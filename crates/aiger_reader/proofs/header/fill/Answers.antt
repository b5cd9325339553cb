-- A word that is no number refutes each row.
use Rattle.std.proofs.Common.{◌++◌, List, ℕ, map, take, Some, sym, ap, ◌∙◌}
use Rattle.text_core.specs.Numbers.{number}
use Rattle.aiger_reader.specs.Words.{numbers_on}
use Rattle.aiger_reader.proofs.HeaderLemmas.{no_number}
use Rattle.aiger_reader.proofs.header.fill.Goals as goal

pub returns-in_err-number-clause-none : goal.returns-in_err-number-clause-none
returns-in_err-number-clause-none c =
    let i = c.loop-count in
    let front = i.invariant.front ∙ ap (λ (ws : List (List ℕ)). map Some (take i.count i.row) ++ map number ws) c.in-Some.ensures.next in
    rw c.from_residual.ensures (λ numbers within small same. no_number (take i.count i.row) numbers (number c.in-Some.word.bytes) (numbers_on c.next_word.new.line.bytes) small c.in_err-number.ensures.none (sym front ∙ same))
