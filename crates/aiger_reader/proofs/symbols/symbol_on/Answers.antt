-- No position after the letter, and no name after the position.
use Rattle.std.proofs.Common.{◌-◌, length, take, drop, sym, eqb-true}
use Rattle.std.proofs.lemmas.List.{take_rest, nil_from_length}
use Rattle.aiger_reader.proofs.SymbolLemmas.{after_letter, unnamed}
use Rattle.aiger_reader.proofs.symbols.symbol_on.Goals as goal

pub returns-in_err-position-clause-none : goal.returns-in_err-position-clause-none
returns-in_err-position-clause-none c =
    let line = c.args.line.now in
    let rest = take (length line - 1) (drop 1 line) in
    rw c.from_residual-in_err-position.ensures (λ port name small named. c.in_err-position.ensures.none port.position named.tail small (after_letter line rest name port named (take_rest line 1)))

pub returns-then-is_empty-clause-none : goal.returns-then-is_empty-clause-none
returns-then-is_empty-clause-none c = λ port name small named.
    let line = c.args.line.now in
    let rest = take (length line - 1) (drop 1 line) in
    let none = c.without_return-name.result.now in
    let empty = nil_from_length none (eqb-true (length none) 0 (sym c.if-is_empty.ensures)) in
    unnamed line rest c.in_ok-position.tail.now name none c.in_ok-position.position port (take_rest line 1) c.in_ok-position.ensures.position c.without_return-name.ensures empty named
