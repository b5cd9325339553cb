-- No line of the body is read.
use Rattle.std.proofs.Common.{◌≡◌, [], length, refl, ap, sym, subst, arith}
use Rattle.std.proofs.lemmas.List.{nil_from_length}
use Rattle.text_core.specs.Lines.{after_line}
use Rattle.aiger_reader.specs.declared.body.Literals.{Literals}
use Rattle.aiger_reader.specs.Numbers.{header_of}
use Rattle.aiger_reader.specs.Reading.{rows_of, IsReading}
use Rattle.aiger_reader.proofs.RoleLemmas.{length-rows_of}
use Rattle.aiger_reader.proofs.ReadingLemmas.{reading_first, reading_as}
use Rattle.aiger_reader.proofs.body.start.Goals as goal

pub returns-clause-reading : goal.returns-clause-reading
returns-clause-reading c =
    let bytes = c.args.input.now in
    let h = header_of c.args.header [] in
    let signals = c.in_ok-signals.signals.items in
    let literals : Literals = record { inputs = c.new.result; outputs = c.new-2.result; gates = c.new-3.result } in
    let none : rows_of literals ≡ [] = nil_from_length (rows_of literals) (omega (arith, length-rows_of literals, ap length c.new.ensures.items, ap length c.new-2.ensures.items, ap length c.new-3.ensures.items)) in
    let first = reading_first bytes h c.new-rest.result signals c.new-rest.ensures (c.in_ok-signals.ensures.items_if_clones_equal (λ y same. same)) in
    subst (λ p. IsReading bytes h (rows_of literals) p signals 0) (sym c.next_line.ensures.rest) (reading_as bytes h [] (rows_of literals) (after_line c.new-rest.result) signals signals 0 0 (sym none) refl refl first)
