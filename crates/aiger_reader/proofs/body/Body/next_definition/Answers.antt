-- The next line, and the place of what it defines.
use Rattle.std.proofs.Common.{◌≡◌, ◌<◌, ◌+◌, ◌/◌, [], ◌∷◌, ◌++◌, length, subst, sym, ap, refl, arith}
use Rattle.aiger_reader.specs.Numbers.{header_of}
use Rattle.aiger_reader.specs.Bodies.{roles_of, role_at, first_of}
use Rattle.aiger_reader.specs.Reading.{rows_of, IsReading}
use Rattle.aiger_reader.proofs.GoodLemmas.{defined_few, reading_definition}
use Rattle.aiger_reader.proofs.RoleLemmas.{roles_few}
use Rattle.aiger_reader.proofs.ReadingLemmas.{width_some, reading_as}
use Rattle.aiger_reader.proofs.body.Body.next_definition.Goals as goal

pub overflow_add-self : goal.overflow_add-self
overflow_add-self c =
    let h = header_of c.args.header [] in
    let rows = rows_of c.args.self.now.literals in
    omega (arith, c.requires.reading.counted, defined_few (roles_of h) rows, roles_few h, c.requires.next_line.announced, c.in_ok-at.ensures.count, c.args.header.few_inputs, c.args.header.few_outputs, c.args.header.few_gates)

pub overflow_add-self-2 : goal.overflow_add-self-2
overflow_add-self-2 c =
    let h = header_of c.args.header [] in
    let rows = rows_of c.args.self.now.literals in
    omega (arith, c.requires.reading.counted, defined_few (roles_of h) rows, roles_few h, c.requires.next_line.announced, c.in_ok-at.ensures.count, c.args.header.few_inputs, c.args.header.few_outputs, c.args.header.few_gates)

pub returns-clause-reading : goal.returns-clause-reading
returns-clause-reading c =
    let bytes = c.args.input.now in
    let h = header_of c.args.header [] in
    let body = c.args.self.now in
    let rows = rows_of body.literals in
    let row = c.next_row.new.row in
    let now = c.next_row.new.self in
    let read = c.in_ok-at.ensures.row in
    let wide : length row ≡ length c.args.row.now = omega arith in
    let some : 0 < length row = omega (arith, width_some (role_at h (length rows)), c.requires.next_line.wide) in
    let reading = reading_as bytes h rows rows body.rest body.signals.items now.signals.items body.count now.count refl (sym (ap (λ v. v.items) c.in_ok-at.ensures.signals)) (sym c.in_ok-at.ensures.count) c.requires.reading in
    let within : first_of row / 2 < length now.signals.items = omega (arith, read.on.in_range 0 0 some, reading.numbered.entries) in
    let after = reading_definition bytes h rows body.rest now.rest now.signals.items now.count (length c.args.row.now) row reading c.requires.next_line wide read within c.if-not-define.ensures.free in
    subst (λ s. IsReading bytes h (rows ++ row ∷ []) now.rest s (now.count + 1)) (sym c.if-not-define.ensures.placed) after
