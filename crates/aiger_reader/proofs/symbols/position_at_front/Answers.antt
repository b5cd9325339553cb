-- A position ends at the first blank.
use Rattle.std.proofs.Common.{◌+◌, ◌-◌, length, take, drop, sym, ap, ◌∙◌, arith}
use Rattle.text_core.specs.Numbers.{number}
use Rattle.aiger_reader.proofs.PositionLemmas.{position_parts, position_here, front_is, ok_value, not_refused}
use Rattle.aiger_reader.proofs.symbols.position_at_front.Goals as goal

pub returns-in_err-digits-clause-none : goal.returns-in_err-digits-clause-none
returns-in_err-digits-clause-none c =
    rw c.from_residual.ensures (λ position tail small begins. omega (arith, (position_parts c.args.bytes.now tail position begins).there, c.in_err-digits.ensures.too_few, c.word_length-count.ensures.count, ap (λ p. length p.bytes) c.new-cursor.ensures))

pub returns-in_err-position-clause-none : goal.returns-in_err-position-clause-none
returns-in_err-position-clause-none c =
    let bytes = c.args.bytes.now in
    let count = c.word_length-count.result in
    let digits = front_is bytes c.new-cursor.result.bytes c.in_ok-digits.digits.bytes count (ap (λ p. p.bytes) c.new-cursor.ensures) c.word_length-count.ensures.count (ap (λ p. p.bytes) c.in_ok-digits.ensures.taken) in
    rw c.from_residual-in_err-position.ensures (λ position tail small begins. not_refused c.decimal.result position (c.decimal.ensures.fits position (ap number (digits ∙ (position_parts bytes tail position begins).front) ∙ begins.place) small) c.in_err-position.ensures.value)

pub returns-then-count-bytes-clause-none : goal.returns-then-count-bytes-clause-none
returns-then-count-bytes-clause-none c = λ position tail small begins.
    omega (arith, (position_parts c.args.bytes.now tail position begins).there, c.word_length-count.ensures.count)

pub returns-clause-position : goal.returns-clause-position
returns-clause-position c =
    let bytes = c.args.bytes.now in
    let count = c.word_length-count.result in
    let position = c.in_ok-position.position in
    let digits = front_is bytes c.new-cursor.result.bytes c.in_ok-digits.digits.bytes count (ap (λ p. p.bytes) c.new-cursor.ensures) c.word_length-count.ensures.count (ap (λ p. p.bytes) c.in_ok-digits.ensures.taken) in
    let place = ok_value c.decimal.result (number c.in_ok-digits.digits.bytes) position c.decimal.ensures.value c.in_ok-position.ensures.value in
    position_here bytes (take (length bytes - (count + 1)) (drop (count + 1) bytes)) position (omega (arith, c.word_length-count.ensures.count)) (ap number (sym digits) ∙ place) (ap (λ n. take (length bytes - (n + 1)) (drop (n + 1) bytes)) c.word_length-count.ensures.count)
