-- The number, none, or the limit where the number is too large even for 64 bits.
use Rattle.std.proofs.Common.{◌≡◌, min, Some, Err, sym, ap, ◌∙◌, arith}
use Rattle.std.specs.Option.{option_map}
use Rattle.aiger_reader.proofs.literals.capped_number.Goals as goal

pub returns-in-Ok : goal.returns-in-Ok
returns-in-Ok c =
    ap Some (c.min.ensures ∙ ap (min c.in-Ok.number) c.from.ensures)
    ∙ sym (ap (option_map (λ n. min n c.args.limit)) c.in-Ok.ensures.value)

pub returns-in-Err-NotDigit : goal.returns-in-Err-NotDigit
returns-in-Err-NotDigit c =
    sym (ap (option_map (λ n. min n c.args.limit)) (c.in-Err-NotDigit.ensures.not_digit.0 (ap Err c.in-Err-NotDigit.field-0-is)))

pub returns-in-Err-TooLarge : goal.returns-in-Err-TooLarge
returns-in-Err-TooLarge c =
    let told = c.in-Err-TooLarge.ensures.too_large.0 (ap Err c.in-Err-TooLarge.field-0-is) in
    let least : c.args.limit ≡ min told.0 c.args.limit = omega (arith, told.2) in
    ap Some least ∙ sym (ap (option_map (λ n. min n c.args.limit)) told.1)
