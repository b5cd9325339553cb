-- One digit more, or a value that no longer fits.
use Rattle.std.proofs.Common.{arith}
use Rattle.std.proofs.lemmas.Int.Digits.{digits_value_more}
use Rattle.std.proofs.lemmas.Str.Parse.{digit_at}
use Rattle.text_core.proofs.NumberLemmas.{numerals, digits_value-grows, digits_value-whole}
use Rattle.text_core.proofs.numbers.value_of.Goals as goal

pub with_digit-requires : goal.with_digit-requires
with_digit-requires c =
    digit_at c.args.digits.now c.loop-digit.digit-index (numerals.to c.args.digits.now c.requires) (omega arith)

pub returns-in_default : goal.returns-in_default
returns-in_default c =
    let most = digits_value-grows c.args.digits.now c.loop-digit.digit-index c.loop-digit.value (omega arith) c.loop-digit.invariant.value in
    λ fits. omega (arith, c.in_default.ensures)

pub loop-digit-preserved : goal.loop-digit-preserved
loop-digit-preserved c = grind (arith, digits_value_more)

pub returns : goal.returns
returns c =
    let value = digits_value-whole c.args.digits.now c.loop-digit.digit-index c.loop-digit.value (omega arith) c.loop-digit.invariant.value in
    (omega arith, value)
