-- One digit more.
use Rattle.std.proofs.Common.{◌<◌, ◌≢◌, ◌∙◌, ap, length, eqb, ◌%◌, ◌/◌, arith, below_more, get_or-set_other, get_or-set_same}
use Rattle.circuits.proofs.Codes.{quotient_more, vector_of-from_bits}
use Rattle.circuits.proofs.plain.write_vector.Goals as goal

pub loop-bit-preserved : goal.loop-bit-preserved
loop-bit-preserved c = record {
  digits_left = ap (λ n. n / 2) c.loop-bit.invariant.digits_left ∙ quotient_more c.args.code c.loop-bit.bit-index;
  written = below_more _ _ (λ k h. let ne : k ≢ c.loop-bit.bit-index = omega arith in rw get_or-set_other (c.loop-bit.invariant.written k h)) (let lt : c.loop-bit.bit-index < length c.loop-bit.out = omega arith in rw get_or-set_same (ap (λ n. eqb (n % 2) 1) c.loop-bit.invariant.digits_left));
}

pub returns : goal.returns
returns c =
    vector_of-from_bits c.loop-bit.out (length c.args.out.now) c.args.code c.loop-bit.auto.out (λ k h. c.loop-bit.invariant.written k (omega arith))
