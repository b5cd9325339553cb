-- One mark more, of a number that isn't marked.
use Rattle.std.proofs.Common.{◌≤◌, Bool, false, List, [], ◌∷◌, length, length-append, sym, ap, subst, arith}
use Rattle.account_check.proofs.DropLemmas.{IsLengthened, lengthened_more, not_lengthened}
use Rattle.account_check.proofs.dropped.lengthen.Goals as goal

pub loop-marks-init : goal.loop-marks-init
loop-marks-init c = not_lengthened c.args.marks.now c.args.number

pub loop-marks-smaller : goal.loop-marks-smaller
loop-marks-smaller c =
    let longer = ap (λ (l : List Bool). length l) c.in_ok-push.ensures.ok in
    omega (arith, c.loop-marks-test.true, c.len.ensures, longer, length-append c.loop-marks.marks (false ∷ []))

pub loop-marks-preserved : goal.loop-marks-preserved
loop-marks-preserved c =
    let marks = c.loop-marks.marks in
    let few : length marks ≤ c.args.number = omega (arith, c.loop-marks-test.true, c.len.ensures) in
    subst (λ (l : List Bool). IsLengthened c.args.marks.now l c.args.number) (sym c.in_ok-push.ensures.ok)
    (lengthened_more c.args.marks.now marks c.args.number c.loop-marks.invariant few)
