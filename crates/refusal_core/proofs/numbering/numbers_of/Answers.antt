-- One place more.
use Rattle.std.proofs.Common.{◌≡◌, ◌+◌, ◌≤◌, suc, Bool, true, false, cond, ap, arith, sym, ◌∙◌}
use Rattle.circuits.specs.Literals.{bit}
use Rattle.refusal_core.specs.Trims.{number_of}
use Rattle.refusal_core.proofs.KeptLemmas.{number_of-more, number_of-none, number_of-within}
use Rattle.refusal_core.proofs.NumberLemmas.{new_more}
use Rattle.refusal_core.proofs.numbering.numbers_of.Goals as goal

pub loop-mark-init : goal.loop-mark-init
loop-mark-init c = (sym (number_of-none c.args.marks.now), c.new-numbers.ensures)

at_most_one : (b : Bool) → cond b 1 0 ≤ 1
at_most_one true = omega arith
at_most_one false = omega arith

pub overflow_add-next : goal.overflow_add-next
overflow_add-next c =
    omega (arith, c.loop-mark.invariant.0, number_of-within c.args.marks.now c.loop-mark.mark-index, c.loop-mark-test.true, c.one_if-next.ensures, at_most_one (bit c.args.marks.now c.loop-mark.mark-index), c.loop-mark.auto.mark-index-end)

pub loop-mark-preserved : goal.loop-mark-preserved
loop-mark-preserved c =
    let marks = c.args.marks.now in
    let i = c.loop-mark.mark-index in
    let next : suc i ≡ i + 1 = omega arith in (
      ap (λ n. n + c.one_if-next.result) c.loop-mark.invariant.0
          ∙ (ap (λ n. number_of marks i + n) c.one_if-next.ensures
          ∙ (sym (number_of-more marks i c.loop-mark-test.true)
          ∙ ap (number_of marks) next)),
      new_more marks i c.loop-mark.numbers c.push.new.self c.loop-mark.next c.loop-mark.invariant.0 c.loop-mark.invariant.1 c.in_ok-push.ensures.ok,
    )
