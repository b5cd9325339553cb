-- One place more.
use Rattle.std.proofs.Common.{◌≡◌, ◌+◌, ◌≤◌, suc, Bool, true, false, cond, ap, arith, sym, ◌∙◌}
use Rattle.circuits.specs.Literals.{bit}
use Rattle.account_trim.specs.Lowered.{left_out}
use Rattle.account_trim.proofs.LowerLemmas.{counts_more, left_out-more, left_out-none, left_out-within}
use Rattle.account_trim.proofs.lowering.all_left_out.Goals as goal

pub loop-mark-init : goal.loop-mark-init
loop-mark-init c = (sym (left_out-none c.args.marks.now), c.new-counts.ensures)

at_most_one : (b : Bool) → cond b 0 1 ≤ 1
at_most_one true = omega arith
at_most_one false = omega arith

pub overflow_add-next : goal.overflow_add-next
overflow_add-next c =
    omega (arith, c.loop-mark.invariant.0, left_out-within c.args.marks.now c.loop-mark.mark-index, c.loop-mark-test.true, c.one_unless-next.ensures, at_most_one (bit c.args.marks.now c.loop-mark.mark-index), c.loop-mark.auto.mark-index-end)

pub loop-mark-preserved : goal.loop-mark-preserved
loop-mark-preserved c =
    let marks = c.args.marks.now in
    let i = c.loop-mark.mark-index in
    let next : suc i ≡ i + 1 = omega arith in (
      ap (λ n. n + c.one_unless-next.result) c.loop-mark.invariant.0
          ∙ (ap (λ n. left_out marks i + n) c.one_unless-next.ensures
          ∙ (sym (left_out-more marks i c.loop-mark-test.true)
          ∙ ap (left_out marks) next)),
      counts_more marks i c.loop-mark.counts c.push.new.self c.loop-mark.next c.loop-mark.invariant.0 c.loop-mark.invariant.1 c.in_ok-push.ensures.ok,
    )
