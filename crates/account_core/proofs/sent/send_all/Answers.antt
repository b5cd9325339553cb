-- The pairs are sent from the last one to the first.
use Rattle.std.proofs.Common.{◌≡◌, ◌<◌, ◌-◌, drop, length, subst, refl, ◌∙◌, arith}
use Rattle.std.proofs.lemmas.List.{get_or_default}
use Rattle.account_core.specs.Vectors.{value_sent}
use Rattle.account_core.proofs.SentOnly.{sent_before, sent_each}
use Rattle.account_core.proofs.sent.send_all.Goals as goal

pub loop-left-preserved : goal.loop-left-preserved
loop-left-preserved c =
    let pairs = c.args.pairs.now in
    let left = c.loop-left.left in
    let later = c.send.new.sent in
    let here : left - 1 < length pairs = omega (arith, c.loop-left-test.true, c.loop-left.invariant.0) in (
      omega (arith, c.loop-left.invariant.0),
      c.send.ensures.length ∙ c.loop-left.invariant.1,
      λ place below.
          sent_before pairs c.args.values.now c.loop-left.sent later left _ c.loop-left-test.true c.loop-left.invariant.0 (get_or_default pairs (left - 1) _ _ here) c.send.ensures.sent c.send.ensures.others c.loop-left.invariant.2 place (omega (arith, below, c.send.ensures.length)),
    )

pub returns : goal.returns
returns c =
    let none : c.loop-left.left ≡ 0 = omega (arith, c.loop-left-test.false) in
    sent_each c.args.pairs.now (length c.args.sent.now) c.args.values.now c.loop-left.sent c.loop-left.invariant.1 (λ place below. c.loop-left.invariant.2 place (omega (arith, below, c.loop-left.invariant.1)) ∙ subst (λ n. value_sent (drop c.loop-left.left c.args.pairs.now) c.args.values.now place ≡ value_sent (drop n c.args.pairs.now) c.args.values.now place) none refl)
