-- One pair more stands after the one before it.
use Rattle.std.proofs.Common.{◌-◌, ◌<◌, false, get_or, length, arith}
use Rattle.std.proofs.lemmas.List.{get_or_default}
use Rattle.circuits.specs.declared.port.Pair.{Pair}
use Rattle.circuits.specs.declared.port.PortKind.TheVariants.{Input}
use Rattle.ban_check.proofs.BoolLemmas.{refused, untrue}
use Rattle.ban_check.proofs.OrderLemmas.{turn_more, turn_stop}
use Rattle.ban_check.proofs.ports.stand_in_turn.Goals as goal

pub returns-then-not-stands_before : goal.returns-then-not-stands_before
returns-then-not-stands_before c =
    let pairs = c.args.pairs.now in
    let k = c.loop-k.k in
    let within = c.loop-k-test.true in
    let none : Pair = record { kind = Input; from = 0; to = 0; flip = false } in
    let some : 0 < k = omega arith in
    let before : k - 1 < length pairs = omega (arith, within, some) in
    refused _ (λ all. untrue c.stands_before.result _ c.if-not-stands_before.true c.stands_before.ensures (turn_stop pairs k (get_or pairs (k - 1) none) (get_or pairs k none) some within (λ d. get_or_default pairs (k - 1) d none before) (λ d. get_or_default pairs k d none within) all))

pub loop-k-preserved : goal.loop-k-preserved
loop-k-preserved c =
    let pairs = c.args.pairs.now in
    let k = c.loop-k.k in
    let within = c.loop-k-test.true in
    let none : Pair = record { kind = Input; from = 0; to = 0; flip = false } in
    let some : 0 < k = omega arith in
    let before : k - 1 < length pairs = omega (arith, within, some) in
    turn_more pairs k (get_or pairs (k - 1) none) (get_or pairs k none) some within (λ d. get_or_default pairs (k - 1) d none before) (λ d. get_or_default pairs k d none within) (c.stands_before.ensures.0 c.if-not-stands_before.false) c.loop-k.invariant
