-- One port more is read.
use Rattle.std.proofs.Common.{◌+◌, ◌∷◌, drop, sym, ap, ◌∙◌, arith}
use Rattle.account_core.specs.Tallies.{Ascend}
use Rattle.ban_check.proofs.AscentLemmas.{ascent_end, ascent_step}
use Rattle.ban_check.proofs.BoolLemmas.{front}
use Rattle.ban_check.proofs.ascent.ascend.Goals as goal

pub loop-port-preserved : goal.loop-port-preserved
loop-port-preserved c =
    let ports = c.args.ports.now in
    let k = c.loop-port.port-index in
    let x = c.from-least.result in
    let is = front ports k 0 c.loop-port-test.true ∙ ap (λ y. y ∷ drop (k + 1) ports) (sym c.from-least.ensures) in
    let same = c.from.ensures in
    ascent_step (Ascend ports) c.loop-port.least x (drop (k + 1) ports) (drop k ports) is (omega (arith, c.if-from-least.false, c.from.ensures, c.from-least.ensures)) c.loop-port.invariant

pub returns : goal.returns
returns c =
    let h = c.loop-port-test.false in
    ascent_end (Ascend c.args.ports.now) c.loop-port.least c.args.ports.now c.loop-port.port-index (omega arith) c.loop-port.invariant
