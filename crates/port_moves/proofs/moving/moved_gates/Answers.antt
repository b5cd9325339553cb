use Rattle.std.proofs.Common.{[], ◌∷◌, ◌++◌, get_or, map, take, ap, sym, ◌∙◌}
use Rattle.std.proofs.lemmas.List.{map_push, take_more}
use Rattle.circuits.specs.declared.netlist.Gate.{Gate}
use Rattle.circuits.specs.Literals.{false_literal}
use Rattle.port_moves.specs.Moved.{moved_gate, moved_literal}
use Rattle.port_moves.proofs.moving.moved_gates.Goals as goal

pub loop-gate-preserved : goal.loop-gate-preserved
loop-gate-preserved c =
    let i = c.loop-gate.gate-index in
    let none : Gate = record { a = false_literal; b = false_literal } in
    let gate = get_or c.args.gates.now i none in
    let inputs = c.args.inputs.now in
    let new : Gate = record { a = c.moved_literal-a.result; b = c.moved_literal-b.result } in
    let a = c.moved_literal-a.ensures in
    let b = c.moved_literal-b.ensures in
    let old = c.loop-gate.moved.items in
    c.in_ok-push.ensures.items
    ∙ ap (λ (x : Gate). old ++ x ∷ []) (ap (λ l. record { a = l; b = c.moved_literal-b.result }) a ∙ ap (λ l. record { a = moved_literal inputs gate.b; b = l }) b)
    ∙ ap (λ gs. gs ++ moved_gate inputs gate ∷ []) c.loop-gate.invariant
    ∙ sym (ap (map (moved_gate inputs)) (take_more c.args.gates.now i none c.loop-gate-test.true) ∙ map_push (moved_gate inputs) (take i c.args.gates.now) gate)
