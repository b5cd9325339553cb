use Rattle.std.proofs.Common.{◌≡◌, All, subst, arith}
use Rattle.std.specs.Prelude.{Contains}
use Rattle.std.proofs.lemmas.List.{take_all}
use Rattle.circuits.specs.declared.port.Pair.{Pair}
use Rattle.circuits.specs.declared.port.PortKind.TheVariants.{Input}
use Rattle.class_refine.proofs.InputLemmas.{taking_more, taking_none}
use Rattle.class_refine.proofs.inputs.inputs_of.Goals as goal

pub loop-pair-init : goal.loop-pair-init
loop-pair-init c = taking_none c.args.assigned.now c.new-inputs.result.items c.new-inputs.ensures.items

pub add_input-requires-clause-part : goal.add_input-requires-clause-part
add_input-requires-clause-part c = c.loop-pair.invariant.part

pub add_input-requires-clause-inputs : goal.add_input-requires-clause-inputs
add_input-requires-clause-inputs c = c.loop-pair.invariant.inputs_are

pub loop-pair-preserved : goal.loop-pair-preserved
loop-pair-preserved c =
    taking_more c.args.assigned.now c.loop-pair.inputs.items c.add_input.new.inputs.items c.loop-pair.pair-index _ c.loop-pair-test.true c.loop-pair.invariant c.in_ok-add_input.ensures.adds c.in_ok-add_input.ensures.inputs c.in_ok-add_input.ensures.added

pub returns : goal.returns
returns c = record {
  part = c.loop-pair.invariant.part;
  inputs = c.loop-pair.invariant.inputs_are;
  all = subst (All (λ (p : Pair). p.kind ≡ Input → Contains c.loop-pair.inputs.items p)) (take_all c.loop-pair.pair-index c.args.assigned.now (omega (arith, c.loop-pair-test.false))) c.loop-pair.invariant.all;
}
