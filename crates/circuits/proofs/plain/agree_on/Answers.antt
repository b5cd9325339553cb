-- The vector moved is as long as the second netlist has inputs.
use Rattle.std.proofs.Common.{◌∙◌, sym, ap, length}
use Rattle.circuits.proofs.Places.{length-moved}
use Rattle.circuits.proofs.plain.agree_on.Goals as goal

pub outputs-requires-2-clause-inputs : goal.outputs-requires-2-clause-inputs
outputs-requires-2-clause-inputs c =
    ap length c.as_slice.ensures.value ∙ (ap length c.in_ok-other_vector.ensures ∙ (length-moved c.args.p.now c.args.vector.now ∙ (c.requires.inputs ∙ sym c.requires.ports.same_inputs)))
