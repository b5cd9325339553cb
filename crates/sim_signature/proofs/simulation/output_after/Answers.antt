-- The output's literal has its bit after the change.
use Rattle.std.proofs.Common.{ℕ, ◌∙◌, ap, Bool, List, get_or}
use Rattle.circuits.specs.declared.netlist.Lit.{Lit}
use Rattle.sim_signature.specs.Blocks.{bit_of_literal, block_after, block_bit}
use Rattle.sim_signature.proofs.Evaluating.{output-bit}
use Rattle.sim_signature.proofs.simulation.output_after.Goals as goal

pub returns : goal.returns
returns c w v x h l known =
    let net = c.args.graph.now in
    let output = c.args.output in
    let none : Lit = record { 0 = 0 } in
    let bits : ℕ → Bool = λ s. block_bit w v (block_after c.args.before.now c.args.after.now c.args.marks.now s) in
    c.literal_after.ensures w v h l ∙ (ap (λ (outputs : List Lit). bit_of_literal bits (get_or outputs output none)) c.outputs.ensures.value ∙ output-bit net x output bits c.outputs.ensures.graph c.requires.output known)
