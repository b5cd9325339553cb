-- The signals have their bits after the change.
use Rattle.std.proofs.Common.{◌≡◌, subst}
use Rattle.claim_core.specs.Claims.{output_bit}
use Rattle.sim_signature.specs.Changes.{changed}
use Rattle.sim_signature.specs.Blocks.{block_bit, pattern}
use Rattle.sim_signature.specs.Simulations.{Simulated}
use Rattle.sim_signature.proofs.simulation.Simulation.output_block.Goals as goal

pub returns : goal.returns
returns c w v h l =
    let inside = c.self.inside in
    let x = changed inside.change (pattern inside.inputs.now w v) in
    let known = c.self.invariant.changed w v h l in
    subst (λ (s : Simulated). block_bit w v c.output_after.result ≡ output_bit s.net c.args.output (changed s.change (pattern s.blocks w v))) c.self.view_is (c.output_after.ensures w v x h l (rw (c.deref.ensures.value, c.deref-2.ensures.value, c.deref-3.ensures.value) known))
