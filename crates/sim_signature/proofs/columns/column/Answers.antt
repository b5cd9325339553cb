-- One output more has its block.
use Rattle.std.proofs.Common.{ap, length, subst, sym, arith}
use Rattle.std.proofs.lemmas.List.{length_push}
use Rattle.circuits.proofs.EachLemmas.{each_push}
use Rattle.sim_signature.specs.Signatures.{IsBlock, Signed}
use Rattle.sim_signature.proofs.columns.column.Goals as goal

pub loop-k-preserved : goal.loop-k-preserved
loop-k-preserved c =
    let simulation = c.args.simulation.now in
    let s : Signed = record { net = simulation.net; first = c.args.first; count = c.args.count; blocks = simulation.blocks } in
    let column = c.loop-k.column in
    let block = c.output_block.result in
    let inv = c.loop-k.invariant in
    let last = subst (λ k. IsBlock s simulation.change k block) (sym inv.0) c.output_block.ensures in (
      omega (arith, inv.0, length_push column block, ap length c.in_ok-push.ensures.ok),
      rw c.in_ok-push.ensures.ok (each_push (IsBlock s simulation.change) column block inv.1 last),
    )
