-- One input more.
use Rattle.sim_signature.proofs.SupportLemmas.{reached_more}
use Rattle.sim_signature.proofs.supports.Supports.inputs_of.Goals as goal

pub loop-input-preserved : goal.loop-input-preserved
loop-input-preserved c = reached_more c.args.self.now c.args.output c.loop-input.input c.loop-input.inputs c.push_if.new.inputs c.reaches.result c.loop-input.invariant c.reaches.ensures c.in_ok-push_if.ensures
