use Rattle.std.proofs.Common.{arith}
use Rattle.sim_signature.proofs.SupportLemmas.{one_bit}
use Rattle.sim_signature.proofs.supports.word_of.Goals as goal

pub returns : goal.returns
returns c v below = one_bit c.args.first c.args.input v (omega (arith, c.if-input-first.false)) (omega (arith, c.if-input-first-2.false))
