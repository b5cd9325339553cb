-- Each bit of the words is looked at.
use Rattle.word_sim.proofs.DigitLemmas.{alternating-digits}
use Rattle.word_sim.proofs.digits.alternating.Goals as goal

pub returns : goal.returns
returns c v h = alternating-digits c.args.input v c.requires h
