-- Each of the eight words is the word.
use Rattle.std.proofs.lemmas.Simd.{get_or-replicate}
use Rattle.sim_signature.proofs.vectors.everywhere.Goals as goal

pub returns : goal.returns
returns c w h = get_or-replicate 8 w c.args.word 0 h
