use Rattle.std.proofs.Common.{ℕ, ◌%◌, ap}
use Rattle.rand_pcg.specs.Lcg.{Lcg}
use Rattle.gen_pair.specs.Drawing.{drawn}
use Rattle.gen_pair.proofs.drawing.draw.Goals as goal

pub returns-clause-drawn : goal.returns-clause-drawn
unfolding drawn
returns-clause-drawn c = ap (λ (r : ℕ × Lcg). (r.0 % c.args.bound, r.1)) c.next_word-word.ensures
