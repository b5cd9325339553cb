use Rattle.std.proofs.Common.{ℕ, eqb, ap}
use Rattle.rand_pcg.specs.Lcg.{Lcg}
use Rattle.gen_pair.proofs.drawing.draw_bit.Goals as goal

pub returns : goal.returns
returns c = ap (λ (r : ℕ × Lcg). (eqb r.0 1, r.1)) c.draw.ensures.drawn
