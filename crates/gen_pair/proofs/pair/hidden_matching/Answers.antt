use Rattle.std.proofs.Common.{ℕ, Bool, List, ap, ◌∙◌}
use Rattle.rand_pcg.specs.Lcg.{Lcg}
use Rattle.gen_pair.specs.Shuffles.{hidden_ports, hidden_matching}
use Rattle.gen_pair.proofs.pair.hidden_matching.Goals as goal

pub returns-clause-drawn : goal.returns-clause-drawn
unfolding hidden_matching
returns-clause-drawn c =
    let first = c.in_ok-inputs.ensures.drawn in
    let inputs = hidden_ports 64 c.args.random.now in
    let second = c.in_ok-outputs.ensures.drawn ∙ ap (λ (p : List (ℕ × Bool) × Lcg). hidden_ports 32 p.1) first in
    ap (λ (p : List (ℕ × Bool) × Lcg). ((p.0, c.in_ok-outputs.outputs), c.hidden_ports-2.new.random)) first
    ∙ ap (λ (p : List (ℕ × Bool) × Lcg). ((inputs.0, p.0), p.1)) second
