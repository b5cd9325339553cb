use Rattle.std.proofs.Common.{◌≡◌}
use Rattle.gen_pair.specs.Drawing.{generator_of}
use Rattle.gen_pair.proofs.Drawn.{are_pair}
use Rattle.gen_pair.proofs.pair.make.Goals as goal

pub returns-clause-drawn : goal.returns-clause-drawn
unfolding generator_of
returns-clause-drawn c =
    let random : c.new-random.result ≡ generator_of c.args.number = c.new-random.ensures in
    are_pair c.args.number c.new-random.result c.first_graph.new.random c.hidden_matching.new.random c.in_ok-first.first c.in_ok-first-2.first.graph c.in_ok-second.second c.in_ok-second-2.second.graph c.in_ok-hidden.hidden.inputs c.in_ok-hidden.hidden.outputs random c.in_ok-first.ensures.made c.in_ok-hidden.ensures.drawn c.in_ok-second.ensures.gates c.in_ok-second.ensures.outputs c.in_ok-first-2.ensures.graph c.in_ok-second-2.ensures.graph
