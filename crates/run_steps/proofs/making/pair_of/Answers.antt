-- The pair's gates stand in order.
use Rattle.std.proofs.Common.{ap, subst}
use Rattle.circuits.specs.Netlists.{IsOrdered}
use Rattle.net_core.specs.Sides.{Graphs}
use Rattle.run_steps.proofs.making.pair_of.Goals as goal

pub returns : goal.returns
returns c =
    let e = c.in_ok-pair.ensures in
    record {
      drawn = record { drawn = e.drawn; matches = e.matches; first_size = e.first_size; second_size = e.second_size };
      first_names = e.first_names;
      second_names = e.second_names;
      first_ordered = subst IsOrdered (ap (λ (two : Graphs). two.first) c.new-graphs.ensures) c.first-first.ensures.sound.ordered;
      second_ordered = subst IsOrdered (ap (λ (two : Graphs). two.second) c.new-graphs.ensures) c.second-second.ensures.sound.ordered;
    }
