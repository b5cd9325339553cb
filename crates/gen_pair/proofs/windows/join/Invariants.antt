-- One gate was added for each literal so far.
use Rattle.std.proofs.Common.{◌≡◌, ◌+◌, ◌-◌, length}
use Rattle.net_core.specs.Graph.{AreInOrder}
use Rattle.gen_pair.specs.Growing.{IsThere}
use Rattle.gen_pair.specs.Mixing.{joining, joined}
use Rattle.gen_pair.proofs.windows.join.Given as goal

abbrev pub invariant-loop-t : goal.invariant-loop-t
invariant-loop-t l = record {
  count : length l.gates.items + 1 ≡ length l.initial.gates.items + l.t;
  order : AreInOrder 65 l.gates.items;
  there : IsThere l.gates.items l.joined;
  made : joining l.joined l.gates.items l.random ≡ joined l.window (l.t - 1) l.initial.gates.items l.initial.random;
}
