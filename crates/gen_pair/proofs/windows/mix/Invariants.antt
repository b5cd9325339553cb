-- The window was mixed so often, and three gates came each time.
use Rattle.std.proofs.Common.{◌≡◌, ◌+◌, ◌*◌, length, All}
use Rattle.net_core.specs.Graph.{AreInOrder}
use Rattle.gen_pair.specs.Growing.{IsThere}
use Rattle.gen_pair.specs.Mixing.{mixing, mixed}
use Rattle.gen_pair.proofs.windows.mix.Given as goal

abbrev pub invariant-loop : goal.invariant-loop
invariant-loop l = record {
  width : length l.window ≡ length l.initial.window;
  count : length l.gates.items ≡ length l.initial.gates.items + 3 * l.counter;
  order : AreInOrder 65 l.gates.items;
  there : All (IsThere l.gates.items) l.window;
  made : mixing l.window l.gates.items l.random ≡ mixed l.counter (mixing l.initial.window l.initial.gates.items l.initial.random);
}
