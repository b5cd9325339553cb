-- The gates and the outputs of the first k are made.
use Rattle.std.proofs.Common.{◌≡◌, ◌+◌, ◌*◌, min, length, All}
use Rattle.net_core.specs.Graph.{AreInOrder}
use Rattle.gen_pair.specs.Growing.{IsThere}
use Rattle.gen_pair.specs.Mixing.{making, made}
use Rattle.gen_pair.proofs.windows.make_parts.Given as goal

abbrev pub invariant-loop-k : goal.invariant-loop-k
invariant-loop-k l = record {
  count : length l.parts.gates.items ≡ 62 * l.k + min l.k 16;
  order : AreInOrder 65 l.parts.gates.items;
  outputs : length l.parts.outputs.items ≡ l.k;
  there : All (IsThere l.parts.gates.items) l.parts.outputs.items;
  made : making l.parts.gates.items l.parts.outputs.items l.random ≡ made l.k l.initial.random;
}
