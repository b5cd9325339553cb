-- The definitions so far are listed.
use Rattle.std.proofs.Common.{◌≡◌, vec_len}
use Rattle.net_core.specs.Orders.{AreListed}
use Rattle.net_core.proofs.levels.place_all.Given as goal

abbrev pub invariant-loop-position : goal.invariant-loop-position
invariant-loop-position l = record {
  entries : vec_len l.placed ≡ l.position;
  listed : AreListed l.net l.position l.placed.items;
}
