-- Each visit that is listed is a level.
use Rattle.std.proofs.Common.{◌≡◌, ◌<◌, ◌∙◌, ap, sym, subst, length, refl, arith}
use Rattle.circuits.specs.Circuits.{signal_at}
use Rattle.circuits.specs.Levels.{HasLevel}
use Rattle.net_core.proofs.OrderLaws.{AreListed-push, level_of}
use Rattle.net_core.proofs.levels.place_all.Goals as goal

pub unreachable-requires : goal.unreachable-requires
unreachable-requires c =
    let there : c.loop-position.position < length c.args.net.now.defs = omega (arith, ap length c.defs-count.ensures.value) in
    let found = c.requires.found c.loop-position.position there in
    c.in_default.not-Level found.0 found.1

pub loop-position-preserved : goal.loop-position-preserved
loop-position-preserved c =
    let there : c.loop-position.position < length c.args.net.now.defs = omega (arith, ap length c.defs-count.ensures.value) in
    let found = c.requires.found c.loop-position.position there in
    let level : found.0 ≡ c.in-Level.level = level_of found.0 c.in-Level.level (sym found.1 ∙ c.in-Level.is) in
    let has = subst (HasLevel c.args.net.now (signal_at c.args.net.now c.loop-position.position)) level found.2 in
    let pushed = c.in_ok-push.ensures.len in
    let len : length c.loop-position.placed.items ≡ c.loop-position.position = omega arith in
    record {
      entries = omega arith;
      listed = rw c.in_ok-push.ensures.items (AreListed-push c.args.net.now c.loop-position.position c.loop-position.placed.items (record { level = c.in-Level.level; position = c.loop-position.position }) len refl has c.loop-position.invariant.listed);
    }
