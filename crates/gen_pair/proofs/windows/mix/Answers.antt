use Rattle.std.proofs.Common.{refl, sym, ◌∙◌, arith}
use Rattle.gen_pair.specs.Mixing.{mixing}
use Rattle.gen_pair.proofs.Drawn.{mixed_none, mixed_more}
use Rattle.gen_pair.proofs.windows.mix.Goals as goal

pub loop-init : goal.loop-init
loop-init c = record {
  width = refl;
  count = omega arith;
  order = c.requires.order;
  there = c.requires.there;
  made = sym (mixed_none (mixing c.args.window.now c.args.gates.now.items c.args.random.now));
}

pub loop-preserved : goal.loop-preserved
loop-preserved c =
    let start = mixing c.args.window.now c.args.gates.now.items c.args.random.now in
    let now = mixing c.loop.window c.loop.gates.items c.loop.random in
    let next = mixing c.mix_once.new.window c.mix_once.new.gates.items c.mix_once.new.random in
    record {
      width = c.mix_once.ensures.width ∙ c.loop.invariant.width;
      count = omega (arith, c.in_ok-mix_once.ensures.gates.count, c.loop.invariant.count);
      order = c.in_ok-mix_once.ensures.gates.order;
      there = c.in_ok-mix_once.ensures.there;
      made = mixed_more c.loop.counter start now next c.loop.invariant.made c.in_ok-mix_once.ensures.made;
    }
