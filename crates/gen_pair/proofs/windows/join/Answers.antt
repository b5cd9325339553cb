use Rattle.std.proofs.Common.{◌≡◌, ◌+◌, ◌-◌, ◌<◌, ap, sym, ◌∙◌, arith}
use Rattle.circuits.specs.Literals.{false_literal}
use Rattle.gen_pair.specs.Mixing.{with_and, joined}
use Rattle.gen_pair.proofs.Drawn.{joined_none, joined_more}
use Rattle.gen_pair.proofs.windows.join.Goals as goal

pub loop-t-init : goal.loop-t-init
loop-t-init c = record {
  count = omega arith;
  order = c.requires.order;
  there = c.requires.there 0 false_literal (omega (arith, c.requires.within));
  made = sym (joined_none c.args.window.now c.args.gates.now.items c.args.random.now);
}

pub loop-t-preserved : goal.loop-t-preserved
loop-t-preserved c =
    let t = c.loop-t.t in
    let here : t ≡ t + 1 - 1 = omega arith in
    let some : 0 < t = omega (arith, c.loop-t.auto.t) in
    let made = c.in_ok-joined.ensures.made ∙ ap (λ l. with_and c.loop-t.joined l c.loop-t.gates.items) c.signed-literal.ensures in
    record {
      count = omega (arith, c.in_ok-joined.ensures.gates.count, c.loop-t.invariant.count);
      order = c.in_ok-joined.ensures.gates.order;
      there = c.in_ok-joined.ensures.there;
      made =
          joined_more c.args.window.now t c.args.gates.now.items c.loop-t.gates.items c.and.new.gates.items c.args.random.now c.loop-t.random c.draw_bit.new.random c.loop-t.joined c.in_ok-joined.joined c.draw_bit.result some c.loop-t.invariant.made c.draw_bit.ensures made
          ∙ ap (λ k. joined c.args.window.now k c.args.gates.now.items c.args.random.now) here;
    }
