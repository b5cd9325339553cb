use Rattle.std.proofs.Common.{◌+◌, ◌%◌, List, length, slice_set, ap, ◌∙◌}
use Rattle.circuits.specs.declared.netlist.Lit.{Lit}
use Rattle.circuits.specs.declared.netlist.Gate.{Gate}
use Rattle.gen_pair.specs.Mixing.{mixing, with_multiplexer}
use Rattle.gen_pair.proofs.Drawn.{Draws, mixed_by}
use Rattle.gen_pair.proofs.windows.mix_once.Goals as goal
use Rattle.circuits.specs.Expansion.{stand_in}

pub returns-clause-made : goal.returns-clause-made
returns-clause-made c =
    let window = c.args.window.now in
    let gates = c.args.gates.now.items in
    let place = c.draw-place.result in
    let select = (place + 1 + c.draw.result) % length window in
    let draws : Draws window gates c.args.random.now = record {
      place = place;
      second = c.draw.result;
      third = c.draw-2.result;
      sign = c.draw_bit.result;
      after_place = c.draw-place.new.random;
      after_second = c.draw.new.random;
      after_third = c.draw-2.new.random;
      left = c.draw_bit.new.random;
      place_is = c.draw-place.ensures.drawn;
      second_is = c.draw.ensures.drawn;
      third_is = c.draw-2.ensures.drawn;
      sign_is = c.draw_bit.ensures;
    } in
    let made = c.in_ok-mixed.ensures.made ∙ ap (λ l. with_multiplexer (stand_in window select) (stand_in window place) l gates) c.signed-high.ensures in
    ap (λ (p : List Gate × Lit). mixing (slice_set window place p.1) p.0 c.draw_bit.new.random) made
    ∙ mixed_by window gates c.args.random.now draws
