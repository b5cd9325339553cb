use Rattle.std.proofs.Common.{[], ap, length, sym, ◌∙◌, arith}
use Rattle.gen_pair.specs.Mixing.{making}
use Rattle.gen_pair.proofs.Counts.{gates_more}
use Rattle.gen_pair.proofs.Drawn.{made_none, made_more}
use Rattle.gen_pair.proofs.windows.make_parts.Goals as goal

pub loop-k-init : goal.loop-k-init
loop-k-init c =
    let gates = ap length c.new.ensures.items in
    let outputs = ap length c.new-2.ensures.items in
    record {
      count = gates;
      order = record { first_operands = λ t d h. absurd (omega (arith, h, gates)); second_operands = λ t d h. absurd (omega (arith, h, gates)) };
      outputs = outputs;
      there = λ t d h. absurd (omega (arith, h, outputs));
      made =
          ap (λ g. making g c.new-2.result.items c.args.random.now) c.new.ensures.items
          ∙ ap (λ o. making [] o c.args.random.now) c.new-2.ensures.items
          ∙ sym (made_none c.args.random.now);
    }

pub loop-k-preserved : goal.loop-k-preserved
loop-k-preserved c =
    let now = making c.loop-k.parts.gates.items c.loop-k.parts.outputs.items c.loop-k.random in
    let next = making c.add_output.new.parts.gates.items c.add_output.new.parts.outputs.items c.add_output.new.random in
    record {
      count = gates_more c.loop-k.k (length c.loop-k.parts.gates.items) (length c.add_output.new.parts.gates.items) c.loop-k.invariant.count c.in_ok-add_output.ensures.gates.count;
      order = c.in_ok-add_output.ensures.gates.order;
      outputs = omega (arith, c.in_ok-add_output.ensures.outputs, c.loop-k.invariant.outputs);
      there = c.in_ok-add_output.ensures.there;
      made = made_more c.loop-k.k c.args.random.now now next c.loop-k.invariant.made c.in_ok-add_output.ensures.made;
    }
