use Rattle.std.proofs.Common.{◌≡◌, ◌+◌, [], ◌∷◌, ◌++◌, length, replicate, nat_lt, if◌then◌else◌, sym, ap, ◌∙◌, arith}
use Rattle.std.proofs.lemmas.Bool.{le-ltb, lt-ltb}
use Rattle.std.proofs.lemmas.List.{length-take-le}
use Rattle.circuits.specs.declared.netlist.Lit.{Lit}
use Rattle.circuits.specs.Literals.{false_literal}
use Rattle.gen_pair.specs.Mixing.{mixing, mixed, joining, joined, making, window_of}
use Rattle.gen_pair.proofs.Drawn.{output_made}
use Rattle.gen_pair.proofs.windows.add_output.Goals as goal
use Rattle.gen_pair.proofs.windows.add_output.Goals.{then-k-lt16, else-k-lt16}

pub returns-clause-made : goal.returns-clause-made
returns-clause-made c =
    let k = c.args.k in
    let last = c.if-k-lt16.last in
    let g0 = c.args.parts.now.gates.items in
    let outputs = c.args.parts.now.outputs.items in
    let window = c.fill.new.window in
    let long : length window ≡ 6 + c.draw.result = omega (arith, c.fill.ensures.width, length-take-le (6 + c.draw.result) (replicate 12 false_literal) (omega (arith, c.draw.ensures.below))) in
    let window_is : window ≡ window_of k (6 + c.draw.result) = c.fill.ensures.made ∙ ap (window_of k) (sym c.fill.ensures.width ∙ long) in
    let mix_is : mixing c.mix.new.window c.mix.new.gates.items c.mix.new.random ≡ mixed 20 (mixing window g0 c.draw.new.random) = c.in_ok-mix.ensures.made in
    let count : last ≡ (if nat_lt k 16 then 3 else 2) =
    elim c.if-k-lt16.branch [
      | then-k-lt16 w ↦ w.last-is ∙ sym (ap (λ b. if b then 3 else 2) (lt-ltb k 16 w.if-k-lt16.true))
      | else-k-lt16 w ↦ w.last-is ∙ sym (ap (λ b. if b then 3 else 2) (le-ltb k 16 w.if-k-lt16.false))
    ] in
    let join_is : joining c.in_ok-output.output c.join.new.gates.items c.join.new.random ≡ joined c.mix.new.window last c.mix.new.gates.items c.mix.new.random = c.in_ok-output.ensures.made in
    let pushed : c.push.new.self.items ≡ outputs ++ c.signed.result ∷ [] = c.in_ok-push.ensures.items in
    ap (λ o. making c.join.new.gates.items o c.draw_bit.new.random) (pushed ∙ ap (λ (l : Lit). outputs ++ l ∷ []) c.signed.ensures)
    ∙ output_made k c.draw.result last window c.mix.new.window g0 c.mix.new.gates.items c.join.new.gates.items outputs c.args.random.now c.draw.new.random c.mix.new.random c.join.new.random c.draw_bit.new.random c.in_ok-output.output c.draw_bit.result c.draw.ensures.drawn window_is mix_is count join_is c.draw_bit.ensures
