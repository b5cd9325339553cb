use Rattle.std.proofs.Common.{ap, ◌∙◌}
use Rattle.circuits.specs.declared.netlist.Lit.{Lit}
use Rattle.circuits.specs.Literals.{inverse}
use Rattle.gen_pair.specs.Mixing.{with_and}
use Rattle.gen_pair.proofs.Drawn.{multiplexed}
use Rattle.gen_pair.proofs.windows.multiplexer.Goals as goal

pub returns-clause-made : goal.returns-clause-made
returns-clause-made c =
    let g1 = c.and.new.gates.items in
    let g2 = c.and-2.new.gates.items in
    let g3 = c.and-3.new.gates.items in
    let l1 = c.in_ok-chosen.chosen in
    let rest = c.in_ok-rest.ensures.made ∙ ap (λ l. with_and l c.args.high g1) c.inverse.ensures in
    let neither = c.in_ok-neither.ensures.made
    ∙ ap (λ l. with_and l c.inverse-3.result g2) c.inverse-2.ensures
    ∙ ap (λ l. with_and (inverse l1) l g2) c.inverse-3.ensures in
    ap (λ (l : Lit). (g3, l)) c.inverse-4.ensures
    ∙ multiplexed c.args.select c.args.low c.args.high c.args.gates.now.items g1 g2 g3 l1 c.in_ok-rest.rest c.in_ok-neither.neither c.in_ok-chosen.ensures.made rest neither
