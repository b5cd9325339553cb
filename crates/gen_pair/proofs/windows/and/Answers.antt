use Rattle.std.proofs.Common.{◌≡◌, ℕ, ◌+◌, length, List, [], ◌∷◌, ◌++◌, ap, ◌∙◌, arith}
use Rattle.circuits.specs.declared.netlist.Gate.{Gate}
use Rattle.circuits.specs.Literals.{plain_literal}
use Rattle.gen_pair.specs.Mixing.{with_and}
use Rattle.gen_pair.proofs.windows.and.Goals as goal

pub returns-clause-made : goal.returns-clause-made
unfolding with_and
returns-clause-made c =
    let count : c.len.result ≡ length c.args.gates.now.items = omega (arith, c.len.ensures, c.args.gates.now.ok.0) in
    let gate : Gate = record { a = c.args.a; b = c.args.b } in
    ap (λ (gates : List Gate). (gates, plain_literal (65 + c.len.result))) c.in_ok-push.ensures.items
    ∙ ap (λ (n : ℕ). (c.args.gates.now.items ++ gate ∷ [], plain_literal (65 + n))) count
