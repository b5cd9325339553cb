-- One input is marked and inverted.
use Rattle.std.proofs.Common.{◌+◌, ◌≡◌, [], true, false, not, ap, subst, ◌∙◌, arith, get_or, set}
use Rattle.std.proofs.lemmas.List.{get_or-set_other, get_or-set_same}
use Rattle.circuits.specs.Literals.{bit}
use Rattle.sim_signature.specs.Blocks.{block_bit}
use Rattle.circuits.proofs.Expansions.{differ_true}
use Rattle.sim_signature.proofs.gates.flip.Goals as goal

pub returns-clause-flipped : goal.returns-clause-flipped
returns-clause-flipped c =
    let i = c.args.input in
    let inputs = c.args.inputs.now in
    let after = c.args.after.now in
    let marks = c.args.marks.now in
    let block = c.signed_lanes.result in
    let place : i + 1 ≡ 1 + i = omega arith in
    record {
      marked = subst (λ s. bit (set marks (i + 1) true) s ≡ true) place (get_or-set_same marks (i + 1) true false (omega (arith, c.requires.input, c.requires.marks_room)));
      others = λ s less apart. get_or-set_other marks (i + 1) s true false (λ e. apart (e ∙ place)) ∙ c.requires.clear s less;
      bits = λ w v h l. subst (λ s. block_bit w v (get_or (set after (i + 1) block) s []) ≡ not (block_bit w v (get_or inputs i []))) place (ap (block_bit w v) (get_or-set_same after (i + 1) block [] (omega (arith, c.requires.input, c.requires.after_room))) ∙ (c.signed_lanes.ensures.bits w v h l ∙ differ_true (block_bit w v (get_or inputs i []))));
    }
