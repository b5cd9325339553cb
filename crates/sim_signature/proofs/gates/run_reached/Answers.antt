-- One gate more has its block after the change.
use Rattle.std.proofs.Common.{ℕ, ◌+◌, ◌≡◌, ◌<◌, Bool, List, ap, subst, refl, ◌∙◌, arith, get_or, length}
use Rattle.circuits.specs.declared.netlist.Gate.{Gate}
use Rattle.circuits.specs.Netlists.{Net}
use Rattle.sim_signature.specs.Blocks.{IsEvaluated, IsRunOrKept, block_after, block_bit}
use Rattle.sim_signature.proofs.Evaluating.{IsEvaluated-more, bit-after}
use Rattle.sim_signature.proofs.gates.run_reached.Goals as goal

pub loop-t-init : goal.loop-t-init
loop-t-init c = (λ w v x y h l len same_len known start s less. start s (omega (arith, less)), refl, refl)

pub loop-t-preserved : goal.loop-t-preserved
loop-t-preserved c =
    let net : Net = c.args.graph.now in
    let before : List (List ℕ) = c.args.before.now in
    let old : List (List ℕ) = c.loop-t.after in
    let old_marks : List Bool = c.loop-t.marks in
    let after : List (List ℕ) = c.run_if_reached.new.after in
    let marks : List Bool = c.run_if_reached.new.marks in
    let step = c.run_if_reached.ensures in
    let inv = c.loop-t.invariant in
    let t = c.loop-t.t in
    let none : Gate = record { a = record { 0 = 0 }; b = record { 0 = 0 } } in
    let gates : c.gates-gates.result.now ≡ net.gates = c.gates-gates.ensures.value in
    let here : t < length net.gates = omega (arith, c.loop-t-test.true, ap length gates) in
    let place : c.inputs.result + 1 + t ≡ 1 + net.inputs + t = omega (arith, c.inputs.ensures.value) in (
      λ w v x y h l len same_len known start.
          let evaluated = inv.0 w v x y h l len same_len known start in
          let run : IsRunOrKept (get_or net.gates t none) (1 + net.inputs + t) before old after old_marks marks =
          subst (λ (gates : List Gate). IsRunOrKept (get_or gates t none) (1 + net.inputs + t) before old after old_marks marks) gates (subst (λ s. IsRunOrKept (get_or c.gates-gates.result.now t none) s before old after old_marks marks) place step.place) in
          let right = bit-after net x y t w v none before old after old_marks marks h l c.inputs.ensures.graph len same_len here known evaluated run in
          let more = IsEvaluated-more net y (1 + net.inputs + t) (λ s. block_bit w v (block_after before old old_marks s)) (λ s. block_bit w v (block_after before after marks s)) (λ s apart. ap (block_bit w v) (step.others s (λ e. apart (e ∙ place)))) right evaluated in
          let next : 1 + net.inputs + t + 1 ≡ 1 + net.inputs + (t + 1) = omega arith in
          subst (λ (end : ℕ). IsEvaluated net y end (λ s. block_bit w v (block_after before after marks s))) next more,
      step.after_room ∙ inv.1,
      step.marks_room ∙ inv.2,
    )

pub returns-clause-blocks : goal.returns-clause-blocks
returns-clause-blocks c w v x y h l len same_len known start s less =
    c.loop-t.invariant.0 w v x y h l len same_len known start s (omega (arith, less, c.loop-t-test.false, ap length c.gates-gates.ensures.value))
