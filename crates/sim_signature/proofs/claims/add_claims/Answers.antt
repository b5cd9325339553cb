-- The swaps of one pair more were added.
use Rattle.std.proofs.Common.{ap, sym, ◌∙◌, arith, length}
use Rattle.std.proofs.lemmas.Bool.{false≢true}
use Rattle.circuits.specs.Literals.{bit}
use Rattle.sim_signature.specs.Sightings.{last_of}
use Rattle.sim_signature.proofs.Adding.{Adds-fewer, Adds-next, Adds-skip}
use Rattle.sim_signature.proofs.Wanted.{input-added, inputs_below}
use Rattle.sim_signature.proofs.claims.add_claims.Goals.{then-hunted-j+in_ok-add_swaps, else-hunted-j}
use Rattle.sim_signature.proofs.claims.add_claims.Goals as goal

pub loop-j-init : goal.loop-j-init
loop-j-init c = input-added c.args.hunted.now c.args.i c.requires.input c.in_ok-extend_from_slice.ensures.items

pub loop-j-preserved : goal.loop-j-preserved
loop-j-preserved c =
    let hunted = c.args.hunted.now in
    elim c.if-hunted-j.branch [
      | then-hunted-j+in_ok-add_swaps w ↦ rw w.shapes-is (Adds-next last_of c.loop-j.invariant (w.in_ok-add_swaps.ensures (length hunted) c.loop-j-test.true) (λ shape wanted last. (wanted.0.placed, wanted.1, last)))
      | else-hunted-j w ↦ rw w.shapes-is (Adds-skip last_of c.loop-j.invariant (λ shape wanted last. false≢true (sym w.if-hunted-j.false ∙ (ap (bit hunted) (sym last) ∙ wanted.0.last))))
    ]

pub returns : goal.returns
returns c =
    let n = length c.args.hunted.now in
    Adds-fewer c.loop-j.invariant (λ shape wanted. (wanted, omega (arith, (inputs_below n shape wanted.0.placed).1, c.loop-j-test.false)))
