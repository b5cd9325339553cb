-- The claims of one input more were added.
use Rattle.std.proofs.Common.{ap, sym, ◌∙◌, arith, length}
use Rattle.std.proofs.lemmas.Bool.{false≢true}
use Rattle.circuits.specs.Literals.{bit}
use Rattle.sim_signature.specs.Sightings.{first_of}
use Rattle.sim_signature.proofs.Adding.{Adds-fewer, Adds-next, Adds-skip}
use Rattle.sim_signature.proofs.Wanted.{inputs_below}
use Rattle.sim_signature.proofs.claims.claims.Goals.{then-hunted-i+in_ok-add_claims, else-hunted-i}
use Rattle.sim_signature.proofs.claims.claims.Goals as goal

pub loop-i-preserved : goal.loop-i-preserved
loop-i-preserved c =
    elim c.if-hunted-i.branch [
      | then-hunted-i+in_ok-add_claims w ↦ rw w.shapes-is (Adds-next first_of c.loop-i.invariant w.in_ok-add_claims.ensures (λ shape wanted first. (wanted, first)))
      | else-hunted-i w ↦ rw w.shapes-is (Adds-skip first_of c.loop-i.invariant (λ shape wanted first. false≢true (sym w.if-hunted-i.false ∙ (ap (bit c.args.hunted.now) (sym first) ∙ wanted.first))))
    ]

pub returns : goal.returns
returns c =
    let n = length c.args.hunted.now in
    Adds-fewer c.loop-i.invariant (λ shape wanted. (wanted, omega (arith, (inputs_below n shape wanted.placed).0, c.loop-i-test.false)))
