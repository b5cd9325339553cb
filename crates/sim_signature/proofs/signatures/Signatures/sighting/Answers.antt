-- The two changes are those of the shape.
use Rattle.std.proofs.Common.{sym, subst}
use Rattle.sim_signature.specs.declared.change.Change.{Change}
use Rattle.sim_signature.specs.Changes.{AreEnds}
use Rattle.sim_signature.proofs.Ends.{ends, ends_back}
use Rattle.sim_signature.proofs.signatures.Signatures.sighting.Goals as goal

pub fall-requires-clause-ends : goal.fall-requires-clause-ends
fall-requires-clause-ends c =
    let n = c.args.self.now.net.inputs in
    subst (λ (e : Change × Change). AreEnds n c.args.shape e.0 e.1) (sym c.ends_of-one.ensures) (ends n c.args.shape c.requires.placed)

pub fall-requires-in-None-clause-ends : goal.fall-requires-in-None-clause-ends
fall-requires-in-None-clause-ends c =
    let n = c.args.self.now.net.inputs in
    subst (λ (e : Change × Change). AreEnds n c.args.shape e.1 e.0) (sym c.ends_of-one.ensures) (ends_back n c.args.shape c.requires.placed)
