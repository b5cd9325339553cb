-- One claim more was hunted.
use Rattle.std.proofs.Common.{◌≡◌, ◌<◌, ◌≤◌, ◌∷◌, ◌++◌, [], inl, inr, List, length, get_or, sym, subst}
use Rattle.std.specs.List.{Contains}
use Rattle.std.proofs.lemmas.List.{take_all}
use Rattle.std.proofs.lemmas.List.Elements.{All-push, Contains-append_left, Contains-push}
use Rattle.claim_core.specs.declared.claims.Shape.{Shape}
use Rattle.claim_core.specs.declared.claims.Shape.TheVariants.{Up}
use Rattle.claim_core.specs.Claims.{IsPlaced}
use Rattle.sim_signature.specs.Signatures.{Signed}
use Rattle.sim_signature.specs.Sightings.{Hunted}
use Rattle.sim_signature.proofs.Adding.{Adds-then}
use Rattle.sim_signature.proofs.Hunts.{AreLeft-more, one_claim_more}
use Rattle.sim_signature.proofs.hunting.sight_all.Goals.{then-not-branch+in_ok-push, else-not-branch}
use Rattle.sim_signature.proofs.hunting.sight_all.Goals as goal

pub loop-shape-preserved : goal.loop-shape-preserved
loop-shape-preserved c =
    let s : Signed = c.args.signatures.now in
    let claims : List Shape = c.args.claims.now in
    let k = c.loop-shape.shape-index in
    let shape = get_or claims k (Up 0) in
    let left : List Shape = c.loop-shape.left.items in
    let old = c.loop-shape.sightings.items in
    let new = c.sight.new.sightings.items in
    let inv = c.loop-shape.invariant in
    let here : k < length claims = c.loop-shape-test.true in
    let one : Hunted s c.args.output (λ other. other ≡ shape) old new = c.in_ok-sight.ensures.hunted in
    let all = Adds-then inv.1 one (λ other wanted. elim (one_claim_more claims k (Up 0) other here wanted.0) [ inl before ↦ inl (before, wanted.1, wanted.2) | inr last ↦ inr (last, wanted.1, wanted.2) ]) in
    elim c.if-not-branch.branch [
      | then-not-branch+in_ok-push w ↦ rw (w.left-is, w.in_ok-push.ensures.items) (All-push (IsPlaced s.net.inputs) left shape inv.0 (c.requires.placed k (Up 0) here), all, AreLeft-more claims k (Up 0) old new left (left ++ shape ∷ []) here inv.2 one.kept (Contains-append_left left (shape ∷ [])) (inl (Contains-push left shape)))
      | else-not-branch w ↦ rw w.left-is (inv.0, all, AreLeft-more claims k (Up 0) old new left left here inv.2 one.kept (λ other still. still) (inr (c.in_ok-sight.ensures.sighted w.if-not-branch.false)))
    ]

pub returns-clause-left : goal.returns-clause-left
returns-clause-left c shape wanted =
    let claims : List Shape = c.args.claims.now in
    let past : length claims ≤ c.loop-shape.shape-index = c.loop-shape-test.false in
    c.loop-shape.invariant.2 shape (subst (λ front. Contains front shape) (sym (take_all c.loop-shape.shape-index claims past)) wanted)
