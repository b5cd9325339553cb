-- A vector is noted where one is seen.
use Rattle.std.proofs.Common.{◌≡◌, refl, subst}
use Rattle.std.specs.Prelude.{IfSome}
use Rattle.std.proofs.lemmas.List.Quantifiers.{Any-push}
use Rattle.claim_core.specs.Claims.{BreaksShape}
use Rattle.sim_signature.specs.declared.sighting.Sighting.{Sighting}
use Rattle.sim_signature.proofs.Hunts.{Hunted-none, Hunted-push}
use Rattle.sim_signature.proofs.Signing.{all-tried, nothing}
use Rattle.sim_signature.proofs.hunting.sight.Goals as goal

pub returns-in_default-clause-hunted : goal.returns-in_default-clause-hunted
returns-in_default-clause-hunted c =
    let s = c.args.signatures.now in
    let shape = c.args.shape in
    Hunted-none s c.args.output shape c.args.sightings.now.items (λ all fails. nothing c.in_ok-vector.field-0 c.in_default.is (c.in_ok-vector.ensures.seen fails.0 (all-tried s shape fails.0 c.requires.placed all fails.1.inputs) fails.1))

pub returns-clause-hunted : goal.returns-clause-hunted
returns-clause-hunted c =
    let s = c.args.signatures.now in
    let sighting : Sighting = record { shape = c.args.shape; vector = c.in-Some.vector } in
    let breaks = subst (λ found. IfSome found (BreaksShape s.net c.args.output c.args.shape)) c.in-Some.is c.in_ok-vector.ensures.breaks in
    rw c.in_ok-push.ensures.items (Hunted-push s c.args.output sighting c.args.sightings.now.items (c.requires.placed, breaks))

pub returns-clause-sighted : goal.returns-clause-sighted
returns-clause-sighted c is =
    rw c.in_ok-push.ensures.items (Any-push (λ (sighting : Sighting). sighting.shape ≡ c.args.shape) c.args.sightings.now.items (record { shape = c.args.shape; vector = c.in-Some.vector }) refl)
