-- No variable is assigned twice, so there are at most as many literals as variables.
use Rattle.std.proofs.Common.{◌^◌, ◌<◌, ◌≤◌, length, subst, arith}
use Rattle.trail_core.specs.Trails.{Trailing}
use Rattle.trail_core.proofs.TrailLemmas.{at_most}
use Rattle.trail_core.proofs.trail.Trail.len.Goals as goal

pub returns-clause-most : goal.returns-clause-most
returns-clause-most c =
    let old = c.self.inside in
    let few = at_most (record { variables = length old.places.items; entries = old.entries.items; level = old.level; walked = old.walked }) c.self.invariant.trail in
    subst (λ (t : Trailing). c.len.result ≤ t.variables) c.self.view_is (omega (arith, few, c.len.ensures, old.entries.ok.0))

pub returns-clause-small : goal.returns-clause-small
returns-clause-small c =
    let old = c.self.inside in
    let few : length old.places.items < 2 ^ 63 = omega (arith, old.places.ok.0, old.places.ok.1, old.places.small) in
    subst (λ (t : Trailing). t.variables < 2 ^ 63) c.self.view_is few
