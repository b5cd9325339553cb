-- Each place is that of its variable.
use Rattle.std.proofs.Common.{◌<◌, None, length, sym, subst, ◌∙◌, arith}
use Rattle.std.proofs.lemmas.List.{get_or_default}
use Rattle.trail_core.specs.Trails.{IsPlace, Trailing}
use Rattle.trail_core.proofs.trail.Trail.place.Goals as goal

pub returns-in-Some-clause-assigned : goal.returns-in-Some-clause-assigned
returns-in-Some-clause-assigned c =
    let old = c.self.inside in
    let v = c.args.variable in
    let p = c.in-Some.place in
    let below : v < length old.places.items = omega (arith, c.if-variable-len.false, c.len.ensures, old.places.ok.0) in
    let told = old.places.items in
    let there = get_or_default told v None c.index.result.now below ∙ (sym c.index.ensures ∙ c.in-Some.is) in
    subst (λ (t : Trailing). IsPlace t.entries v p) c.self.view_is (c.self.invariant.told v p below there)
