-- The value is that of the literal's number.
use Rattle.std.proofs.Common.{◌≤◌, ◌<◌, length, None, sym, ap, ◌∙◌, arith}
use Rattle.std.proofs.lemmas.List.{get_or_default}
use Rattle.cnf_core.specs.Clauses.{variable_of}
use Rattle.trail_core.specs.Trails.{Trailing, literals, value_in}
use Rattle.trail_core.proofs.ValueLemmas.{value_past}
use Rattle.trail_core.proofs.trail.Trail.value.Goals as goal

pub returns-then-lit-len : goal.returns-then-lit-len
returns-then-lit-len c =
    let old = c.self.inside in
    let trail : Trailing = record { variables = length old.places.items; entries = old.entries.items; level = old.level; walked = old.walked } in
    let past : length old.places.items ≤ variable_of c.args.lit = omega (arith, c.if-lit-len.true, c.len.ensures, old.values.ok.0, c.self.invariant.valued.size) in
    sym (value_past trail c.self.invariant.trail c.args.lit past) ∙ ap (λ (t : Trailing). value_in (literals t.entries) c.args.lit) c.self.view_is

pub returns : goal.returns
returns c =
    let old = c.self.inside in
    let l = c.args.lit in
    let within : l.0 < length old.values.items = omega (arith, c.if-lit-len.false, c.len.ensures, old.values.ok.0) in
    let there = c.index.ensures ∙ get_or_default old.values.items l.0 c.index.result.now None within in
    there ∙ (c.self.invariant.valued.each l.0 within ∙ ap (λ (t : Trailing). value_in (literals t.entries) l) c.self.view_is)
