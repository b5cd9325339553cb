-- Where a variable is free, there is room; and what the trail keeps.
use Rattle.std.proofs.Common.{◌≡◌, ◌+◌, ◌<◌, cond, is_none, true, false, length, Some, slice_set, sym, subst, ap, ◌∙◌, arith}
use Rattle.std.proofs.lemmas.List.{length-set}
use Rattle.cnf_core.specs.Clauses.{opposite, variable_of}
use Rattle.trail_core.specs.Trails.{IsFree, Trailing}
use Rattle.trail_core.specs.Places.{with_true}
use Rattle.trail_core.proofs.TrailLemmas.{fewer, kept_as, kept_more}
use Rattle.trail_core.proofs.ValueLemmas.{values_more}
use Rattle.trail_core.proofs.trail.Trail.push.Goals as goal
use Rattle.circuits.proofs.Lists.{given_back}

pub put-requires-clause-room : goal.put-requires-clause-room
put-requires-clause-room c =
    let old = c.self.inside in
    let free = subst (λ (t : Trailing). IsFree t c.args.entry.literal) (sym c.self.view_is) c.requires.free in
    let few = fewer (record { variables = length old.places.items; entries = old.entries.items; level = old.level; walked = old.walked }) c.self.invariant.trail c.args.entry.literal free in
    omega (arith, few, c.self.invariant.room, old.entries.ok.0)

pub invariant_of-self : goal.invariant_of-self
invariant_of-self c =
    let old = c.self.inside in
    let entry = c.args.entry in
    let free = subst (λ (t : Trailing). IsFree t entry.literal) (sym c.self.view_is) c.requires.free in
    let raised = subst (λ (t : Trailing). entry.level ≡ t.level + cond (is_none entry.reason) 1 0) (sym c.self.view_is) c.requires.level in
    let v = variable_of entry.literal in
    let there = Some old.entries.len in
    let written : c.put.new.places ≡ slice_set old.places.items v there = c.put.ensures.places ∙ ap (λ ps. slice_set ps v there) c.deref_mut.ensures.value in
    let same : length c.put.new.places ≡ length c.deref_mut.result.now = ap length c.put.ensures.places ∙ length-set c.deref_mut.result.now v there in
    let back = given_back old.places.len old.places.items c.deref_mut.result.now c.put.new.places c.deref_mut.ensures.value same (omega (arith, old.places.ok.0)) in
    let values_same : length c.make_true.new.values ≡ length c.deref_mut-2.result.now = ap length c.make_true.ensures ∙ (length-set (slice_set c.deref_mut-2.result.now entry.literal.0 (Some true)) (opposite entry.literal).0 (Some false) ∙ length-set c.deref_mut-2.result.now entry.literal.0 (Some true)) in
    let values_back = given_back old.values.len old.values.items c.deref_mut-2.result.now c.make_true.new.values c.deref_mut-2.ensures.value values_same (omega (arith, old.values.ok.0)) in
    let values_written : c.make_true.new.values ≡ with_true entry.literal old.values.items = c.make_true.ensures ∙ ap (with_true entry.literal) c.deref_mut-2.ensures.value in
    let valued = values_more (length old.places.items) old.entries.items old.values.items entry c.self.invariant.valued free.known free.unassigned in
    let more = kept_more old.entries c.put.new.entries old.places.items old.values.items (with_true entry.literal old.values.items) old.level old.walked old.entries.len entry c.self.invariant free.known free.unassigned raised (omega (arith, old.entries.ok.0)) c.put.ensures.entries c.put.ensures.capacity valued in
    kept_as (back ∙ written) (values_back ∙ values_written) more

pub make_true-requires-clause-known : goal.make_true-requires-clause-known
make_true-requires-clause-known c =
    let free = subst (λ (t : Trailing). IsFree t c.args.entry.literal) (sym c.self.view_is) c.requires.free in
    omega (arith, free.known, c.self.invariant.valued.size, ap length c.deref_mut-2.ensures.value)

pub make_true-requires-clause-opposite : goal.make_true-requires-clause-opposite
make_true-requires-clause-opposite c =
    let free = subst (λ (t : Trailing). IsFree t c.args.entry.literal) (sym c.self.view_is) c.requires.free in
    omega (arith, free.known, c.self.invariant.valued.size, ap length c.deref_mut-2.ensures.value)

pub returns-clause-most : goal.returns-clause-most
returns-clause-most c =
    let old = c.self.inside in
    let free = subst (λ (t : Trailing). IsFree t c.args.entry.literal) (sym c.self.view_is) c.requires.free in
    let few = fewer (record { variables = length old.places.items; entries = old.entries.items; level = old.level; walked = old.walked }) c.self.invariant.trail c.args.entry.literal free in
    subst (λ (t : Trailing). length t.entries < t.variables) c.self.view_is few
