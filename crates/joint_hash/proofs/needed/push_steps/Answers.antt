-- The clauses of two gates of the cones belong to these.
use Rattle.std.proofs.Common.{ℕ, List, ◌++◌, ◌<◌, Contains, length, sym, subst, ap, ◌∙◌}
use Rattle.std.proofs.lemmas.List.Elements.{All-append}
use Rattle.claim_core.specs.Formulas.{query_clauses}
use Rattle.joint_hash.specs.Chains.{AreListed}
use Rattle.joint_hash.proofs.ListedLemmas.{between_listed}
use Rattle.joint_hash.proofs.needed.push_steps.Goals as goal

pub returns : goal.returns
returns c =
    let cones = c.args.cones.now in
    let count = length (query_clauses cones.graphs cones.query) in
    let ids = c.args.ids.now.items in
    let steps = c.in_ok-steps.steps.items in
    let is_gate = rw c.in-Some.is at c.gate_of.ensures in
    let is_copy = rw c.in-Some-gate_of.is at c.gate_of-2.ensures in
    let listed = between_listed cones.graphs cones.query cones.ids count c.in-Some.gate c.in-Some-gate_of.copy steps c.ids-ids.ensures.are is_gate is_copy c.in_ok-steps.ensures in
    subst (AreListed count cones.ids) (sym (c.in_ok-extend_from_slice.ensures.items ∙ ap (λ (more : List ℕ). ids ++ more) c.deref.ensures.value)) (All-append (λ k. k < count → Contains cones.ids k) ids steps c.requires listed)
