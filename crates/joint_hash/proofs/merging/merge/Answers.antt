use Rattle.std.proofs.Common.{◌↔◌, List, ℕ, Contains, sym, subst}
use Rattle.claim_core.specs.ConeClauses.{IsConeId}
use Rattle.joint_hash.proofs.merging.merge.Goals as goal

pub merge_ids-requires-clause-cones : goal.merge_ids-requires-clause-cones
merge_ids-requires-clause-cones c =
    let cones = c.args.cones.now in
    subst (λ (ids : List ℕ). (id : ℕ) → (Contains ids id ↔ IsConeId cones.graphs cones.query id)) (sym c.ids.ensures.value) c.ids.ensures.are.cones
