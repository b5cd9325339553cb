-- All are present, or those of marked gates.
use Rattle.std.proofs.Common.{length, sym, ap, ◌∙◌}
use Rattle.circuits.specs.Netlists.{Net}
use Rattle.query_core.specs.ClaimClauses.{PartialQuery}
use Rattle.query_core.proofs.ClaimClauseLemmas.{all_present, marks_count}
use Rattle.query_core.proofs.claim_base.ClaimBase.are_present.Goals as goal

pub returns-then-self : goal.returns-then-self
returns-then-self c =
    sym (all_present c.args.self.now c.args.ids.now (ap (λ (t : PartialQuery). t.whole) (sym c.self.view_is) ∙ c.if-self.true))

pub are_of_marked-requires-clause-marks : goal.are_of_marked-requires-clause-marks
are_of_marked-requires-clause-marks c =
    let inside = c.self.inside in
    marks_count inside.graphs.now inside.query inside.left inside.right inside.cone.gates.items inside.cone.marked inside.whole c.self.invariant ∙ sym (ap length c.gates.ensures.value ∙ ap (λ (n : Net). length n.gates) c.side.ensures)
