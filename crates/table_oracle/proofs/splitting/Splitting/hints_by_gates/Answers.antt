use Rattle.std.proofs.Common.{◌≡◌, ℕ, ◌<◌, Bool, List, ◌++◌, length, map, sym, ap, subst, ◌∙◌, arith}
use Rattle.cnf_core.specs.declared.literal.SatLit.{SatLit}
use Rattle.cnf_core.specs.Clauses.{clause_at, opposite}
use Rattle.cnf_core.specs.Derivations.{effect_of, hint_fault}
use Rattle.claim_core.specs.Formulas.{query_clauses}
use Rattle.table_oracle.proofs.ExcludingLemmas.{start}
use Rattle.table_oracle.proofs.HintLemmas.{IsUnderWay, begun_by, gates_conflict, gates_make, gates_pass, gates_start}
use Rattle.table_oracle.proofs.WholeLemmas.{not_unmet}
use Rattle.table_oracle.proofs.splitting.Splitting.hints_by_gates.Goals as goal
use Rattle.table_oracle.proofs.splitting.Splitting.hints_by_gates.Goals.{in-Makes+in_ok-make-in-Makes+in_ok-push-in-Makes, in-Neither}

pub loop-id-init : goal.loop-id-init
loop-id-init c =
    let base = c.args.self.now.base in
    let front = query_clauses base.graphs base.query in
    let bits = c.args.bits.now in
    let made : c.in_ok-made.made ≡ start bits = c.in_ok-made.ensures ∙ ap (map opposite) (c.deref.ensures.value ∙ c.in_ok-clause.ensures) in
    subst (λ (m : List SatLit). IsUnderWay front bits m c.new-hints.result 0) (sym made) (subst (λ (h : List ℕ). IsUnderWay front bits (start bits) h 0) (sym c.new-hints.ensures) (gates_start front bits))

pub returns-in-Conflict : goal.returns-in-Conflict
returns-in-Conflict c lines =
    let base = c.args.self.now.base in
    let front = query_clauses base.graphs base.query in
    let bits = c.args.bits.now in
    let made = c.loop-id.made in
    let id = c.loop-id.id in
    let there : id < length front = omega (arith, c.loop-id-test.true, c.count-id-end.ensures.value) in
    let effect : effect_of made (clause_at front id) ≡ c.effect_of.result = ap (effect_of made) (sym (c.literals.ensures ∙ c.clause-in-loop-id.ensures.value)) ∙ sym c.effect_of.ensures in
    ap (hint_fault (front ++ lines) (start bits)) c.in_ok-push-in-Conflict.ensures.ok ∙ gates_conflict front bits made c.loop-id.hints id c.loop-id.invariant id there (effect ∙ c.in-Conflict.is) lines

pub loop-id-preserved : goal.loop-id-preserved
loop-id-preserved c =
    let base = c.args.self.now.base in
    let front = query_clauses base.graphs base.query in
    let bits = c.args.bits.now in
    let made = c.loop-id.made in
    let hints = c.loop-id.hints in
    let id = c.loop-id.id in
    let is = c.requires.splitting in
    let there : id < length front = omega (arith, c.loop-id-test.true, c.count-id-end.ensures.value) in
    let effect : effect_of made (clause_at front id) ≡ c.effect_of.result = ap (effect_of made) (sym (c.literals.ensures ∙ c.clause-in-loop-id.ensures.value)) ∙ sym c.effect_of.ensures in
    elim c.match-effect_of.branch [
      | in-Makes+in_ok-make-in-Makes+in_ok-push-in-Makes w ↦
          under_way_at (w.made-is ∙ w.in_ok-make-in-Makes.ensures) (w.hints-is ∙ w.in_ok-push-in-Makes.ensures.ok) (gates_make front bits made hints id c.loop-id.invariant there w.in-Makes.literal (effect ∙ w.in-Makes.is))
      | in-Neither w ↦
          under_way_at w.made-is w.hints-is (gates_pass base.graphs base.query bits made hints id is.first is.second is.fits (c.requires.all ∙ is.inputs) c.loop-id.invariant there (effect ∙ w.in-Neither.is))
    ]
  where
    under_way_at : {front : List (List SatLit)} {bits : List Bool} {new made : List SatLit} {later hints : List ℕ} {count : ℕ} → new ≡ made → later ≡ hints → IsUnderWay front bits made hints count → IsUnderWay front bits new later count
    under_way_at {front} {bits} {new} {made} {later} {hints} {count} e f way =
        subst (λ (m : List SatLit). IsUnderWay front bits m later count) (sym e) (subst (λ (h : List ℕ). IsUnderWay front bits made h count) (sym f) way)

pub unreachable-requires : goal.unreachable-requires
unreachable-requires c =
    let base = c.args.self.now.base in
    let bits = c.args.bits.now in
    let is = c.requires.splitting in
    let way = c.loop-id.invariant in
    not_unmet base.graphs base.query c.loop-id.made (begun_by base.graphs base.query bits c.loop-id.made c.loop-id.hints c.loop-id.id is.first is.second is.fits (c.requires.all ∙ is.inputs) way) (λ k below. way.held k (omega (arith, below, c.loop-id-test.false, c.count-id-end.ensures.value))) is.unmet
