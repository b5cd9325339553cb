use Rattle.std.proofs.Common.{◌≡◌, ℕ, ◌+◌, ◌++◌, ◌<◌, List, drop, length, map, All, Contains, slice_index_or, sym, ap, subst, ◌∙◌, arith, ltb-true}
use Rattle.std.proofs.lemmas.Bool.{false≢true, lt-ltb}
use Rattle.std.proofs.lemmas.List.Elements.{All-push, Contains-get_or}
use Rattle.cnf_core.specs.declared.literal.SatLit.{SatLit}
use Rattle.cnf_core.specs.Clauses.{clause_at, opposite}
use Rattle.cnf_core.specs.Derivations.{clauses_of, effect_of, hint_fault}
use Rattle.claim_core.specs.Formulas.{query_clauses}
use Rattle.joint_hash.proofs.HintLemmas.{IsOnTheWay, hint_ends, not_hinted, way_ends, way_makes, way_neither, way_there}
use Rattle.joint_hash.proofs.hinting.hints_among.Goals as goal
use Rattle.joint_hash.proofs.hinting.hints_among.Goals.{in-Makes+in_ok-make-in-Makes+in_ok-push-in-Makes, in-Neither}

-- the same way, for the variables after a turn
moved : (clauses : List (List SatLit)) (start : List SatLit) (all rest : List ℕ) {new made : List SatLit} {later hints : List ℕ} → new ≡ made → later ≡ hints → IsOnTheWay clauses start made hints all rest → IsOnTheWay clauses start new later all rest
moved clauses start all rest {new} {made} {later} {hints} e f way =
    subst (λ (m : List SatLit). IsOnTheWay clauses start m later all rest) (sym e) (subst (λ (h : List ℕ). IsOnTheWay clauses start made h all rest) (sym f) way)

pub loop-id-init : goal.loop-id-init
loop-id-init c =
    let clauses = query_clauses c.args.cones.now.graphs c.args.cones.now.query ++ clauses_of c.args.lines.now in
    let start = map opposite c.args.clause.now in
    let made : c.in_ok-made.made ≡ start = c.in_ok-made.ensures in
    let ids = c.args.ids.now in
    subst (λ (m : List SatLit). IsOnTheWay clauses start m c.new-hints.result ids ids) (sym made) (subst (λ (h : List ℕ). IsOnTheWay clauses start start h ids ids) (sym c.new-hints.ensures) (record { hinted = not_hinted clauses start; leads = λ lead. lead; among = λ k d within. absurd (omega (arith, within)) }))

pub effect_at-requires-clause-there : goal.effect_at-requires-clause-there
effect_at-requires-clause-there c =
    ltb-true (slice_index_or c.args.ids.now c.loop-id.id-index 0) (length (query_clauses c.args.cones.now.graphs c.args.cones.now.query ++ clauses_of c.args.lines.now)) (sym c.is_there.ensures ∙ c.if-not-is_there.false)

pub loop-id-preserved : goal.loop-id-preserved
loop-id-preserved c =
    let clauses = query_clauses c.args.cones.now.graphs c.args.cones.now.query ++ clauses_of c.args.lines.now in
    let start = map opposite c.args.clause.now in
    let ids = c.args.ids.now in
    let i = c.loop-id.id-index in
    let id = slice_index_or ids i 0 in
    let made = c.loop-id.made in
    let hints = c.loop-id.hints in
    let rest = drop (i + 1) ids in
    let there : id < length clauses = ltb-true id (length clauses) (sym c.is_there.ensures ∙ c.if-not-is_there.false) in
    let effect : effect_of made (clause_at clauses id) ≡ c.effect_at.result = sym c.effect_at.ensures in
    elim c.match-effect_at.branch [
      | in-Makes+in_ok-make-in-Makes+in_ok-push-in-Makes w ↦
          moved clauses start ids rest (w.made-is ∙ w.in_ok-make-in-Makes.ensures) (w.hints-is ∙ w.in_ok-push-in-Makes.ensures.ok) (way_makes clauses start made hints ids i w.in-Makes.literal c.loop-id-test.true there c.loop-id.invariant (effect ∙ w.in-Makes.is))
      | in-Neither w ↦ moved clauses start ids rest w.made-is w.hints-is (way_neither clauses start made hints ids i c.loop-id-test.true c.loop-id.invariant (effect ∙ w.in-Neither.is))
    ]

pub returns-then-not-is_there-clause-found : goal.returns-then-not-is_there-clause-found
returns-then-not-is_there-clause-found c lead =
    let clauses = query_clauses c.args.cones.now.graphs c.args.cones.now.query ++ clauses_of c.args.lines.now in
    let ids = c.args.ids.now in
    let i = c.loop-id.id-index in
    let there = way_there clauses (map opposite c.args.clause.now) c.loop-id.made c.loop-id.hints ids i c.loop-id-test.true c.loop-id.invariant lead in
    absurd (false≢true (sym (sym c.is_there.ensures ∙ c.if-not-is_there.true) ∙ lt-ltb (slice_index_or ids i 0) (length clauses) there))

pub returns-in-Conflict-clause-derive : goal.returns-in-Conflict-clause-derive
returns-in-Conflict-clause-derive c =
    let clauses = query_clauses c.args.cones.now.graphs c.args.cones.now.query ++ clauses_of c.args.lines.now in
    let start = map opposite c.args.clause.now in
    let ids = c.args.ids.now in
    let i = c.loop-id.id-index in
    let id = slice_index_or ids i 0 in
    let made = c.loop-id.made in
    let effect : effect_of made (clause_at clauses id) ≡ c.effect_at.result = sym c.effect_at.ensures in
    let there : id < length clauses = ltb-true id (length clauses) (sym c.is_there.ensures ∙ c.if-not-is_there.false) in
    ap (hint_fault clauses start) c.in_ok-push-in-Conflict.ensures.ok ∙ hint_ends clauses start made c.loop-id.hints id c.loop-id.invariant.hinted there (effect ∙ c.in-Conflict.is)

pub returns-in-Conflict-clause-among : goal.returns-in-Conflict-clause-among
returns-in-Conflict-clause-among c =
    let ids = c.args.ids.now in
    let i = c.loop-id.id-index in
    subst (All (Contains ids)) (sym c.in_ok-push-in-Conflict.ensures.ok) (All-push (Contains ids) c.loop-id.hints (slice_index_or ids i 0) c.loop-id.invariant.among (Contains-get_or ids i 0 c.loop-id-test.true))

pub returns-clause-found : goal.returns-clause-found
returns-clause-found c lead =
    absurd (way_ends (query_clauses c.args.cones.now.graphs c.args.cones.now.query ++ clauses_of c.args.lines.now) (map opposite c.args.clause.now) c.loop-id.made c.loop-id.hints c.args.ids.now c.loop-id.id-index c.loop-id-test.false c.loop-id.invariant lead)
