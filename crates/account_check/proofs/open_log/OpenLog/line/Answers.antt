-- One line more is derived, and what its answer says.
use Rattle.std.proofs.Common.{◌≡◌, [], ◌∷◌, ◌++◌, Bool, true, Result, Ok, sym, ap, subst, ◌∙◌}
use Rattle.std.specs.List.{list_any}
use Rattle.cnf_core.specs.Derivations.{is_empty}
use Rattle.claim_core.specs.Formulas.{Asking, IsRefuted}
use Rattle.refute_check.specs.Refutations.{Refuting}
use Rattle.account_check.specs.declared.reject.RecordStop.{RecordStop}
use Rattle.account_check.specs.Proofs.{IsLogSoFar, LogSoFar}
use Rattle.account_check.proofs.LogLemmas.{log_more, no_fault, refuted_by}
use Rattle.account_check.proofs.open_log.OpenLog.line.Goals as goal

pub invariant_of-self-2 : goal.invariant_of-self-2
invariant_of-self-2 c =
    let inside = c.self.inside.refuter in
    let r = c.reserve.new.self in
    let line = c.args.line.now in
    let none = no_fault _ c.in_ok-line.field-0 c.in_ok-line.ensures.answer in
    let by_base = subst (λ (b : Asking). IsLogSoFar b.graphs b.query inside.taken) (sym c.reserve.ensures.base) c.self.invariant in
    let so_far = subst (IsLogSoFar r.base.graphs r.base.query) (sym c.reserve.ensures.taken) by_base in
    subst (λ (x : Refuting Asking). IsLogSoFar x.base.graphs x.base.query x.taken) (sym c.in_ok-line.ensures.taken) (log_more r.base.graphs r.base.query r.taken line so_far none)

truth : (b : Bool) → ◌≡◌ {A = Result Bool RecordStop} (Ok b) (Ok true) → b ≡ true
truth b e = cc

pub returns-clause-refuted : goal.returns-clause-refuted
returns-clause-refuted c is =
    let inside = c.self.inside.refuter in
    let r = c.reserve.new.self in
    let line = c.args.line.now in
    let none = no_fault _ c.in_ok-line.field-0 c.in_ok-line.ensures.answer in
    let by_base = subst (λ (b : Asking). IsLogSoFar b.graphs b.query inside.taken) (sym c.reserve.ensures.base) c.self.invariant in
    let so_far = subst (IsLogSoFar r.base.graphs r.base.query) (sym c.reserve.ensures.taken) by_base in
    let more = log_more r.base.graphs r.base.query r.taken line so_far none in
    let closed = ap (λ (x : Refuting Asking). list_any is_empty x.taken) (sym c.in_ok-line.ensures.taken) ∙ (sym c.closed.ensures.any ∙ truth c.closed.result is) in
    let refuted = refuted_by r.base.graphs r.base.query (r.taken ++ line.clause ∷ []) more closed in
    subst (λ (v : LogSoFar). IsRefuted v.graphs v.query) c.self.view_is (subst (λ (b : Asking). IsRefuted b.graphs b.query) c.reserve.ensures.base refuted)
