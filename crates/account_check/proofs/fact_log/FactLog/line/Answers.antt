-- The clauses that the line's hints name are present, so it is derived from them as it is from the query's.
use Rattle.std.proofs.Common.{◌≡◌, ℕ, List, true, sym, ap, subst, ◌∙◌}
use Rattle.std.specs.List.{list_all}
use Rattle.std.proofs.lemmas.Result.{on_ok_weaker}
use Rattle.query_core.specs.ClaimClauses.{PartialQuery, is_present}
use Rattle.account_check.specs.Logs.{refutation_of}
use Rattle.account_check.proofs.LogLemmas.{present_reject}
use Rattle.account_check.proofs.fact_log.FactLog.line.Goals as goal

pub returns-clause-refused : goal.returns-clause-refused
returns-clause-refused c reject is =
    let inside = c.self.inside in
    let r = c.make_present.new.refuter in
    let line = c.args.line.now in
    let graphs = c.make_present.ensures.graphs ∙ ap (λ (b : PartialQuery). b.graphs) c.reserve.ensures.base in
    let query = c.make_present.ensures.query ∙ ap (λ (b : PartialQuery). b.query) c.reserve.ensures.base in
    let taken = c.make_present.ensures.taken ∙ c.reserve.ensures.taken in
    let present = subst (λ (hs : List ℕ). list_all (is_present r.base) hs ≡ true) c.deref.ensures.value c.in_ok-make_present.ensures.present in
    c.take.ensures.refused reject is ∙ present_reject r.base inside.refuter.base inside.claim r.taken inside.refuter.taken line c.args.self.now present graphs query taken c.self.invariant c.self.view_is

pub returns-clause-taken : goal.returns-clause-taken
returns-clause-taken c =
    let inside = c.self.inside in
    let r = c.make_present.new.refuter in
    let line = c.args.line.now in
    let graphs = c.make_present.ensures.graphs ∙ ap (λ (b : PartialQuery). b.graphs) c.reserve.ensures.base in
    let query = c.make_present.ensures.query ∙ ap (λ (b : PartialQuery). b.query) c.reserve.ensures.base in
    let taken = c.make_present.ensures.taken ∙ c.reserve.ensures.taken in
    let present = subst (λ (hs : List ℕ). list_all (is_present r.base) hs ≡ true) c.deref.ensures.value c.in_ok-make_present.ensures.present in
    on_ok_weaker c.take.result (λ derived. sym (sym (present_reject r.base inside.refuter.base inside.claim r.taken inside.refuter.taken line c.args.self.now present graphs query taken c.self.invariant c.self.view_is) ∙ ap refutation_of derived)) c.take.ensures.derived
