-- A line of the open log: what its answer says, and what is kept.
use Rattle.std.proofs.Common.{◌≡◌, ◌+◌, Ok, Some, None, sym, ap, subst, rules}
use Rattle.net_core.specs.Sides.{Graphs}
use Rattle.claim_core.specs.Formulas.{IsRefuted}
use Rattle.account_check.specs.declared.reject.RecordStop.TheVariants as stop
use Rattle.account_check.specs.Logs.{refutation_of}
use Rattle.account_check.specs.Proofs.{IsLog}
use Rattle.account_check.proofs.LogLemmas.{failed, handed_on, refuted_more, told_of_match}
use Rattle.account_check.proofs.logs.Logs.line.Goals as goal

pub returns-in_err-line-clause-refused : goal.returns-in_err-line-clause-refused
returns-in_err-line-clause-refused c reject is =
    let inside = c.self.inside in
    let error = handed_on c.from_residual.result c.in_err-line.field-0.0 reject is c.from_residual.ensures.1 in
    let refused = c.in_err-line.ensures.refused reject (failed c.in_err-line.field-0.0 (stop.Reject reject) error) in
    told_of_match inside.graphs.now inside.matching inside.closed inside.log c.in-Some.log c.args.line.now _ (Some reject) c.self.invariant.log_is c.in-Some.is c.self.view_is refused

pub returns-then-not-branch-clause-taken : goal.returns-then-not-branch-clause-taken
returns-then-not-branch-clause-taken c =
    let inside = c.self.inside in
    told_of_match inside.graphs.now inside.matching inside.closed inside.log c.in-Some.log c.args.line.now _ None c.self.invariant.log_is c.in-Some.is c.self.view_is (ap refutation_of (sym c.in_ok-line.ensures.derived))

pub invariant_of-self-2 : goal.invariant_of-self-2
invariant_of-self-2 c =
    let inside = c.self.inside in
    let kept = c.self.invariant in
    let open_log = subst (IsLog inside.graphs.now inside.matching inside.closed) c.in-Some.is kept.log_is in
    let log = c.in-Some.log in
    let refuted : IsRefuted log.graphs log.query = c.in_ok-line.ensures.refuted (ap Ok c.if-not-branch.false) in
    let same = subst (λ (g : Graphs). IsRefuted g log.query) open_log.graphs_are refuted in
    let one = subst (IsRefuted inside.graphs.now) open_log.asks same in
    let graphs : c.in-Some-take.log.graphs ≡ inside.graphs.now = grind (rules, open_log.graphs_are) in
    record {
      ports = kept.ports;
      few = kept.few;
      refuted = refuted_more inside.graphs.now inside.matching inside.closed kept.refuted one;
      log_is = subst (λ (g : Graphs). IsLog g inside.matching (inside.closed + 1) c.next_log.result) graphs c.next_log.ensures.log;
    }

pub returns-clause-taken : goal.returns-clause-taken
returns-clause-taken c =
    let inside = c.self.inside in
    told_of_match inside.graphs.now inside.matching inside.closed inside.log c.in-Some.log c.args.line.now _ None c.self.invariant.log_is c.in-Some.is c.self.view_is (ap refutation_of (sym c.in_ok-line.ensures.derived))
