use Rattle.std.proofs.Common.{List, OnOk, IfErr, IfSome, sym, subst, ◌∙◌}
use Rattle.cnf_core.specs.declared.log.LogLine.{LogLine}
use Rattle.cnf_core.specs.Charges.{IsCharged, IsRefused}
use Rattle.query_core.specs.Ledgers.{charging_of}
use Rattle.learn_solver.specs.Searches.{last_line}
use Rattle.table_oracle.specs.Splits.{IsCovering, IsExcluded, clauses_in}
use Rattle.table_oracle.proofs.SplitLemmas.{covered_some, excluded_by, line_asked, line_charged, line_stopped, may_be_added, on_ok}
use Rattle.table_oracle.proofs.splitting.Splitting.exclude.Goals as goal

pub returns-then-is_some-clause-excluded : goal.returns-then-is_some-clause-excluded
returns-then-is_some-clause-excluded c =
    let base = c.args.self.now.base in
    let found = subst (λ (ls : List LogLine). IfSome c.covering.result (IsCovering (clauses_in base ls) c.deref-2.result.now)) c.deref.ensures.value c.covering.ensures.found in
    covered_some (clauses_in base c.args.lines.now.items) c.args.bits.now c.deref-2.result.now c.covering.result (c.deref-2.ensures.value ∙ c.in_ok-clause.ensures) (sym c.is_some.ensures ∙ c.if-is_some.true) found

pub returns : goal.returns
returns c =
    let base = c.args.self.now.base in
    let lines = c.args.lines.now.items in
    let new = c.push.new.self.items in
    let before = charging_of c.args.ledger.now in
    let after = charging_of c.charge_last.new.ledger in
    let line : LogLine = record { clause = c.in_ok-clause.clause; hints = c.in_ok-hints.hints } in
    let pushed = c.in_ok-push.ensures.items in
    let none = sym c.is_some.ensures ∙ c.if-is_some.false in
    let added = may_be_added c.args.self.now lines c.deref.result.now c.deref-3.result.now c.args.bits.now line c.deref-2.result.now c.covering.result c.requires.splitting c.requires.beginning.within c.in_ok-clause.ensures c.deref.ensures.value c.deref-3.ensures.value c.deref-2.ensures.value none c.covering.ensures.none c.in_ok-hints.ensures in
    let charged = subst (λ (ls : List LogLine). OnOk c.charge_last.result (IsCharged before (last_line ls) after)) c.deref-4.ensures.value c.charge_last.ensures.charged in
    let refused = subst (λ (ls : List LogLine). IfErr c.charge_last.result (IsRefused before (last_line ls) after)) c.deref-4.ensures.value c.charge_last.ensures.refused in
    record {
      extended = line_charged base lines new line before after c.charge_last.result c.requires.asking pushed added charged;
      asking = line_asked base lines new line before after c.charge_last.result c.requires.asking pushed charged;
      excluded = on_ok c.charge_last.result (subst (λ (ls : List LogLine). IsExcluded (clauses_in base ls) c.args.bits.now) (sym pushed) (excluded_by base lines line c.args.bits.now c.in_ok-clause.ensures));
      stop = line_stopped base lines new line before after c.charge_last.result c.requires.asking pushed added refused;
    }
