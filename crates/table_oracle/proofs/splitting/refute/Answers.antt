use Rattle.std.proofs.Common.{List, [], ap, inr, rules, sym, subst, ◌∙◌}
use Rattle.cnf_core.specs.declared.log.LogLine.{LogLine}
use Rattle.cnf_core.specs.Derivations.{IsRefutation}
use Rattle.claim_core.specs.Formulas.{Asking, formula_of}
use Rattle.query_core.specs.Ledgers.{Ledgered, charging_of}
use Rattle.query_core.specs.declared.ledger.Asked.{Asked}
use Rattle.query_core.proofs.ChargingLemmas.{is_opened}
use Rattle.ask_core.proofs.AskLemmas.{asked_with, stopped_weaker, stopped_with}
use Rattle.fact_tests.proofs.AskingLemmas.{asked_with_of, decides_err}
use Rattle.table_oracle.specs.Splits.{solving_of}
use Rattle.table_oracle.proofs.SplitLemmas.{of_cones, refuted}
use Rattle.table_oracle.proofs.splitting.refute.Goals as goal

pub returns-in_err-exclude_all : goal.returns-in_err-exclude_all
returns-in_err-exclude_all c =
    let graphs = c.args.graphs.now in
    let query = c.args.query.now in
    let base = c.in_ok-new.field-0 in
    let of = of_cones graphs query base c.new-lines.result.items c.in_ok-new.ensures c.new-lines.ensures.items c.first-first.ensures.sound c.second-second.ensures.sound c.requires.fits in
    let asked = asked_with_of graphs query [] c.args.ledger.now c.exclude_all.new.ledger c.requires.fits in
    let stopped = stopped_with graphs query [] _ (solving_of base c.exclude_all.new.lines.items) c.args.ledger.now c.open.new.self c.exclude_all.new.ledger c.in_err-exclude_all.field-0.0 of c.in_ok-open.ensures.some c.in_ok-open.ensures.opened c.in_err-exclude_all.ensures.stop in
    decides_err _ _ _ _ _ _ c.from_residual-in_err-exclude_all.ensures.1 (stopped_weaker c.args.ledger.now c.exclude_all.new.ledger c.in_err-exclude_all.field-0.0 asked stopped)

pub returns : goal.returns
returns c =
    let graphs = c.args.graphs.now in
    let query = c.args.query.now in
    let base = c.in_ok-new.field-0 in
    let done = c.in_ok-exclude_all.ensures in
    let lines = c.exclude_all.new.lines.items in
    let of = of_cones graphs query base c.new-lines.result.items c.in_ok-new.ensures c.new-lines.ensures.items c.first-first.ensures.sound c.second-second.ensures.sound c.requires.fits in
    let is = refuted base c.new-lines.result.items lines (charging_of c.open.new.self) (charging_of c.exclude_all.new.ledger) c.new-lines.ensures.items done.extended done.excluded in
    record {
      answer = subst (λ (ls : List LogLine). IsRefutation (formula_of graphs query) ls) (sym c.from_vec.ensures) (subst (λ (a : Asking). IsRefutation (formula_of a.graphs a.query) lines) c.in_ok-new.ensures is);
      decided = inr (asked_with_of graphs query [] c.args.ledger.now c.exclude_all.new.ledger c.requires.fits (asked_with graphs query [] _ (solving_of base lines) c.args.ledger.now c.open.new.self c.exclude_all.new.ledger of c.in_ok-open.ensures.some c.in_ok-open.ensures.opened done.extended));
      unspent = search rules;
      stop = tt;
    }

pub exclude_all-requires-clause-asking : goal.exclude_all-requires-clause-asking
exclude_all-requires-clause-asking c = record {
  opened = is_opened c.open.new.self c.in_ok-open.ensures.some;
  lines_are = ap (λ (a : Asked). a.lines) c.in_ok-open.ensures.last ∙ sym c.new-lines.ensures.items;
  not_spent = ap (λ (l : Ledgered). l.spent) c.in_ok-open.ensures.opened ∙ c.requires.unspent;
}
