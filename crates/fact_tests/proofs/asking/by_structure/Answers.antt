-- The empty line refutes the query of the claim, and is what was asked.
use Rattle.std.proofs.Common.{[], ◌∷◌, ap, inr, rules, sym, subst, ◌∙◌}
use Rattle.circuits.specs.Netlists.{Net}
use Rattle.cnf_core.specs.Derivations.{IsRefutation}
use Rattle.claim_core.specs.ClaimQueries.{claim_query}
use Rattle.claim_core.specs.Formulas.{formula_of}
use Rattle.query_core.specs.Ledgers.{Ledgered}
use Rattle.fact_tests.proofs.AskingLemmas.{closed_asked, closed_halted, closing_is, decides_err, outside_closed}
use Rattle.fact_tests.proofs.asking.by_structure.Goals as goal

pub returns : goal.returns
returns c =
    let graphs = c.args.graphs.now in
    let claim = c.args.claim.now in
    let closed = outside_closed graphs claim c.first-first.ensures.sound c.second-second.ensures.sound c.requires.placed c.requires.outside in
    let line_is = closing_is graphs claim c.gates.result.now c.in_ok-line.line c.in_ok-line.ensures (c.gates.ensures.value ∙ ap (λ (n : Net). n.gates) c.side.ensures) in
    record {
      answer = subst (IsRefutation (formula_of graphs (claim_query graphs claim))) (sym (c.in_ok-log.ensures ∙ ap (λ l. l ∷ []) line_is)) closed.refuted;
      decided = inr (closed_asked graphs claim c.in_ok-query.query c.in_ok-line.line c.args.ledger.now c.open.new.self c.charge.new.self closed c.in_ok-query.ensures.query line_is c.in_ok-open.ensures.opened (ap (λ (l : Ledgered). l.asked) c.in_ok-charge.ensures.charged) (ap (λ (l : Ledgered). l.budget) c.in_ok-charge.ensures.charged));
      unspent = search rules;
      stop = tt;
    }

pub returns-in_err-charge : goal.returns-in_err-charge
returns-in_err-charge c =
    let graphs = c.args.graphs.now in
    let claim = c.args.claim.now in
    let closed = outside_closed graphs claim c.first-first.ensures.sound c.second-second.ensures.sound c.requires.placed c.requires.outside in
    let line_is = closing_is graphs claim c.gates.result.now c.in_ok-line.line c.in_ok-line.ensures (c.gates.ensures.value ∙ ap (λ (n : Net). n.gates) c.side.ensures) in
    decides_err _ _ _ _ _ _ c.from_residual-in_err-charge.ensures.1 (closed_halted graphs claim c.in_ok-query.query c.in_ok-line.line c.args.ledger.now c.open.new.self c.charge.new.self c.in_err-charge.field-0.0 closed c.in_ok-query.ensures.query line_is c.in_ok-open.ensures.opened c.in_err-charge.ensures.refused)
