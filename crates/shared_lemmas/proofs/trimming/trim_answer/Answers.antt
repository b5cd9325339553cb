-- The part of the log refutes what the log refutes.
use Rattle.std.proofs.Common.{sym, subst}
use Rattle.cnf_core.specs.Derivations.{IsRefutation}
use Rattle.claim_core.specs.Formulas.{formula_of}
use Rattle.ask_core.specs.Answers.{IsAnswer}
use Rattle.shared_lemmas.proofs.trimming.trim_answer.Goals as goal

pub returns-in_ok-part-in-Refuted : goal.returns-in_ok-part-in-Refuted
returns-in_ok-part-in-Refuted c =
    let graphs = c.args.graphs.now in
    let query = c.args.query.now in
    let formula = formula_of graphs query in
    let refuted = subst (IsAnswer graphs query) c.in-Refuted.is c.requires in
    c.in_ok-part-in-Refuted.ensures.refutes formula (sym c.count_of.ensures.value) (subst (IsRefutation formula) (sym c.deref.ensures.value) refuted)
