-- One lemma more.
use Rattle.std.proofs.Common.{◌≤◌, List, length, map, sym, subst, ap, ◌∙◌, arith}
use Rattle.cnf_core.specs.declared.literal.SatLit.{SatLit}
use Rattle.cnf_core.specs.Clauses.{clause_at, AreKnown}
use Rattle.learn_solver.proofs.StartLemmas.{line_clause}
use Rattle.claim_core.specs.Formulas.{formula_of}
use Rattle.ask_core.proofs.BaseLemmas.{lemma_over_more}
use Rattle.ask_core.proofs.clauses.all_clauses.Goals as goal

pub short-requires-clause-some : goal.short-requires-clause-some
short-requires-clause-some c =
    subst (λ (cl : List SatLit). 1 ≤ length cl) (sym c.deref.ensures.value) (line_clause (λ cl. (1 ≤ length cl) × (length cl ≤ 3)) c.args.lemmas.now c.loop-line.line-index c.line-item.result c.loop-line-test.true c.line-item.is c.requires.short).0

pub short-requires-clause-short : goal.short-requires-clause-short
short-requires-clause-short c =
    subst (λ (cl : List SatLit). length cl ≤ 3) (sym c.deref.ensures.value) (line_clause (λ cl. (1 ≤ length cl) × (length cl ≤ 3)) c.args.lemmas.now c.loop-line.line-index c.line-item.result c.loop-line-test.true c.line-item.is c.requires.short).1

pub loop-line-preserved : goal.loop-line-preserved
loop-line-preserved c =
    let formula = formula_of c.args.cones.now.graphs c.args.cones.now.query in
    let lemmas = c.args.lemmas.now in
    let line = c.line-item.result in
    let is = c.short.ensures.literals ∙ c.deref.ensures.value in
    let known = line_clause (AreKnown formula.variables) lemmas c.loop-line.line-index line c.loop-line-test.true c.line-item.is c.requires.known in
    let sizes = line_clause (λ cl. (1 ≤ length cl) × (length cl ≤ 3)) lemmas c.loop-line.line-index line c.loop-line-test.true c.line-item.is c.requires.short in
    lemma_over_more formula.variables (map (clause_at formula.clauses) c.args.cones.now.ids) lemmas c.loop-line.line-index line c.loop-line.clauses.items c.push.new.self.items c.short.result c.loop-line.invariant c.loop-line-test.true c.line-item.is is (record {
      some = c.short.ensures.some;
      short = c.short.ensures.short;
      filled = omega (arith, ap length is, sizes.0);
      known = subst (AreKnown formula.variables) (sym is) known;
    }) c.in_ok-push.ensures.items
