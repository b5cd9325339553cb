-- One lemma more, by the clauses of two gates.
use Rattle.std.proofs.Common.{◌≡◌, ◌≢◌, ◌<◌, ◌++◌, [], ◌∷◌, List, None, length, map, inl, refl, sym, subst, ap, ◌∙◌, arith}
use Rattle.cnf_core.specs.declared.log.LogLine.{LogLine}
use Rattle.cnf_core.specs.Clauses.{opposite, variable_of}
use Rattle.cnf_core.specs.Derivations.{clauses_of, hint_fault}
use Rattle.cnf_core.proofs.LiteralLemmas.{variable_of-opposite}
use Rattle.claim_core.specs.Formulas.{formula_of, query_clauses}
use Rattle.joint_hash.specs.Merging.{AreKept, AreLemmas, IsImplication}
use Rattle.joint_hash.proofs.GateLemmas.{gate_inner, gate_known}
use Rattle.joint_hash.proofs.JoiningLemmas.{kept_more}
use Rattle.joint_hash.proofs.LineLemmas.{implied_by, lemma_more}
use Rattle.joint_hash.proofs.ListedLemmas.{between_listed}
use Rattle.joint_hash.proofs.lemmas.add_implied.Goals as goal

pub hints_among-requires : goal.hints_among-requires
hints_among-requires c =
    let cones = c.args.cones.now in
    between_listed cones.graphs cones.query cones.ids (length (query_clauses cones.graphs cones.query)) c.args.gate.now c.args.other.now c.args.ids.now c.ids-ids.ensures.are c.requires.gate c.requires.other c.requires.between

pub returns-clause-lemmas : goal.returns-clause-lemmas
returns-clause-lemmas c =
    let cones = c.args.cones.now in
    let formula = formula_of cones.graphs cones.query in
    let lines = c.args.lines.now.items in
    let gate = c.args.gate.now in
    let other = c.args.other.now in
    let clause = c.in_ok-clause.clause in
    let hints = c.in-Some.hints in
    let clause_is : clause ≡ opposite gate.output ∷ other.output ∷ [] = c.in_ok-clause.ensures ∙ ap (λ l. l ∷ other.output ∷ []) c.opposite.ensures in
    let implies : IsImplication formula (record { clause = opposite gate.output ∷ other.output ∷ []; hints = c.args.ids.now }) = record {
      start = gate;
      end = other;
      is_start = gate_inner cones.graphs cones.query gate c.requires.gate;
      is_end = gate_inner cones.graphs cones.query other c.requires.other;
      clause = inl refl;
      between = c.requires.between;
    } in
    let among = rw c.in-Some.is at c.in_ok-hints.ensures.among in
    let implied = implied_by formula (opposite gate.output) other.output c.args.ids.now hints clause implies clause_is among in
    let derive = rw c.in-Some.is at c.in_ok-hints.ensures.derive in
    let good : hint_fault (formula.clauses ++ clauses_of lines) (map opposite clause) hints ≡ None = ap (λ ls. hint_fault (formula.clauses ++ clauses_of ls) (map opposite clause) hints) (sym c.deref.ensures.value) ∙ (ap (λ cl. hint_fault (formula.clauses ++ clauses_of c.deref.result.now) (map opposite cl) hints) (sym c.deref-2.ensures.value) ∙ derive) in
    let known_gate = gate_known cones.graphs cones.query gate c.graphs-graphs.ensures.fits c.requires.gate in
    let known_other = gate_known cones.graphs cones.query other c.graphs-graphs.ensures.fits c.requires.other in
    let one : variable_of (opposite gate.output) < formula.variables = omega (arith, variable_of-opposite gate.output, known_gate) in
    let apart : variable_of (opposite gate.output) ≢ variable_of other.output = λ same. c.if-variable.false (c.variable.ensures ∙ (sym (variable_of-opposite gate.output) ∙ (same ∙ sym c.variable-2.ensures))) in
    subst (λ (ls : List LogLine). AreLemmas formula ls) (sym c.in_ok-push.ensures.items) (lemma_more formula lines clause hints (opposite gate.output) other.output c.requires.lemmas clause_is one known_other apart good implied)

pub returns-clause-kept : goal.returns-clause-kept
returns-clause-kept c =
    let lines = c.args.lines.now.items in
    subst (λ (ls : List LogLine). AreKept lines ls) (sym c.in_ok-push.ensures.items) (kept_more lines (record { clause = c.in_ok-clause.clause; hints = c.in-Some.hints }))
