use Rattle.std.proofs.Common.{◌≡◌, ◌++◌, List, None, map, sym, subst, ap, ◌∙◌}
use Rattle.cnf_core.specs.declared.log.LogLine.{LogLine}
use Rattle.cnf_core.specs.Clauses.{opposite}
use Rattle.cnf_core.specs.Derivations.{clauses_of, hint_fault}
use Rattle.claim_core.specs.Formulas.{formula_of}
use Rattle.joint_hash.specs.Merging.{AreLemmas}
use Rattle.joint_hash.proofs.LineLemmas.{implied_by, lemma_more}
use Rattle.joint_hash.proofs.lemmas.add_lemma.Goals as goal

pub returns-clause-lemmas : goal.returns-clause-lemmas
returns-clause-lemmas c =
    let formula = formula_of c.args.cones.now.graphs c.args.cones.now.query in
    let lines = c.args.lines.now.items in
    let clause = c.in_ok-clause.clause in
    let hints = c.in-Some.hints in
    let among = rw c.in-Some.is at c.in_ok-hints.ensures.among in
    let implies = implied_by formula c.args.one c.args.other c.args.ids.now hints clause c.requires.implies c.in_ok-clause.ensures among in
    let derive = rw c.in-Some.is at c.in_ok-hints.ensures.derive in
    let good : hint_fault (formula.clauses ++ clauses_of lines) (map opposite clause) hints ≡ None = ap (λ ls. hint_fault (formula.clauses ++ clauses_of ls) (map opposite clause) hints) (sym c.deref.ensures.value) ∙ (ap (λ cl. hint_fault (formula.clauses ++ clauses_of c.deref.result.now) (map opposite cl) hints) (sym c.deref-2.ensures.value) ∙ derive) in
    subst (λ (ls : List LogLine). AreLemmas formula ls) (sym c.in_ok-push.ensures.items) (lemma_more formula lines clause hints c.args.one c.args.other c.requires.lemmas c.in_ok-clause.ensures c.requires.one c.requires.other c.requires.two good implies)
