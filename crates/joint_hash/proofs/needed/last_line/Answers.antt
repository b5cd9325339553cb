-- The hints derive the empty line.
use Rattle.std.proofs.Common.{◌≡◌, ◌++◌, None, map, ap, ◌∙◌, sym}
use Rattle.cnf_core.specs.Clauses.{opposite}
use Rattle.cnf_core.specs.Derivations.{clauses_of, hint_fault}
use Rattle.claim_core.specs.Formulas.{formula_of}
use Rattle.joint_hash.proofs.ClosingLemmas.{closed_by}
use Rattle.joint_hash.proofs.needed.last_line.Goals as goal

pub returns : goal.returns
returns c =
    let cones = c.args.cones.now in
    let formula = formula_of cones.graphs cones.query in
    let clause = c.new-clause.result in
    let hints = c.in-Some.hints in
    let derive = rw c.in-Some.is at c.in_ok-hints.ensures.derive in
    let good : hint_fault (formula.clauses ++ clauses_of c.args.lemmas.now) (map opposite clause) hints ≡ None = ap (λ cl. hint_fault (formula.clauses ++ clauses_of c.args.lemmas.now) (map opposite cl) hints) (sym c.deref.ensures.value) ∙ derive in
    closed_by formula c.args.lemmas.now clause hints c.requires c.new-clause.ensures good
