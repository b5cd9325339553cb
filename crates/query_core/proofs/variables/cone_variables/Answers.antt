-- The variables of the gates that are reached.
use Rattle.std.proofs.Common.{rules, ◌≡◌, ◌+◌, ◌<◌, length, drop, slice_index_or, sym, ap, subst, ◌∙◌, arith}
use Rattle.circuits.specs.Literals.{bit}
use Rattle.circuits.specs.Netlists.{Net}
use Rattle.query_core.specs.declared.variables.Variables.TheVariants.{Own}
use Rattle.claim_core.specs.Queries.{circuit_of}
use Rattle.claim_core.specs.ConeClauses.{right_gates}
use Rattle.claim_core.specs.Formulas.{reaches, right_variables, shared_from}
use Rattle.query_core.specs.Variables.{variables_in}
use Rattle.claim_core.proofs.FormulaLemmas.{reached_count}
use Rattle.query_core.proofs.VariableLemmas.{shared_right, variable_in}
use Rattle.query_core.proofs.variables.cone_variables.Goals as goal

pub returns-then-ne-clause-values : goal.returns-then-ne-clause-values
returns-then-ne-clause-values c =
    let graphs = c.args.graphs.now in
    let query = c.args.query.now in
    let own = c.right_from-own.result in
    let count = right_gates graphs query in
    let whole : variables_in (Own own) count ≡ right_variables graphs query = search rules in
    λ k d within.
    let t = slice_index_or c.args.gates.now k d in
    let below : t < count = c.requires.gates.there k d within in
    sym (variable_in (Own own) count t (omega (arith, c.right_from-own.ensures.few)) below) ∙ ap (λ xs. slice_index_or xs t 0) whole

pub returns-clause-values : goal.returns-clause-values
returns-clause-values c =
    let graphs = c.args.graphs.now in
    let query = c.args.query.now in
    let net = circuit_of graphs query.right in
    let first = c.left_from-first.result in
    let own = c.right_from-own.result in
    let marked = c.in_ok-marked.marked in
    let all = reaches query net.gates in
    let whole : shared_from first own (drop first all) ≡ right_variables graphs query = search rules in
    let size = reached_count query net.gates (c.requires.fits.left.feed ∙ sym c.requires.fits.right.feed) in
    λ k d within.
    let t = slice_index_or c.args.gates.now k d in
    let below : t < length net.gates = c.requires.gates.there k d within in
    let marks = subst (λ (n : Net). bit marked (n.inputs + 1 + t) ≡ bit (reaches query n.gates) (n.inputs + 1 + t)) c.side-right.ensures (c.in_ok-marked.ensures.marks k d within) in
    let at : net.inputs + 1 + t ≡ first + t = omega (arith, c.requires.fits.right.inputs, c.left_from-first.ensures.value) in
    let own_mark : bit marked (first + t) ≡ bit all (first + t) = subst (λ s. bit marked s ≡ bit all s) at marks in
    shared_right first own t marked all (omega (arith, size, below, c.requires.fits.left.feed, c.left_from-first.ensures.value)) own_mark ∙ ap (λ xs. slice_index_or xs t 0) whole
