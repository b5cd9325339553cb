-- The variables of the gates that the claim's output reaches.
use Rattle.std.proofs.Common.{◌≡◌, ◌+◌, ◌<◌, ◌∷◌, cond, false, true, length, drop, slice_index_or, refl, sym, ap, subst, ◌∙◌, arith}
use Rattle.std.specs.List.{range_with_len}
use Rattle.circuits.specs.Literals.{bit}
use Rattle.circuits.specs.Netlists.{Net}
use Rattle.net_core.specs.Sides.{graph_of}
use Rattle.net_core.specs.declared.graphs.Side.{Side}
use Rattle.net_core.specs.declared.graphs.Side.TheVariants.{First, Second}
use Rattle.claim_core.specs.declared.query.Query.{Query}
use Rattle.claim_core.specs.ClaimQueries.{opposite_shape, values_feed}
use Rattle.claim_core.specs.ConeClauses.{left_gates}
use Rattle.claim_core.specs.Formulas.{feeds_differ, reaches, reaching, right_variables, same_side, shared_from}
use Rattle.claim_core.specs.Queries.{bits_in, circuit_of}
use Rattle.claim_core.proofs.FormulaLemmas.{reached_count}
use Rattle.query_core.proofs.VariableLemmas.{shared_right}
use Rattle.query_core.proofs.variables.claim_variables.Goals as goal

same_as_itself : (side : Side) → same_side side side ≡ true
same_as_itself First = refl
same_as_itself Second = refl

pub returns-clause-values : goal.returns-clause-values
returns-clause-values c =
    let graphs = c.args.graphs.now in
    let query = c.args.query.now in
    let claim = c.args.claim.now in
    let net = graph_of graphs claim.side in
    let first = c.left_from-first.result in
    let own = c.right_from-own.result in
    let marked = c.in_ok-marked.marked in
    let fits = c.requires.fits in
    let asks = c.requires.query in
    let right_is : circuit_of graphs query.right ≡ net = ap (λ (q : Query). circuit_of graphs q.right) asks in
    let all = reaches query net.gates in
    let one_side : same_side query.left.side query.right.side ≡ true = ap (λ (q : Query). same_side q.left.side q.right.side) asks ∙ same_as_itself claim.side in
    let one = bits_in graphs query + 1 in
    let whole : shared_from first own (drop first all) ≡ right_variables graphs query =
    ap (λ n. shared_from n own (drop n all)) c.left_from-first.ensures.value
    ∙ (ap (λ n. shared_from one n (drop one all)) c.right_from-own.ensures.value
    ∙ (ap (λ (n : Net). shared_from one (one + left_gates graphs query) (drop one (reaches query n.gates))) (sym right_is)
    ∙ sym (ap (λ b. cond b (shared_from one (one + left_gates graphs query) (drop one (reaches query (circuit_of graphs query.right).gates))) (range_with_len (one + left_gates graphs query) (length (circuit_of graphs query.right).gates))) one_side))) in
    let size = reached_count query net.gates (fits.left.feed ∙ sym fits.right.feed) in
    let inputs : bits_in graphs query ≡ net.inputs = ap (λ (q : Query). bits_in graphs q) asks in
    λ k d within.
    let t = slice_index_or c.args.gates.now k d in
    let below : t < length net.gates = c.requires.gates.there k d within in
    let marks = subst (λ (n : Net). bit marked (n.inputs + 1 + t) ≡ bit (reaching (false ∷ feeds_differ (values_feed n.inputs claim.shape) (values_feed n.inputs (opposite_shape claim.shape))) n.gates) (n.inputs + 1 + t)) c.side-graph.ensures (c.in_ok-marked.ensures.marks k d within) in
    let by_query : bit marked (net.inputs + 1 + t) ≡ bit all (net.inputs + 1 + t) = marks ∙ ap (λ (q : Query). bit (reaches q net.gates) (net.inputs + 1 + t)) (sym asks) in
    let at : net.inputs + 1 + t ≡ first + t = omega (arith, inputs, c.left_from-first.ensures.value) in
    let own_mark : bit marked (first + t) ≡ bit all (first + t) = subst (λ s. bit marked s ≡ bit all s) at by_query in
    shared_right first own t marked all (omega (arith, size, below, fits.left.feed, c.left_from-first.ensures.value)) own_mark ∙ ap (λ xs. slice_index_or xs t 0) whole
