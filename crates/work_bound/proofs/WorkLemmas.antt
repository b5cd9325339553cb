-- As many lines as there are queries, each with as many clauses.
use Rattle.std.proofs.Common.{◌≡◌, ℕ, ◌+◌, ◌*◌, ◌^◌, ◌≤◌, ◌==◌, ◌&&◌, cond, length, take, All, slice_index_or, ap, ◌∙◌, arith}
use Rattle.std.proofs.Math.Nat.{mul_comm, pow-le-pow_right}
use Rattle.std.proofs.lemmas.Bool.{eq-eqb}
use Rattle.cnf_core.specs.Derivations.{clauses_of, no_line}
use Rattle.learn_solver.proofs.BoundLemmas.{AreUnlike, few_lines, line_at, unlike_at}
use Rattle.learn_solver.proofs.SolverLemmas.{line_known, line_says}
use Rattle.net_core.specs.Sides.{Graphs, graph_of}
use Rattle.net_core.specs.declared.graphs.Side.{Side}
use Rattle.net_core.specs.declared.graphs.Side.TheVariants.{First, Second}
use Rattle.claim_core.specs.Formulas.{formula_of}
use Rattle.query_core.specs.declared.ledger.Asked.{Asked}
use Rattle.query_core.specs.Ledgers.{Ledgered, charged_in, lines_in}
use Rattle.account_core.specs.Ports.{HaveAsMany}
use Rattle.oracle_core.specs.Work.{IsWorkOn, IsWorkOfClaimsAndMatches}
use Rattle.oracle_core.specs.Enough.{claims_of, enough, lines_enough, matches_of}
use Rattle.work_bound.proofs.QueryNumbers.{HasNumber, inputs_on, is_numbered, same_query}
use Rattle.work_bound.proofs.EntryLemmas.{IsCounted, lines_counted}

-- how many gates a side has
gates_on : (graphs : Graphs) (side : Side) → length (graph_of graphs side).gates ≤ length graphs.first.gates + length graphs.second.gates
gates_on graphs First = omega arith
gates_on graphs Second = omega arith

-- an entry has as many lines as there are clauses over its query's variables
lines_of_entry : (graphs : Graphs) (entry : Asked) → IsWorkOn graphs entry → charged_in entry ≤ 3 ^ (formula_of graphs entry.query).variables
lines_of_entry graphs entry is =
    let f = formula_of graphs entry.query in
    let unlike : AreUnlike f.variables entry.lemmas entry.lines = record {
      known = λ k late within. line_known f (clauses_of (take k entry.lines)) (line_at entry.lines k) (is.learned k no_line within late).derived;
      once = λ k late within. (line_says f (clauses_of (take k entry.lines)) (line_at entry.lines k) (is.learned k no_line within late).derived).once;
      unlike = λ j k early order within. unlike_at entry.lines (line_at entry.lines k).clause k j order within (is.learned k no_line within (omega (arith, early, order))).beside_lines;
    } in
    omega (arith, few_lines f.variables entry.lemmas entry.lines unlike)

abbrev variables_enough : Graphs → ℕ
variables_enough graphs = graphs.first.inputs + 2 * (length graphs.first.gates + length graphs.second.gates) + 1

lines_within : (graphs : Graphs) (entry : Asked) → HaveAsMany graphs.first graphs.second → IsWorkOn graphs entry → charged_in entry ≤ 3 ^ variables_enough graphs
lines_within graphs entry same is =
    let left = entry.query.left.side in
    let right = entry.query.right.side in
    let few : (formula_of graphs entry.query).variables ≤ variables_enough graphs = omega (arith, inputs_on graphs same left, gates_on graphs left, gates_on graphs right) in
    omega (arith, lines_of_entry graphs entry is, pow-le-pow_right {n = 3} (omega arith) few)

is_enough : (graphs : Graphs) → HaveAsMany graphs.first graphs.second → enough graphs ≡ lines_enough graphs.first.inputs (length graphs.first.outputs) (length graphs.first.gates + length graphs.second.gates)
is_enough graphs same =
    let most = lines_enough graphs.first.inputs (length graphs.first.outputs) (length graphs.first.gates + length graphs.second.gates) in
    ap (λ b. cond (b && (length graphs.first.outputs == length graphs.second.outputs)) most 0) (eq-eqb graphs.first.inputs graphs.second.inputs same.inputs)
    ∙ ap (λ b. cond b most 0) (eq-eqb (length graphs.first.outputs) (length graphs.second.outputs) same.outputs)

pub few_lines_of_work : (graphs : Graphs) (ledger : Ledgered) → HaveAsMany graphs.first graphs.second → IsWorkOfClaimsAndMatches graphs ledger → lines_in ledger ≤ enough graphs
few_lines_of_work graphs ledger same is =
    let n = graphs.first.inputs in
    let m = length graphs.first.outputs in
    let count = claims_of n m + matches_of n m in
    let most = 3 ^ variables_enough graphs in
    let counted : All (λ entry. IsCounted (HasNumber n m graphs) count entry.query) ledger.asked = λ k d within. is_numbered graphs (slice_index_or ledger.asked k d).query same (is.queries k d within) in
    let few : All (λ entry. charged_in entry ≤ most) ledger.asked = λ k d within. lines_within graphs (slice_index_or ledger.asked k d) same (is.work.entries k d within) in
    omega (arith, lines_counted (HasNumber n m graphs) count most (same_query n m graphs) ledger.asked counted few is.work.once, mul_comm count most, is_enough graphs same)
