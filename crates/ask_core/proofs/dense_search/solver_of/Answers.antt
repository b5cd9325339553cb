-- It has the numbers of all clauses.
use Rattle.std.proofs.Common.{◌≡◌, ◌<◌, ℕ, List, [], length, All, sym, subst, ap, ◌∙◌}
use Rattle.ask_core.specs.Renamings.{dense_formula, numbers_of}
use Rattle.ask_core.proofs.DenseLemmas.{all_there}
use Rattle.ask_core.proofs.dense_search.solver_of.Goals as goal

pub new-requires-clause-ids : goal.new-requires-clause-ids
new-requires-clause-ids c =
    let small = dense_formula c.args.dense.now in
    let ids : c.deref.result.now ≡ numbers_of [] 0 (length small.clauses) = c.deref.ensures.value ∙ (c.in_ok-numbers.ensures ∙ ap (numbers_of [] 0) c.count.ensures.value) in
    subst (λ (xs : List ℕ). All (λ id. id < length small.clauses) xs) (sym ids) (all_there small)
