-- The variables in order.
use Rattle.std.proofs.Common.{◌≡◌, ℕ, Bool, false, List, [], length, replicate, sym, ap, subst, ◌∙◌}
use Rattle.std.proofs.lemmas.List.{length-replicate}
use Rattle.std.proofs.lemmas.List.Sorted.{IsNonDecreasingBy-from_sort}
use Rattle.ask_core.specs.Renamings.{AreListed, AreMarks}
use Rattle.ask_core.proofs.BaseLemmas.{named_in_order, names_from, no_marks}
use Rattle.ask_core.proofs.occurring.occurring_variables.Goals as goal

pub list_clauses-requires-clause-marks : goal.list_clauses-requires-clause-marks
list_clauses-requires-clause-marks c =
    let n = c.args.variables in
    let marked = c.none-marked.result in
    let is : marked ≡ replicate n false = c.none-marked.ensures in
    let none = subst (λ (m : ℕ). AreMarks m [] (replicate n false)) (sym (length-replicate n false)) (no_marks n) in
    let own = subst (λ (bs : List Bool). AreMarks (length bs) [] bs) (sym is) none in
    subst (λ (ns : List ℕ). AreMarks (length marked) ns marked) (sym c.new-names.ensures.items) own

pub returns-clause-all : goal.returns-clause-all
returns-clause-all c = named_in_order c.args.clauses.now c.list_clauses.new.names.items c.sort_unstable.new.self.items c.sort_unstable.ensures.permutation c.in_ok-list_clauses.ensures.named

pub returns-clause-names : goal.returns-clause-names
returns-clause-names c =
    let n = c.args.variables in
    let size : length c.none-marked.result ≡ n = ap length c.none-marked.ensures ∙ length-replicate n false in
    names_from n c.list_clauses.new.names.items c.sort_unstable.new.self.items (subst (λ (m : ℕ). AreListed m c.list_clauses.new.names.items) size c.in_ok-list_clauses.ensures.listed) c.sort_unstable.ensures.permutation

pub returns-clause-ascending : goal.returns-clause-ascending
returns-clause-ascending c = IsNonDecreasingBy-from_sort (λ x. x) c.sort_unstable.new.self.items c.sort_unstable.ensures.sorted
