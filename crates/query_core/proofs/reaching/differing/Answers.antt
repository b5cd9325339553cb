use Rattle.std.proofs.Common.{false, [], ◌∷◌, length, ap, arith}
use Rattle.std.proofs.lemmas.List.{length-append}
use Rattle.claim_core.specs.Formulas.{feeds_differ}
use Rattle.claim_core.proofs.FormulaLemmas.{length-feeds_differ}
use Rattle.query_core.proofs.reaching.differing.Goals as goal

pub returns-clause-count : goal.returns-clause-count
returns-clause-count c =
    let left = c.args.query.now.left.feed in
    let right = c.args.query.now.right.feed in
    omega (arith, ap length c.in_ok-push_differing.ensures, length-append c.push.new.self.items (feeds_differ left right), ap length c.in_ok-push.ensures.items, length-append c.new-signals.result.items (false ∷ []), ap length c.new-signals.ensures.items, length-feeds_differ left right c.requires)
