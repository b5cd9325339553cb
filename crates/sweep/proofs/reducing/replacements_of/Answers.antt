-- Each signal is an output of the graph that is gone over, with the functions that it had.
use Rattle.std.proofs.lemmas.Result.{IfOk-weaker}
use Rattle.sweep.specs.Reducing.{AreRepresented}
use Rattle.sweep.specs.declared.reducing.Replacements.{Replacements}
use Rattle.sweep.proofs.ReducingLemmas.{is_exposed, represented_in}
use Rattle.sweep.proofs.reducing.replacements_of.Goals as goal

pub replacements_in-requires-clause-exposed : goal.replacements_in-requires-clause-exposed
replacements_in-requires-clause-exposed c = is_exposed c.args.graph.now c.in_ok-exposed.exposed c.in_ok-exposed.ensures.exposed

pub returns : goal.returns
returns c =
    let net = c.args.graph.now in
    let other = c.in_ok-exposed.exposed in
    let budget = c.args.ledger.now.budget in
    let after = c.replacements_in.new.ledger in
    IfOk-weaker c.replacements_in.result (λ (r : Replacements). AreRepresented other budget after r.literals.items r.is_whole) (λ (r : Replacements). AreRepresented net budget after r.literals.items r.is_whole)
    (λ r are. represented_in net other budget after r.literals.items r.is_whole c.in_ok-exposed.ensures.exposed are)
    c.replacements_in.ensures
