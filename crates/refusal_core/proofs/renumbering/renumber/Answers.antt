-- The second list of a tally.
use Rattle.std.proofs.Common.{◌<◌, All, length, subst, sym}
use Rattle.refusal_core.specs.Names.{facts_named}
use Rattle.refusal_core.proofs.renumbering.renumber.Goals as goal
use Rattle.circuits.proofs.Lists.{All-back}

pub put_numbers-requires-in-Tally : goal.put_numbers-requires-in-Tally
put_numbers-requires-in-Tally c =
    let facts = c.args.numbers.now.facts in
    let each = subst (λ step. All (λ k. k < length facts) (facts_named step)) c.in-Tally.is c.requires.facts in
    subst (λ numbers. All (λ k. k < length numbers) c.in-Tally.lack) (sym c.deref-in-Tally.ensures.value) (All-back (λ k. k < length facts) c.in-Tally.have c.in-Tally.lack each)
