-- A tally names two lists of facts.
use Rattle.std.proofs.Common.{◌<◌, All, length, subst, sym}
use Rattle.refusal_core.specs.Marks.{Adds}
use Rattle.refusal_core.specs.Names.{facts_named}
use Rattle.refusal_core.proofs.MarkLemmas.{adds_then, still_below}
use Rattle.refusal_core.proofs.marking.mark_facts.Goals as goal
use Rattle.circuits.proofs.Lists.{All-back}

pub mark_all-requires-in-Tally-2 : goal.mark_all-requires-in-Tally-2
mark_all-requires-in-Tally-2 c =
    let marks = c.args.marks.now.items in
    let each = subst (λ step. All (λ k. k < length marks) (facts_named step)) c.in-Tally.is c.requires in
    still_below c.deref-in-Tally.result.now marks c.mark_all-in-Tally.new.marks.items c.mark_all-in-Tally.ensures.as_many
    (subst (λ numbers. All (λ k. k < length marks) numbers) (sym c.deref-in-Tally.ensures.value) (All-back (λ k. k < length marks) c.in-Tally.have c.in-Tally.lack each))

pub returns-in-Tally : goal.returns-in-Tally
returns-in-Tally c =
    let old = c.args.marks.now.items in
    let now = c.mark_all-in-Tally.new.marks.items in
    let new = c.mark_all-in-Tally-2.new.marks.items in
    subst (λ step. Adds (facts_named step) old new) (sym c.in-Tally.is)
    (adds_then c.in-Tally.have c.in-Tally.lack old now new
    (subst (λ numbers. Adds numbers old now) c.deref.ensures.value c.mark_all-in-Tally.ensures)
    (subst (λ numbers. Adds numbers now new) c.deref-in-Tally.ensures.value c.mark_all-in-Tally-2.ensures))
