-- What is needed is marked, and what is marked is kept.
use Rattle.std.proofs.Common.{◌∙◌, ap, arith, length, subst, sym}
use Rattle.refusal_core.specs.Names.{IsNeeded, ReferBack}
use Rattle.refusal_core.proofs.TrimLemmas.{bans_there, facts_there, new_count, trimmed}
use Rattle.refusal_core.proofs.trimming.trim.Goals as goal

pub needed-requires-clause-earlier : goal.needed-requires-clause-earlier
needed-requires-clause-earlier c =
    subst (λ n. ReferBack n c.deref.result.now) (sym c.len.ensures) (subst (ReferBack (length c.args.facts)) (sym c.deref.ensures.value) c.requires.earlier)

pub core_of-requires-clause-facts : goal.core_of-requires-clause-facts
core_of-requires-clause-facts c =
    let numbers = c.in_ok-numbers.numbers.facts in
    facts_there (length c.args.facts) (length numbers) c.args.bans c.requires.earlier
    (new_count c.in_ok-marks.marks.facts.items numbers c.in_ok-numbers.ensures.facts ∙ (c.in_ok-marks.ensures.marks.0 ∙ c.len.ensures))

pub core_of-requires-clause-bans : goal.core_of-requires-clause-bans
core_of-requires-clause-bans c =
    let numbers = c.in_ok-numbers.numbers.bans in
    bans_there (length c.args.facts) (length numbers) c.args.bans c.requires.earlier
    (new_count c.in_ok-marks.marks.bans.items numbers c.in_ok-numbers.ensures.bans ∙ (c.in_ok-marks.ensures.marks.1 ∙ ap length c.deref.ensures.value))

pub core_of-requires-clause-inside : goal.core_of-requires-clause-inside
core_of-requires-clause-inside c =
    let count = new_count c.in_ok-marks.marks.bans.items c.in_ok-numbers.numbers.bans c.in_ok-numbers.ensures.bans in
    omega (arith, c.requires.inside, count, c.in_ok-marks.ensures.marks.1, ap length c.deref.ensures.value)

pub returns : goal.returns
returns c =
    let of_facts = c.in_ok-marks.marks.facts.items in
    let of_bans = c.in_ok-marks.marks.bans.items in
    let numbers = c.in_ok-numbers.numbers in
    let needed = subst (λ bans. IsNeeded bans c.args.number of_facts of_bans) c.deref.ensures.value c.in_ok-marks.ensures.needed in
    trimmed c.args.facts c.args.bans c.args.number c.core_of.result of_facts of_bans numbers.facts numbers.bans
    (c.in_ok-marks.ensures.marks.0 ∙ c.len.ensures) (c.in_ok-marks.ensures.marks.1 ∙ ap length c.deref.ensures.value) needed c.requires.earlier c.requires.inside
    c.in_ok-numbers.ensures.facts c.in_ok-numbers.ensures.bans c.core_of.ensures.facts c.core_of.ensures.bans c.core_of.ensures.number
