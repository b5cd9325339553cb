use Rattle.std.proofs.Common.{◌≡◌, List, arith, subst}
use Rattle.pair_domains.specs.declared.entry.Entry.{Entry}
use Rattle.pair_domains.specs.Trails.{IsPlace}
use Rattle.pair_search.specs.ConflictSets.{IsChoiceAt}
use Rattle.match_search.proofs.BackLemmas.{back_later}
use Rattle.match_search.proofs.step_back.latest.Goals as goal

pub returns : goal.returns
returns c = λ bans is.
    let d = c.args.domains.now in
    let there = rw c.in-Some.is at c.place.ensures.found in
    let same : c.in-Some.own ≡ c.in-Some-choice_between.place = omega (arith, c.in-Some-choice_between.ensures.from, c.in-Some-choice_between.ensures.to) in
    back_later bans d c.args.back c.in-Some-choice_between.place c.entries-entries.ensures.lawful (subst (IsPlace d.entries c.args.back.pair) same there) (subst (λ (l : List Entry). IsChoiceAt l c.in-Some-choice_between.place) c.entries-entries.ensures.value c.in-Some-choice_between.ensures.choice) is
