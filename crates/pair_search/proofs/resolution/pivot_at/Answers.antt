use Rattle.std.proofs.Common.{List, get_or, subst}
use Rattle.pair_domains.specs.declared.entry.Entry.{Entry}
use Rattle.pair_domains.specs.Trails.{assigned_in}
use Rattle.pair_search.specs.ConflictSets.{IsChoiceAt}
use Rattle.pair_search.proofs.PivotLemmas.{chosen_at, forced_at, split_at, split_own}
use Rattle.pair_search.proofs.resolution.pivot_at.Goals as goal
use Rattle.std.proofs.lemmas.List.{get_or_default}

pub returns-in-Some : goal.returns-in-Some
returns-in-Some c = λ d.
    let es = c.args.domains.now.entries in
    split_at es c.args.pairs.now (get_or (assigned_in es) c.args.last d) c.after_others-first.result c.in-Some.place c.entry_of-own.result c.entries.ensures.lawful.distinct c.in-Some.ensures.from c.in-Some.ensures.to c.entry_of-own.ensures.within (λ e. c.entry_of-own.ensures.is e d) (subst (λ (l : List Entry). IsChoiceAt l c.in-Some.place) c.entries.ensures.value c.in-Some.ensures.choice) (c.after_others-first.ensures.others d)

pub returns-in-Some-side_of : goal.returns-in-Some-side_of
returns-in-Some-side_of c = λ d.
    let es = c.args.domains.now.entries in
    forced_at es c.entries-2.result.now c.entry_of-own.result _ (get_or (assigned_in es) c.args.last d) c.in-Some-side_of.side c.entries-2.ensures.value c.entry_of-own.ensures.within (λ e. c.entry_of-own.ensures.is e d) c.in-Some-side_of.ensures.forced

pub returns-in-None : goal.returns-in-None
returns-in-None c = λ d.
    let es = c.args.domains.now.entries in
    let own = c.entry_of-own.result in
    let choice : IsChoiceAt es own = chosen_at es c.entries-2.result.now own _ c.entries-2.ensures.value c.entry_of-own.ensures.within (c.entry_of-own.ensures.assigned) c.in-None.ensures.chosen in
    split_own es c.args.pairs.now (get_or (assigned_in es) c.args.last d) c.args.last own c.entries.ensures.lawful.distinct c.entry_of-own.ensures.within (λ e. c.entry_of-own.ensures.is e d) choice c.requires.within (λ e. get_or_default (assigned_in es) c.args.last e d c.requires.within) c.entry_of-own.ensures.front c.requires.among
