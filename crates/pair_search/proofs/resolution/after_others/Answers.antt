use Rattle.std.proofs.Common.{◌<◌, ◌+◌, length, List, [], take, All, Contains, ap, subst, arith}
use Rattle.circuits.specs.declared.port.Pair.{Pair}
use Rattle.pair_domains.specs.declared.entry.Entry.{Entry}
use Rattle.pair_domains.specs.declared.entry.Fate.TheVariants.{Assigned}
use Rattle.pair_domains.specs.declared.entry.Cause.TheVariants.{Choice}
use Rattle.pair_domains.specs.Trails.{assigned_in}
use Rattle.pair_search.specs.ConflictSets.{IsLastOf}
use Rattle.pair_search.proofs.PivotLemmas.{front_more, others_before, others_none}
use Rattle.pair_search.proofs.resolution.after_others.Goals as goal

pub overflow_add-result : goal.overflow_add-result
overflow_add-result c = omega (arith, c.entry_of.ensures.within, ap length c.entries-lawful.ensures.value, c.entries-lawful.type_inv.0)

pub returns-in-Some-clause-others : goal.returns-in-Some-clause-others
returns-in-Some-clause-others c = λ d.
    let es = c.args.domains.now.entries in
    let assigned = assigned_in es in
    let second = c.in-Some.second in
    let own = c.entry_of.result in
    let last = subst (λ (l : List Pair). IsLastOf l c.args.last c.args.pairs.now second) c.pairs.ensures.value c.in-Some.ensures.found in
    let e : Entry = record { pair = d; fate = Assigned Choice } in
    let inside : second < length assigned = omega (arith, last.within, c.requires.within) in
    others_before es c.args.pairs.now c.args.last second (own + 1) d c.requires.within c.requires.among last (front_more es assigned own second d e c.entry_of.ensures.within inside c.entry_of.ensures.front (c.entry_of.ensures.assigned e) (c.entry_of.ensures.is e d))

pub returns-in-None-clause-others : goal.returns-in-None-clause-others
returns-in-None-clause-others c = λ d.
    others_none c.args.domains.now.entries c.args.pairs.now [] c.args.last d c.requires.within c.requires.among (subst (λ (l : List Pair). All (λ pair. Contains c.args.pairs.now pair → ⊥) (take c.args.last l)) c.pairs.ensures.value c.in-None.ensures.none)
