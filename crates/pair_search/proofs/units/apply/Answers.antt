use Rattle.std.proofs.Common.{◌∷◌, refl}
use Rattle.std.proofs.lemmas.Bool.{and_parts}
use Rattle.pair_domains.specs.declared.entry.Entry.{Entry}
use Rattle.pair_domains.specs.declared.entry.Fate.TheVariants.{Deleted}
use Rattle.pair_domains.specs.declared.entry.Reason.TheVariants as reason
use Rattle.pair_domains.specs.Trails.{assigned_in}
use Rattle.pair_search.proofs.ConflictLemmas.{covers_lent}
use Rattle.pair_search.proofs.StepLemmas.{one_more_of, propagates_one}
use Rattle.pair_search.proofs.units.apply.Goals as goal

pub returns-in_default-clause-all : goal.returns-in_default-clause-all
returns-in_default-clause-all c = λ t.
    covers_lent c.args.bans.now (assigned_in c.args.domains.now.entries) c.deref.result.now c.args.number c.index-bans-number.result c.requires.there c.deref.ensures c.in_default.ensures

pub returns-in_ok-delete-clause-propagates : goal.returns-in_ok-delete-clause-propagates
returns-in_ok-delete-clause-propagates c =
    let d = c.args.domains.now in
    let way = c.in-Some.way in
    let e : Entry = record { pair = way; fate = Deleted (reason.Ban c.args.number) } in
    let both = and_parts c.is_open.result c.are_others_assigned.result c.if-is_open-are_others_assigned.true in
    propagates_one c.args.bans.now d c.delete.new.self e (one_more_of d c.delete.new.self e c.in_ok-delete.ensures.deleted) c.entries-lawful.ensures.lawful (c.is_open.ensures.known both.0) (c.is_open.ensures.is both.0) refl c.requires.justified (covers_lent c.args.bans.now (way ∷ assigned_in d.entries) c.deref-2.result.now c.args.number c.index-bans-number.result c.requires.there c.deref-2.ensures (c.are_others_assigned.ensures both.1)) (λ graphs facts. tt)
