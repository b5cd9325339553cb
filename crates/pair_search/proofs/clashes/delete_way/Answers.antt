use Rattle.std.proofs.Common.{refl}
use Rattle.pair_domains.specs.declared.entry.Entry.{Entry}
use Rattle.pair_domains.specs.declared.entry.Fate.TheVariants.{Deleted}
use Rattle.pair_domains.specs.declared.entry.Reason.TheVariants as reason
use Rattle.pair_search.proofs.StepLemmas.{clash_of, one_more_of, propagates_none, propagates_one}
use Rattle.pair_search.proofs.clashes.delete_way.Goals as goal

pub returns-in-Some : goal.returns-in-Some
returns-in-Some c = propagates_none c.args.bans.now c.args.domains.now c.requires.justified

pub returns : goal.returns
returns c =
    let d = c.args.domains.now in
    let e : Entry = record { pair = c.args.way; fate = Deleted (reason.Clash c.args.pair) } in
    propagates_one c.args.bans.now d c.delete.new.self e (one_more_of d c.delete.new.self e c.in_ok-delete.ensures.deleted) c.entries-lawful.ensures.lawful c.requires.known c.in_default.ensures.none refl c.requires.justified (c.requires.assigned, clash_of d.entries c.args.pair c.args.way c.requires.assigned c.in_default.ensures.none c.requires.kind c.requires.share) (λ graphs facts. tt)
