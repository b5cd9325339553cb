use Rattle.pair_domains.specs.declared.entry.Entry.{Entry}
use Rattle.pair_domains.specs.declared.entry.Fate.TheVariants.{Deleted}
use Rattle.pair_domains.specs.declared.entry.Reason.TheVariants as reason
use Rattle.pair_search.proofs.StepLemmas.{back_at, stays_back}
use Rattle.match_search.proofs.step_back.return_to.Goals as goal

pub returns : goal.returns
returns c = λ bans justified covers.
    let d = c.args.domains.now in
    let back = c.args.back in
    let e : Entry = record { pair = back.pair; fate = Deleted (reason.Ban back.ban) } in
    stays_back bans d c.delete.new.self back.place back.ban back.pair (back_at d c.back_to.new.self c.delete.new.self back.place e c.back_to.ensures c.in_ok-delete.ensures.deleted) justified c.requires.choice.within covers
