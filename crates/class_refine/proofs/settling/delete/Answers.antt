use Rattle.class_refine.specs.Rows.{decided}
use Rattle.class_refine.proofs.SettleLemmas.{settles_deleted}
use Rattle.class_refine.proofs.TrailLemmas.{refines_one}
use Rattle.class_refine.proofs.settling.delete.Goals as goal

pub returns : goal.returns
returns c = λ grounds bans no_ban named shown.
    let d = c.args.domains.now in
    settles_deleted grounds bans d c.delete.new.self c.args.way c.args.reason c.in_ok-delete.ensures.deleted (refines_one grounds.graphs.now (decided grounds) bans d c.delete.new.self c.args.way c.args.reason c.in_ok-delete.ensures.deleted c.entries-lawful.ensures.lawful c.requires.known c.requires.open named shown) no_ban
