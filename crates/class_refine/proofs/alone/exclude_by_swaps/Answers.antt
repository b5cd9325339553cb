use Rattle.class_refine.specs.Rows.{decided}
use Rattle.class_refine.proofs.TrailLemmas.{shown_one}
use Rattle.class_refine.proofs.alone.exclude_by_swaps.Goals as goal

pub returns-clause-adds : goal.returns-clause-adds
returns-clause-adds c =
    let g = c.args.grounds.now in
    shown_one g.graphs.now (decided g) c.args.assigned.now c.args.book.now c.hold.new.self c.in-Some.ban c.in_ok-hold.ensures.added (rw c.in-Some.is at c.in_ok-ban.ensures.shown)
