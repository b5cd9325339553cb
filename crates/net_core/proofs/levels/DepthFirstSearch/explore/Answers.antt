-- A search begins at its root, and each step leaves less to do.
use Rattle.std.proofs.Common.{◌≡◌, sym, ◌∙◌, arith}
use Rattle.std.proofs.lemmas.List.{get_or_default}
use Rattle.net_core.specs.declared.levels.Visit.TheVariants.{New}
use Rattle.net_core.specs.Search.{visit_of}
use Rattle.net_core.proofs.SearchLaws.{IsUnderWay-start}
use Rattle.net_core.proofs.levels.DepthFirstSearch.explore.Goals as goal

pub loop-self-init : goal.loop-self-init
loop-self-init c =
    let visits = c.args.self.now.visits.items in
    let new : visit_of visits c.args.root ≡ New = get_or_default visits c.args.root New c.index.result.now (omega (arith, c.requires.ready.knows.entries)) ∙ (sym c.index.ensures ∙ c.in-New.is) in
    rw (c.in_ok-enter.ensures.visits, c.in_ok-enter.ensures.stack) (IsUnderWay-start c.args.net.now c.args.root visits c.args.self.now.stack.items c.requires.there new c.requires.ready)
