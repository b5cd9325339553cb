-- One clause more.
use Rattle.std.proofs.Common.{◌≤◌, List, length, sym, subst}
use Rattle.cnf_core.specs.declared.literal.SatLit.{SatLit}
use Rattle.ask_core.specs.Renamings.{IsNamed}
use Rattle.ask_core.proofs.BaseLemmas.{none, over_places_more}
use Rattle.ask_core.proofs.clauses.all_over_places.Goals as goal

pub over_places-requires-clause-some : goal.over_places-requires-clause-some
over_places-requires-clause-some c =
    subst (λ (cl : List SatLit). 1 ≤ length cl) (sym c.literals.ensures) (c.requires.filled c.loop-clause.clause-index none c.loop-clause-test.true)

pub over_places-requires-clause-named : goal.over_places-requires-clause-named
over_places-requires-clause-named c =
    subst (IsNamed c.args.names.now) (sym c.literals.ensures) (c.requires.named c.loop-clause.clause-index none c.loop-clause-test.true)

pub loop-clause-preserved : goal.loop-clause-preserved
loop-clause-preserved c =
    let i = c.loop-clause.clause-index in
    let filled = subst (λ (cl : List SatLit). 1 ≤ length cl) (sym c.literals.ensures) (c.requires.filled i none c.loop-clause-test.true) in
    over_places_more c.args.names.now c.args.clauses.now i c.loop-clause.dense.items c.push.new.self.items c.over_places.result c.literals.result.now none c.loop-clause.invariant c.loop-clause-test.true c.literals.ensures filled c.over_places.ensures.back c.over_places.ensures.known c.over_places.ensures.some c.over_places.ensures.short c.in_ok-push.ensures.items
