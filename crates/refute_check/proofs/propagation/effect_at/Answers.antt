-- What a clause makes true can be made, since its literals are known.
use Rattle.std.proofs.Common.{[], subst, sym, ◌<◌, ◌-◌, length, arith}
use Rattle.refute_check.proofs.WalkLemmas.{can_be_made}
use Rattle.refute_check.proofs.propagation.effect_at.Goals as goal
use Rattle.cnf_core.specs.Clauses.{AreKnown}

pub returns-then-id-count-clause-makes : goal.returns-then-id-count-clause-makes
returns-then-id-count-clause-makes g c literal e =
    let variables = (g.B.Base.formula c.args.base.now).variables in
    let known = subst (AreKnown variables) (sym c.literals.ensures) c.clause-clause.ensures.variables in
    can_be_made c.args.values.now variables c.literals.result.now c.effect_of.result literal c.requires.variables known c.effect_of.ensures e

pub returns-then-id-count-2-clause-makes : goal.returns-then-id-count-2-clause-makes
returns-then-id-count-2-clause-makes g c literal e =
    let variables = (g.B.Base.formula c.args.base.now).variables in
    let place = c.args.id - c.count-count.result in
    let there : place < length c.args.taken.now.clauses = omega (arith, c.if-id-count-2.true, c.count.ensures) in
    let known = subst (AreKnown variables) (sym c.get.ensures) (c.requires.known place [] there) in
    can_be_made c.args.values.now variables c.get.result.now c.effect_of-then-id-count-2.result literal c.requires.variables known c.effect_of-then-id-count-2.ensures e
