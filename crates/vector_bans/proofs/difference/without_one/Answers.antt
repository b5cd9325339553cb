use Rattle.std.proofs.Common.{List, ap, arith, length, subst}
use Rattle.circuits.specs.declared.port.Pair.{Pair}
use Rattle.vector_bans.specs.Differences.{IsLeftOut}
use Rattle.vector_bans.proofs.ShownLemmas.{shown_less}
use Rattle.vector_bans.proofs.difference.without_one.Goals as goal

pub returns-in-Some-2 : goal.returns-in-Some-2
returns-in-Some-2 c = λ whole shown.
    let left = rw c.in-Some-2.is at c.in_ok-fewer.ensures in
    shown_less c.args.graphs.now whole c.args.tried.now.pair c.args.tried.now.values.now c.args.pairs.items c.in-Some.place c.in-Some-2.fewer.items (omega (arith, c.in-Some.ensures.found, ap length c.deref.ensures.value)) shown (subst (λ (l : List Pair). IsLeftOut c.args.graphs.now c.args.tried.now.pair c.args.tried.now.values.now l c.in-Some.place c.in-Some-2.fewer.items) c.deref-2.ensures.value left)
