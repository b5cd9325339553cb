-- The record before has its turn, and then all had theirs.
use Rattle.std.proofs.Common.{◌≡◌, ◌+◌, ◌-◌, ◌<◌, length, subst, arith}
use Rattle.account_trim.proofs.ReachLemmas.{IsMarking, marking_all, marking_more, names_within}
use Rattle.account_trim.proofs.reaching.reached.Goals as goal

pub returns : goal.returns
returns c = marking_all c.args.links.now c.loop-left.left c.loop-left.marks.items (omega (arith, c.loop-left-test.false)) c.loop-left.invariant.1

pub mark_named-requires-clause-named : goal.mark_named-requires-clause-named
mark_named-requires-clause-named c =
    let below : c.loop-left.left - 1 < length c.args.links.now = omega (arith, c.loop-left-test.true, c.loop-left.invariant.0) in
    names_within c.args.links.now (c.loop-left.left - 1) c.index-links-left-in-loop-left.result c.index-links-left.result.is_root c.loop-left.marks.items c.mark_root.new.marks.items c.requires below c.loop-left.invariant.1.as_many c.index-links-left-in-loop-left.is c.mark_root.ensures

pub loop-left-preserved : goal.loop-left-preserved
loop-left-preserved c =
    let below : c.loop-left.left - 1 < length c.args.links.now = omega (arith, c.loop-left-test.true, c.loop-left.invariant.0) in
    let next : c.loop-left.left ≡ (c.loop-left.left - 1) + 1 = omega (arith, c.loop-left-test.true) in (
      omega (arith, c.loop-left.invariant.0),
      marking_more c.args.links.now (c.loop-left.left - 1) c.index-links-left.result c.index-links-left-in-loop-left.result c.loop-left.marks.items c.mark_root.new.marks.items c.mark_named.new.marks.items c.requires below
          (subst (λ n. IsMarking c.args.links.now n c.loop-left.marks.items) next c.loop-left.invariant.1)
          c.index-links-left.is c.index-links-left-in-loop-left.is c.mark_root.ensures c.mark_named.ensures,
    )
