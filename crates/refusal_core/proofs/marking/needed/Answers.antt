-- The ban before has its turn, and then all had theirs.
use Rattle.std.proofs.Common.{◌≡◌, ◌+◌, ◌-◌, ◌<◌, All, arith, length, slice_index_or, subst, sym}
use Rattle.std.proofs.lemmas.List.Elements.{All-weaker}
use Rattle.refusal_core.specs.Names.{facts_named}
use Rattle.refusal_core.proofs.NeededLemmas.{IsMarking, marking_all, marking_more}
use Rattle.refusal_core.proofs.marking.needed.Goals as goal

pub mark_named-requires-clause-facts : goal.mark_named-requires-clause-facts
mark_named-requires-clause-facts c =
    let below : c.loop-left.left - 1 < length c.args.bans.now = omega (arith, c.loop-left-test.true, c.loop-left.invariant.0, c.requires.inside) in
    subst (λ n. All (λ k. k < n) (facts_named (slice_index_or c.args.bans.now (c.loop-left.left - 1) c.index-bans-left.result).step)) (sym c.loop-left.invariant.1.as_many_facts) (c.requires.earlier (c.loop-left.left - 1) c.index-bans-left.result below).facts

pub mark_named-requires-clause-bans : goal.mark_named-requires-clause-bans
mark_named-requires-clause-bans c =
    let below : c.loop-left.left - 1 < length c.args.bans.now = omega (arith, c.loop-left-test.true, c.loop-left.invariant.0, c.requires.inside) in
    All-weaker (λ k. k < c.loop-left.left - 1) (λ k. k < length c.loop-left.marks.bans.items) (λ k less. omega (arith, less, below, c.loop-left.invariant.1.as_many_bans)) _
    (c.requires.earlier (c.loop-left.left - 1) c.index-bans-left.result below).bans

pub loop-left-preserved : goal.loop-left-preserved
loop-left-preserved c =
    let below : c.loop-left.left - 1 < length c.args.bans.now = omega (arith, c.loop-left-test.true, c.loop-left.invariant.0, c.requires.inside) in
    let next : c.loop-left.left ≡ (c.loop-left.left - 1) + 1 = omega (arith, c.loop-left-test.true) in (
      omega (arith, c.loop-left.invariant.0),
      marking_more c.args.bans.now c.args.facts c.args.number (c.loop-left.left - 1) c.index-bans-left.result c.loop-left.marks c.mark_named.new.marks c.requires.earlier below
          (subst (λ n. IsMarking c.args.bans.now c.args.facts c.args.number n c.loop-left.marks) next c.loop-left.invariant.1)
          c.mark_named.ensures,
    )

pub returns-clause-needed : goal.returns-clause-needed
returns-clause-needed c = marking_all c.args.bans.now c.args.facts c.args.number c.loop-left.left c.loop-left.marks (omega (arith, c.loop-left-test.false)) c.loop-left.invariant.1
