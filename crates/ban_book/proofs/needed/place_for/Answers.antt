use Rattle.std.proofs.Common.{◌∙◌, sym, subst}
use Rattle.std.proofs.lemmas.Bool.{false≢true}
use Rattle.std.proofs.lemmas.List.{get_or_default}
use Rattle.std.proofs.lemmas.List.Elements.{All-more}
use Rattle.circuits.specs.declared.port.Pair.{Pair}
use Rattle.account_core.specs.Assigned.{StandsBefore}
use Rattle.ban_book.proofs.needed.place_for.Goals as goal

pub returns-then-not-stands_before-clause-after : goal.returns-then-not-stands_before-clause-after
returns-then-not-stands_before-clause-after c =
    λ d below before. false≢true (sym c.if-not-stands_before.true ∙ c.stands_before.ensures.1 (subst (λ (p : Pair). StandsBefore p c.args.pair) (get_or_default c.args.pairs.now c.loop-place.place d _ below) before))

pub loop-place-preserved : goal.loop-place-preserved
loop-place-preserved c =
    All-more (λ (other : Pair). StandsBefore other c.args.pair) c.args.pairs.now c.loop-place.place _ c.loop-place-test.true c.loop-place.invariant (c.stands_before.ensures.0 c.if-not-stands_before.false)
