use Rattle.std.proofs.Common.{◌≡◌, All, subst, arith}
use Rattle.std.proofs.lemmas.List.{take_all}
use Rattle.std.proofs.lemmas.List.Elements.{All-more}
use Rattle.circuits.specs.declared.port.Pair.{Pair}
use Rattle.circuits.specs.declared.port.PortKind.TheVariants.{Input}
use Rattle.ban_book.specs.Rows.{AreAlike}
use Rattle.ban_book.proofs.mismatches.first_apart.Goals as goal

pub loop-input-preserved : goal.loop-input-preserved
loop-input-preserved c =
    All-more (λ (pair : Pair). pair.kind ≡ Input → AreAlike c.args.output c.args.first.now c.args.second.now pair) c.args.pairs.now c.loop-input.input-index _ c.loop-input-test.true c.loop-input.invariant c.in_default.ensures.none

pub returns-clause-none : goal.returns-clause-none
returns-clause-none c =
    subst (All (λ (pair : Pair). pair.kind ≡ Input → AreAlike c.args.output c.args.first.now c.args.second.now pair)) (take_all c.loop-input.input-index c.args.pairs.now (omega (arith, c.loop-input-test.false))) c.loop-input.invariant
