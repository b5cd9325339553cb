use Rattle.std.proofs.Common.{◌≡◌, true, All, sym, subst, ◌∙◌, arith}
use Rattle.std.proofs.lemmas.List.{take_all}
use Rattle.std.proofs.lemmas.List.Elements.{All-more}
use Rattle.cnf_core.specs.Derivations.{is_false}
use Rattle.trail_core.specs.Trails.{literals}
use Rattle.watch_lists.proofs.watch_choice.first_not_false.Goals as goal
use Rattle.cnf_core.proofs.LiteralLemmas.{no_literal}

pub loop-literal-preserved : goal.loop-literal-preserved
loop-literal-preserved c =
    All-more (λ l. is_false (literals c.args.trail.now.entries) l ≡ true) c.args.clause.now c.loop-literal.literal-index no_literal c.loop-literal-test.true c.loop-literal.invariant (sym c.is_false.ensures ∙ c.if-not-is_false.false)

pub returns-clause-none : goal.returns-clause-none
returns-clause-none c =
    subst (All (λ l. is_false (literals c.args.trail.now.entries) l ≡ true)) (take_all c.loop-literal.literal-index c.args.clause.now (omega (arith, c.loop-literal-test.false))) c.loop-literal.invariant
