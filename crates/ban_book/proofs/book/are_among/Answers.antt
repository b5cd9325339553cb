use Rattle.std.proofs.Common.{rules, ◌∙◌, sym, subst, All}
use Rattle.std.specs.Prelude.{Contains}
use Rattle.std.proofs.lemmas.Bool.{false≢true}
use Rattle.std.proofs.lemmas.List.{take_all}
use Rattle.std.proofs.lemmas.List.Elements.{All-more}
use Rattle.ban_book.proofs.book.are_among.Goals as goal

pub returns-then-not-contains : goal.returns-then-not-contains
returns-then-not-contains c =
    (λ is. absurd (false≢true is), λ all. absurd (false≢true (sym c.if-not-contains.true ∙ c.contains.ensures.1 (all c.loop-other.other-index _ c.loop-other-test.true))))

pub loop-other-preserved : goal.loop-other-preserved
loop-other-preserved c =
    All-more (Contains c.args.pairs.now) c.args.others.now c.loop-other.other-index _ c.loop-other-test.true c.loop-other.invariant (c.contains.ensures.0 c.if-not-contains.false)

pub returns : goal.returns
returns c =
    (λ is. subst (All (Contains c.args.pairs.now)) (take_all c.loop-other.other-index c.args.others.now c.loop-other-test.false) c.loop-other.invariant, λ all. search rules)
