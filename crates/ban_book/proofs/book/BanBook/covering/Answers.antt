use Rattle.std.proofs.Common.{subst, All, Some}
use Rattle.std.proofs.lemmas.List.{take_all}
use Rattle.std.proofs.lemmas.List.Elements.{All-more}
use Rattle.ban_book.specs.Chains.{HasNoneWithin}
use Rattle.ban_book.proofs.ChainLemmas.{none_within}
use Rattle.ban_book.proofs.book.BanBook.covering.Goals as goal

pub loop-pair-preserved : goal.loop-pair-preserved
loop-pair-preserved c =
    All-more (λ pair. HasNoneWithin c.args.self.now (Some pair) c.args.pairs.now) c.args.pairs.now c.loop-pair.pair-index _ c.loop-pair-test.true c.loop-pair.invariant c.in_default-last_within.ensures.none

pub returns-clause-none : goal.returns-clause-none
returns-clause-none c =
    none_within c.args.self.now c.args.pairs.now c.in_default.ensures.none (subst (All (λ pair. HasNoneWithin c.args.self.now (Some pair) c.args.pairs.now)) (take_all c.loop-pair.pair-index c.args.pairs.now c.loop-pair-test.false) c.loop-pair.invariant)
