use Rattle.std.proofs.Common.{◌∙◌, sym, subst, All}
use Rattle.std.proofs.lemmas.Bool.{false≢true}
use Rattle.std.proofs.lemmas.List.{take_all}
use Rattle.std.proofs.lemmas.List.Elements.{All-more}
use Rattle.circuits.specs.declared.port.Pair.{Pair}
use Rattle.account_core.specs.Ports.{Clash}
use Rattle.ban_book.proofs.BlockListLemmas.{none_of_any}
use Rattle.ban_book.proofs.clash.clashing.Goals as goal

pub loop-pair-preserved : goal.loop-pair-preserved
loop-pair-preserved c =
    All-more (λ (pair : Pair). Clash pair c.args.way → ⊥) c.args.assigned.now c.loop-pair.pair-index _ c.loop-pair-test.true c.loop-pair.invariant (λ clash. false≢true (sym c.if-clash.false ∙ c.clash.ensures.1 clash))

pub returns-clause-none : goal.returns-clause-none
returns-clause-none c =
    none_of_any (λ (pair : Pair). Clash pair c.args.way) c.args.assigned.now (subst (All (λ (pair : Pair). Clash pair c.args.way → ⊥)) (take_all c.loop-pair.pair-index c.args.assigned.now c.loop-pair-test.false) c.loop-pair.invariant)
