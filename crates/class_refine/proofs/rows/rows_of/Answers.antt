use Rattle.std.proofs.Common.{List, map, refl, subst}
use Rattle.account_core.specs.Given.{decided_by}
use Rattle.account_core.specs.declared.fact.Fact.{Fact}
use Rattle.fact_bans.proofs.ServeLemmas.{ask_later, served_one, served_then, serves_err, serves_memory, serves_ok}
use Rattle.class_refine.specs.Swaps.{IsSwapIndex}
use Rattle.class_refine.proofs.RowsLemmas.{rows_grow}
use Rattle.class_refine.proofs.rows.rows_of.Goals as goal

pub side_rows-requires-2 : goal.side_rows-requires-2
side_rows-requires-2 g c = record { may = ask_later _ _ _ _ _ c.requires.may (served_one _ _ _ _ _ c.in_ok-first.ensures.serves) }

pub returns-in_err-second-clause-serves : goal.returns-in_err-second-clause-serves
returns-in_err-second-clause-serves g c =
    serves_err _ _ _ _ _ _ _ c.in_err-second.field-0.0 c.from_residual-in_err-second.ensures.1 (served_one _ _ _ _ _ c.in_ok-first.ensures.serves) c.in_err-second.ensures.serves

pub returns-in_err-swaps-clause-serves : goal.returns-in_err-swaps-clause-serves
returns-in_err-swaps-clause-serves g c =
    serves_memory _ _ _ _ _ c.from_residual-in_err-swaps.ensures.1 (served_then _ _ _ _ _ _ (served_one _ _ _ _ _ c.in_ok-first.ensures.serves) (served_one _ _ _ _ _ c.in_ok-second.ensures.serves))

pub returns-clause-serves : goal.returns-clause-serves
returns-clause-serves g c =
    serves_ok _ _ _ _ _ _ refl (served_then _ _ _ _ _ _ (served_one _ _ _ _ _ c.in_ok-first.ensures.serves) (served_one _ _ _ _ _ c.in_ok-second.ensures.serves))

pub returns-clause-rows : goal.returns-clause-rows
returns-clause-rows g c = record {
  first = rows_grow _ _ _ _ _ _ c.in_ok-second.ensures.serves.grows c.in_ok-first.ensures.rows;
  second = c.in_ok-second.ensures.rows;
  swaps = subst (λ (l : List Fact). IsSwapIndex (map decided_by l) c.in_ok-swaps.swaps.entries) c.facts.ensures.value c.in_ok-swaps.ensures;
}
