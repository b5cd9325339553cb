use Rattle.std.proofs.Common.{List, sym, subst}
use Rattle.std.specs.Prelude.{Contains, IfOk, IfSome}
use Rattle.circuits.specs.declared.port.Pair.{Pair}
use Rattle.ban_book.specs.Covering.{Covers}
use Rattle.account_core.specs.Assigned.{AreAssignable}
use Rattle.pair_search.proofs.PivotLemmas.{assigned_known}
use Rattle.match_search.proofs.StepLemmas.{goes_ok, gone_none}
use Rattle.match_search.proofs.table_refusal.exclude_by_swaps_at.Goals as goal

pub returns-in_default : goal.returns-in_default
returns-in_default g c = record { goes_on = goes_ok (gone_none c.requires.may.may); covers = tt }

pub exclude_by_swaps-requires : goal.exclude_by_swaps-requires
exclude_by_swaps-requires g c =
    let d = c.args.domains.now in
    record {
      may = c.requires.may.may;
      known = (subst (AreAssignable c.args.graphs.now) (sym c.pairs.ensures.value) (assigned_known c.args.graphs.now d.inputs d.outputs d.entries c.requires.may.trail.trail.fit c.entries-lawful.ensures.lawful)).known;
      latest = subst (λ (assigned : List Pair). Contains assigned c.in-Some.latest) (sym c.pairs.ensures.value) (rw c.in-Some.is at c.next_assigned.ensures);
    }

pub returns : goal.returns
returns g c = record {
  goes_on = c.exclude_by_swaps.ensures.goes_on;
  covers = subst (λ (assigned : List Pair). IfOk c.exclude_by_swaps.result (λ found. IfSome found (Covers c.exclude_by_swaps.new.session.book.now assigned))) c.pairs.ensures.value c.exclude_by_swaps.ensures.covers;
}
