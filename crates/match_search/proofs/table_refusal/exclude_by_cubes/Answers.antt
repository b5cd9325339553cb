use Rattle.std.proofs.Common.{List, refl, sym, subst}
use Rattle.std.specs.Prelude.{IfOk, IfSome}
use Rattle.circuits.specs.declared.port.Pair.{Pair}
use Rattle.ban_book.specs.Covering.{Covers}
use Rattle.account_core.specs.Assigned.{AreAssignable}
use Rattle.pair_search.proofs.PivotLemmas.{assigned_known}
use Rattle.match_search.proofs.StepLemmas.{goes_by}
use Rattle.match_search.proofs.table_refusal.exclude_by_cubes.Goals as goal

pub ban_suspected-requires : goal.ban_suspected-requires
ban_suspected-requires g c =
    let d = c.args.domains.now in
    record {
      may = c.requires.may.may;
      assigned = subst (AreAssignable c.args.graphs.now) (sym c.pairs.ensures.value) (assigned_known c.args.graphs.now d.inputs d.outputs d.entries c.requires.may.trail.trail.fit c.entries-lawful.ensures.lawful);
    }

pub returns : goal.returns
returns g c = record {
  goes_on = goes_by c.ban_suspected.ensures.same c.ban_suspected.ensures.makes refl;
  covers = subst (λ (assigned : List Pair). IfOk c.ban_suspected.result (λ found. IfSome found (Covers c.ban_suspected.new.book assigned))) c.pairs.ensures.value c.ban_suspected.ensures.covers;
}
