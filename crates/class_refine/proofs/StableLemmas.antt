-- Where all pairs are settled, and no port is without a way.
use Rattle.std.proofs.Common.{ℕ, ◌<◌, List, get_or, sym, subst, inl, inr}
use Rattle.ban_book.specs.Covering.{Covers}
use Rattle.pair_search.specs.declared.conflict_set.ConflictSet.{ConflictSet}
use Rattle.pair_search.specs.ConflictSets.{IsConflictSet}
use Rattle.ban_book.proofs.BlockListLemmas.{among_more}
use Rattle.circuits.specs.declared.port.Pair.{Pair}
use Rattle.circuits.specs.declared.port.PortKind.{PortKind}
use Rattle.net_core.specs.declared.graphs.Side.{Side}
use Rattle.account_core.specs.declared.step.Ban.{Ban}
use Rattle.account_core.specs.Assigned.{AreAssignable}
use Rattle.pair_domains.specs.Trails.{AreDomains, Domained, IsPairOf, assigned_in, ports_of}
use Rattle.pair_search.proofs.PivotLemmas.{assigned_known}
use Rattle.class_refine.specs.declared.grounds.Grounds.{Grounds}
use Rattle.class_refine.specs.Refining.{Refines}
use Rattle.class_refine.specs.Rows.{decided}
use Rattle.class_refine.specs.Settling.{IsClear, MaySettle, Settled}
use Rattle.class_refine.specs.Stable.{AreClean, HasLeft, HaveNoBan, IsStable, Remains}
use Rattle.class_refine.proofs.NothingLemmas.{nothing_assigned}
use Rattle.class_refine.proofs.RowsLemmas.{all_decided}
use Rattle.class_refine.proofs.TrailLemmas.{pair_of_same}

module _ (g : Grounds) (bans more : List Ban) (before after : Domained) (may : MaySettle g bans before) (lawful : AreDomains before) (refines : Refines g.graphs.now (decided g) bans more before after) (settled : Settled g bans more before after (λ pair. IsPairOf before.inputs before.outputs pair)) (left : (side : Side) (kind : PortKind) (port : ℕ) → port < ports_of after.inputs after.outputs kind → HasLeft after side kind port) where
  clear_of : (pair : Pair) → Remains after pair → IsClear g more (assigned_in after.entries) pair
  clear_of pair remains =
      elim (settled.settled pair (pair_of_same before after pair refines.deletes remains.known)) [
        | inl gone ↦ absurd (remains.left gone)
        | inr clear ↦ clear
      ]

  assigned : AreAssignable g.graphs.now (assigned_in before.entries)
  assigned = assigned_known g.graphs.now before.inputs before.outputs before.entries may.trail.fit lawful

  pub stable_of : IsStable g.graphs.now (decided g) more after
  stable_of = record {
    decided = all_decided g.graphs.now (decided g) g.rows.now may.are.rows_are;
    alone = subst (AreClean g.graphs.now (decided g) more) (sym refines.deletes.assigned) (record {
      no_ban = subst (HaveNoBan more) refines.deletes.assigned settled.no_ban;
      no_facts = nothing_assigned g.graphs.now (decided g) (assigned_in before.entries) g.inputs.now assigned may.inputs_are may.no_facts;
      no_swap = may.no_swap;
    });
    possible = λ pair remains. (clear_of pair remains).possible;
    beside = λ pair remains. (clear_of pair remains).clean;
    ports = left;
  }

-- the ban of a conflict of assigned pairs is within them
pub covers_conflict : (bans : List Ban) (pairs : List Pair) (conflict : ConflictSet) → IsConflictSet bans pairs conflict → Covers bans pairs conflict.ban
covers_conflict bans pairs conflict is = record {
  kept = is.covers.kept;
  within = λ d. record { among = among_more (get_or bans conflict.ban d).pairs conflict.pairs.items pairs (is.covers.within d).among is.part.among };
}
