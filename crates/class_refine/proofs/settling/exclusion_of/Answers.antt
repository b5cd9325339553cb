use Rattle.std.proofs.Common.{◌∷◌, All, List, ap, subst, sym, ◌∙◌}
use Rattle.std.proofs.lemmas.List.Elements.{All-cons}
use Rattle.circuits.specs.declared.port.Pair.{Pair}
use Rattle.account_core.specs.Covers.{IsImpossible}
use Rattle.account_core.specs.Ports.{IsKnown}
use Rattle.ban_book.specs.Vectors.{HaveNoFacts}
use Rattle.pair_domains.specs.Trails.{assigned_in}
use Rattle.account_core.specs.Assigned.{AreAssignable}
use Rattle.pair_search.proofs.PivotLemmas.{assigned_known}
use Rattle.class_refine.specs.Rows.{decided}
use Rattle.class_refine.specs.Stable.{HaveNoBan, HaveNoSwapMismatch}
use Rattle.class_refine.proofs.TrailLemmas.{known_of}
use Rattle.class_refine.proofs.settling.exclusion_of.Goals as goal

pub way_ban-requires-clause-assigned : goal.way_ban-requires-clause-assigned
way_ban-requires-clause-assigned c =
    let d = c.args.domains.now in
    subst (AreAssignable c.args.grounds.now.graphs.now) (sym c.pairs-assigned.ensures.value) (assigned_known c.args.grounds.now.graphs.now d.inputs d.outputs d.entries c.requires.may.trail.fit c.entries-lawful.ensures.lawful)

pub swap_ban-requires-clause-known : goal.swap_ban-requires-clause-known
swap_ban-requires-clause-known c =
    let graphs = c.args.grounds.now.graphs.now in
    let d = c.args.domains.now in
    let assigned = assigned_known graphs d.inputs d.outputs d.entries c.requires.may.trail.fit c.entries-lawful.ensures.lawful in
    let there = known_of graphs d.inputs d.outputs c.args.way c.requires.may.trail.fit c.requires.known in
    subst (All (IsKnown graphs)) (sym (c.deref-2.ensures.value ∙ (c.in_ok-pairs.ensures ∙ ap (λ l. c.args.way ∷ l) c.pairs-assigned.ensures.value))) (All-cons (IsKnown graphs) c.args.way (assigned_in d.entries) there assigned.known)

pub returns-clause-none : goal.returns-clause-none
returns-clause-none c =
    let graphs = c.args.grounds.now.graphs.now in
    let facts = decided c.args.grounds.now in
    let beside = c.in_ok-pairs.ensures ∙ ap (λ l. c.args.way ∷ l) c.pairs-assigned.ensures.value in
    record {
      possible = subst (λ (l : List Pair). IsImpossible l c.args.way → ⊥) c.pairs-assigned.ensures.value c.in_default.ensures.none;
      clean = record {
        no_ban = subst (HaveNoBan c.args.book.now) (c.deref.ensures.value ∙ beside) c.in_default-covering.ensures.none;
        no_facts = subst (HaveNoFacts graphs facts) (ap (λ l. c.args.way ∷ l) c.pairs-assigned.ensures.value) (rw c.in_default-2.is at c.in_ok-ban.ensures.none);
        no_swap = subst (HaveNoSwapMismatch graphs facts) (c.deref-2.ensures.value ∙ beside) (rw c.in-None.is at c.in_ok-ban-2.ensures.none);
      };
    }
