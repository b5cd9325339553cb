use Rattle.std.proofs.Common.{◌<◌, ◌+◌, List, length, take, All, Contains, sym, subst, arith}
use Rattle.circuits.specs.declared.port.Pair.{Pair}
use Rattle.pair_domains.specs.Trails.{assigned_in}
use Rattle.ban_book.specs.Covering.{Covers}
use Rattle.pair_search.proofs.GroundedLemmas.{learns_twice, trail_later}
use Rattle.pair_search.proofs.PivotLemmas.{back_is}
use Rattle.pair_search.proofs.ResolveLemmas.{last_lent, none_left, resolving_at, resolving_on}
use Rattle.pair_search.proofs.resolution.resolve.Goals as goal

pub pivot_at-requires-clause-among : goal.pivot_at-requires-clause-among
pivot_at-requires-clause-among c =
    let es = c.args.domains.now.entries in
    let conflict = c.loop-last.conflict in
    let last = last_lent (assigned_in es) c.pairs.result.now conflict.pairs.items c.deref.result.now c.loop-last.limit c.in-Some.last c.pairs.ensures.value c.deref.ensures.value c.in-Some.ensures.found in
    let at = resolving_at c.args.graphs.now es c.args.book.now c.loop-last.book conflict c.loop-last.limit c.in-Some.last c.loop-last.invariant last in
    subst (All (Contains (take (c.in-Some.last + 1) (assigned_in es)))) (sym c.deref-in-Some.ensures.value) at.part.among

pub returns-in-Choice-clause-learned : goal.returns-in-Choice-clause-learned
returns-in-Choice-clause-learned c =
    let d = c.args.domains.now in
    let es = d.entries in
    let conflict = c.loop-last.conflict in
    let last = last_lent (assigned_in es) c.pairs.result.now conflict.pairs.items c.deref.result.now c.loop-last.limit c.in-Some.last c.pairs.ensures.value c.deref.ensures.value c.in-Some.ensures.found in
    let inside : c.in-Some.last < length (assigned_in es) = omega (arith, last.within, c.loop-last.invariant.within) in
    back_is d c.loop-last.book conflict.pairs.items c.deref-in-Some.result.now c.in-Some.last c.in-Choice.place conflict.ban c.back_to.result c.entries-lawful.ensures.lawful inside c.deref-in-Some.ensures.value c.in-Choice.ensures c.loop-last.invariant.conflict_is.covers c.back_to.ensures

pub resolve_on-requires-clause-trail : goal.resolve_on-requires-clause-trail
resolve_on-requires-clause-trail c =
    trail_later c.args.graphs.now c.args.book.now c.loop-last.book c.args.domains.now c.loop-last.invariant.more c.requires.trail

pub resolve_on-requires-clause-conflict : goal.resolve_on-requires-clause-conflict
resolve_on-requires-clause-conflict c =
    let es = c.args.domains.now.entries in
    let conflict = c.loop-last.conflict in
    let last = last_lent (assigned_in es) c.pairs.result.now conflict.pairs.items c.deref.result.now c.loop-last.limit c.in-Some.last c.pairs.ensures.value c.deref.ensures.value c.in-Some.ensures.found in
    let at = resolving_at c.args.graphs.now es c.args.book.now c.loop-last.book conflict c.loop-last.limit c.in-Some.last c.loop-last.invariant last in
    record { part = record { among = at.part.among; ordered = at.part.ordered }; covers = at.covers }

pub returns-in_err-conflict-in-Forced-clause-more : goal.returns-in_err-conflict-in-Forced-clause-more
returns-in_err-conflict-in-Forced-clause-more c =
    learns_twice c.args.graphs.now c.args.domains.now.entries c.args.book.now c.loop-last.book c.resolve_on.new.book c.loop-last.invariant.more c.in_err-conflict-in-Forced.ensures.more

pub loop-last-preserved : goal.loop-last-preserved
loop-last-preserved c =
    let es = c.args.domains.now.entries in
    let conflict = c.loop-last.conflict in
    let last = last_lent (assigned_in es) c.pairs.result.now conflict.pairs.items c.deref.result.now c.loop-last.limit c.in-Some.last c.pairs.ensures.value c.deref.ensures.value c.in-Some.ensures.found in
    resolving_on c.args.graphs.now es c.args.book.now c.loop-last.book c.resolve_on.new.book conflict _ c.loop-last.limit c.in-Some.last c.loop-last.invariant last.within c.in_ok-conflict-in-Forced.ensures.more c.in_ok-conflict-in-Forced.ensures.conflict

pub returns-clause-learned : goal.returns-clause-learned
returns-clause-learned c =
    let es = c.args.domains.now.entries in
    let conflict = c.loop-last.conflict in
    let none = subst (λ (l : List Pair). All (λ pair. Contains conflict.pairs.items pair → ⊥) (take c.loop-last.limit l)) c.pairs.ensures.value (subst (λ (ps : List Pair). All (λ pair. Contains ps pair → ⊥) (take c.loop-last.limit c.pairs.result.now)) c.deref.ensures.value c.in_default.ensures.none) in
    subst (λ (l : List Pair). Covers c.loop-last.book l conflict.ban) (none_left conflict.pairs.items (take c.loop-last.limit (assigned_in es)) c.loop-last.invariant.conflict_is.part.among none) c.loop-last.invariant.conflict_is.covers
