use Rattle.std.proofs.Common.{◌∷◌, List, Some, All, Contains, sym, subst, arith}
use Rattle.circuits.specs.declared.port.Pair.{Pair}
use Rattle.account_core.specs.Tallies.{port_on}
use Rattle.account_core.specs.Assigned.{AreAssignable}
use Rattle.ban_book.specs.Ways.{nth_way}
use Rattle.pair_domains.specs.declared.entry.Fate.TheVariants.{Assigned}
use Rattle.pair_domains.specs.declared.entry.Cause.TheVariants.{LastWay}
use Rattle.pair_domains.specs.Trails.{assigned_in}
use Rattle.pair_search.specs.Named.{IsLeftOutOr, IsNamedIn}
use Rattle.pair_search.proofs.JustifiedLemmas.{ways_before}
use Rattle.pair_search.proofs.PivotLemmas.{assigned_first, assigned_known}
use Rattle.pair_search.proofs.ResolveLemmas.{part_without}
use Rattle.pair_search.proofs.resolution.resolve_on.Goals as goal
use Rattle.ban_book.proofs.BookLemmas.{covers_wider}

pub cover_port-requires-clause-assigned : goal.cover_port-requires-clause-assigned
cover_port-requires-clause-assigned c =
    let d = c.args.domains.now in
    subst (AreAssignable c.args.graphs.now) (sym c.first_assigned.ensures) (assigned_first c.args.graphs.now (assigned_in d.entries) c.args.forced.place (omega (arith, c.requires.within)) (assigned_known c.args.graphs.now d.inputs d.outputs d.entries c.requires.trail.fit c.entries-lawful.ensures.lawful))

pub cover_port-requires-clause-named : goal.cover_port-requires-clause-named
cover_port-requires-clause-named c = λ number below.
    let d = c.args.domains.now in
    let es = d.entries in
    let way = c.assigned_at-way.result in
    let side = c.args.forced.side in
    let there = subst (λ (p : Pair). Contains es (record { pair = p; fate = Assigned (LastWay side) })) (c.assigned_at-way.ensures.value way) (c.requires.forced way) in
    let ways = ways_before d.inputs d.outputs c.args.book.now es c.args.forced.place way side c.entries-lawful.ensures.lawful.apart c.requires.trail.justified there c.requires.within (c.assigned_at-way.ensures.value way) number below in
    subst (λ n. IsLeftOutOr (Some way) (nth_way side way.kind n number) (IsNamedIn c.args.book.now es c.first_assigned.result.now (nth_way side way.kind n number))) (sym c.port_on.ensures) (subst (λ (l : List Pair). IsLeftOutOr (Some way) (nth_way side way.kind (port_on side way) number) (IsNamedIn c.args.book.now es l (nth_way side way.kind (port_on side way) number))) (sym c.first_assigned.ensures) ways)

pub cover_port-requires-clause-part : goal.cover_port-requires-clause-part
cover_port-requires-clause-part c = record {
  among = subst (λ (l : List Pair). All (Contains l) c.without-pairs.result.items) (sym c.first_assigned.ensures) (part_without (assigned_in c.args.domains.now.entries) c.args.forced.place c.assigned_at-way.result c.args.forced.conflict.pairs.items c.without-pairs.result.items c.requires.within c.assigned_at-way.ensures.value c.requires.conflict.part.among c.without-pairs.ensures.fewer c.without-pairs.ensures.gone);
  ordered = c.without-pairs.ensures.ordered;
}

pub cover_port-requires-clause-resolved : goal.cover_port-requires-clause-resolved
cover_port-requires-clause-resolved c =
    covers_wider c.args.book.now c.args.forced.conflict.pairs.items (c.assigned_at-way.result ∷ c.without-pairs.result.items) c.args.forced.conflict.ban c.without-pairs.ensures.others c.requires.conflict.covers
