use Rattle.std.proofs.Common.{List, get_or, inr, sym, subst}
use Rattle.circuits.specs.declared.port.Pair.{Pair}
use Rattle.account_core.specs.Assigned.{AreAssignable}
use Rattle.ban_book.specs.Ways.{nth_way, ways_in}
use Rattle.pair_search.specs.Named.{AreNamed}
use Rattle.pair_search.proofs.JustifiedLemmas.{names_assigned}
use Rattle.pair_search.proofs.PivotLemmas.{assigned_known}
use Rattle.pair_search.proofs.conflict.conflict_set_of.Goals as goal

pub cover_port-requires-clause-assigned : goal.cover_port-requires-clause-assigned
cover_port-requires-clause-assigned c =
    let d = c.args.domains.now in
    subst (AreAssignable c.args.graphs.now) (sym c.pairs-assigned.ensures.value) (assigned_known c.args.graphs.now d.inputs d.outputs d.entries c.requires.trail.fit c.entries-lawful.ensures.lawful)

pub cover_port-requires-clause-named : goal.cover_port-requires-clause-named
cover_port-requires-clause-named c = λ number below.
    let d = c.args.domains.now in
    let port = c.in-Port.port in
    let way = nth_way port.side port.kind port.number number in
    let gone = (rw c.in-Port.is at c.requires.conflict).each number below in
    inr (gone.0, gone.1, subst (λ (l : List Pair). AreNamed c.args.book.now l way gone.0) (sym c.pairs-assigned.ensures.value) (names_assigned d.inputs d.outputs c.args.book.now d.entries way gone.0 c.requires.trail.justified gone.1))

pub cover_block-requires-clause-assigned : goal.cover_block-requires-clause-assigned
cover_block-requires-clause-assigned c =
    let d = c.args.domains.now in
    subst (AreAssignable c.args.graphs.now) (sym c.pairs-assigned.ensures.value) (assigned_known c.args.graphs.now d.inputs d.outputs d.entries c.requires.trail.fit c.entries-lawful.ensures.lawful)

pub cover_block-requires-clause-named : goal.cover_block-requires-clause-named
cover_block-requires-clause-named c = λ k e below.
    let d = c.args.domains.now in
    let way = get_or (ways_in c.in-Block.block) k e in
    let gone = (rw c.in-Block.is at c.requires.conflict).each k e below in
    inr (gone.0, gone.1, subst (λ (l : List Pair). AreNamed c.args.book.now l way gone.0) (sym c.pairs-assigned.ensures.value) (names_assigned d.inputs d.outputs c.args.book.now d.entries way gone.0 c.requires.trail.justified gone.1))
