use Rattle.std.proofs.Common.{◌∷◌, ℕ, List, All, IfSome, sym, subst, ◌∙◌}
use Rattle.circuits.specs.declared.port.Pair.{Pair}
use Rattle.account_core.specs.Ports.{IsKnown}
use Rattle.ban_book.specs.Covering.{Covers}
use Rattle.ban_book.specs.Ways.{ways_in, AreClosed, IsBlock}
use Rattle.ban_book.proofs.KeepLemmas.{part_known}
use Rattle.pair_domains.specs.Trails.{IsPairOf}
use Rattle.pair_search.specs.Resolutions.{left_out}
use Rattle.pair_search.proofs.ConflictLemmas.{gathered_as, resolved_among, second_ports}
use Rattle.pair_search.proofs.NamedLemmas.{named_as, ways_known}
use Rattle.pair_search.proofs.GroundedLemmas.{learns_added, learns_none, learns_twice}
use Rattle.pair_search.proofs.conflict_set.cover_block.Goals as goal

pub gather-requires-clause-known : goal.gather-requires-clause-known
gather-requires-clause-known c =
    let d = c.args.view.now.domains.now in
    subst (All (IsPairOf d.inputs d.outputs)) (sym (c.deref.ensures.value ∙ c.in_ok-ways.ensures)) (ways_known d.inputs d.outputs c.args.block c.requires.block)

pub gather-requires-clause-named : goal.gather-requires-clause-named
gather-requires-clause-named c =
    named_as c.args.view.now.domains.now.entries (left_out c.args.resolved) c.way_of-skipped.result c.args.book.now c.bans.result.now (ways_in c.args.block) c.deref.result.now c.args.view.now.assigned.now (sym c.way_of-skipped.ensures) (sym c.bans.ensures) (sym (c.deref.ensures.value ∙ c.in_ok-ways.ensures)) c.requires.named

pub returns-in_err-bans-clause-more : goal.returns-in_err-bans-clause-more
returns-in_err-bans-clause-more c = learns_none c.args.view.now.graphs.now c.args.view.now.domains.now.entries c.args.book.now

pub refer-requires-clause-known : goal.refer-requires-clause-known
refer-requires-clause-known c =
    let d = c.args.view.now.domains.now in
    subst (All (IsPairOf d.inputs d.outputs)) (sym (c.deref-2.ensures.value ∙ c.in_ok-ways.ensures)) (ways_known d.inputs d.outputs c.args.block c.requires.block)

pub refer-requires-clause-resolved : goal.refer-requires-clause-resolved
refer-requires-clause-resolved c =
    subst (λ (l : List Pair). IfSome c.args.resolved (λ it. Covers c.args.book.now (it.way ∷ l) it.ban)) (sym c.deref-4.ensures.value) (resolved_among c.args.book.now c.args.pairs.items c.gather.new.conflict.items c.args.resolved c.in_ok-bans.ensures.adds.stays c.requires.resolved)

pub refer-requires-clause-gathered : goal.refer-requires-clause-gathered
refer-requires-clause-gathered c =
    gathered_as c.args.view.now.domains.now.entries c.way_of-skipped.result (left_out c.args.resolved) c.bans.result.now c.args.book.now c.deref.result.now c.deref-2.result.now c.gather.new.conflict.items c.deref-4.result.now c.in_ok-bans.bans.items c.deref-3.result.now c.way_of-skipped.ensures c.bans.ensures (c.deref.ensures.value ∙ sym c.deref-2.ensures.value) (sym c.deref-4.ensures.value) (sym c.deref-3.ensures.value) c.in_ok-bans.ensures.gathered

pub keep_cover-requires-clause-known : goal.keep_cover-requires-clause-known
keep_cover-requires-clause-known c =
    subst (All (IsKnown c.args.view.now.graphs.now)) (sym c.deref-5.ensures.value) (part_known c.args.view.now.graphs.now c.args.view.now.assigned.now c.gather.new.conflict.items c.requires.assigned c.in_ok-bans.ensures.adds.part)

pub keep_cover-requires-clause-block : goal.keep_cover-requires-clause-block
keep_cover-requires-clause-block c =
    let d = c.args.view.now.domains.now in
    subst (λ (n : ℕ). IsBlock n c.args.block) (sym (second_ports c.args.view.now.graphs.now d.inputs d.outputs c.args.block.kind c.requires.fit)) c.requires.block

pub keep_cover-requires-clause-closed : goal.keep_cover-requires-clause-closed
keep_cover-requires-clause-closed c =
    let ways_are = c.deref-2.ensures.value ∙ c.in_ok-ways.ensures in
    let pairs_are = c.deref-4.ensures.value ∙ sym c.deref-5.ensures.value in
    subst (λ l. AreClosed c.refer.new.book c.deref-5.result.now l c.in_ok-refs.refs) ways_are (subst (λ l. AreClosed c.refer.new.book l c.deref-2.result.now c.in_ok-refs.refs) pairs_are c.in_ok-refs.ensures.closed)

pub returns-in_err-ban-clause-more : goal.returns-in_err-ban-clause-more
returns-in_err-ban-clause-more c =
    learns_twice c.args.view.now.graphs.now c.args.view.now.domains.now.entries c.args.book.now c.refer.new.book c.keep_cover.new.book c.in_ok-refs.ensures.more (learns_added c.args.view.now.graphs.now c.args.view.now.domains.now.entries c.refer.new.book c.keep_cover.new.book c.in_err-ban.ensures.more)

pub returns-clause-more : goal.returns-clause-more
returns-clause-more c =
    learns_twice c.args.view.now.graphs.now c.args.view.now.domains.now.entries c.args.book.now c.refer.new.book c.keep_cover.new.book c.in_ok-refs.ensures.more (learns_added c.args.view.now.graphs.now c.args.view.now.domains.now.entries c.refer.new.book c.keep_cover.new.book c.in_ok-ban.ensures.more)
