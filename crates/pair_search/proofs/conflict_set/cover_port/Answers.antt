use Rattle.std.proofs.Common.{sym, ap, subst, ◌∙◌}
use Rattle.ban_book.specs.declared.block.Block.{Block}
use Rattle.ban_book.specs.Ways.{block_of, ways_in, IsBlock}
use Rattle.ban_book.proofs.KeepLemmas.{port_is_block}
use Rattle.ban_book.proofs.ClosedLemmas.{all_of_port}
use Rattle.pair_domains.specs.Trails.{ports_of}
use Rattle.pair_search.specs.Named.{AreAllNamed, IsLeftOutOr, IsNamedIn}
use Rattle.pair_search.specs.Resolutions.{left_out}
use Rattle.pair_search.proofs.conflict_set.cover_port.Goals as goal

pub cover_block-requires-clause-block : goal.cover_block-requires-clause-block
cover_block-requires-clause-block c =
    let d = c.args.view.now.domains.now in
    let port = c.args.port in
    let is = c.in_ok-block.ensures ∙ ap (block_of port.side port.kind port.number) c.ports-count.ensures in
    subst (λ (b : Block). IsBlock (ports_of d.inputs d.outputs b.kind) b) (sym is) (port_is_block port.side port.kind port.number (ports_of d.inputs d.outputs port.kind) c.requires.there)

pub cover_block-requires-clause-named : goal.cover_block-requires-clause-named
cover_block-requires-clause-named c =
    let d = c.args.view.now.domains.now in
    let port = c.args.port in
    let is = c.in_ok-block.ensures ∙ ap (block_of port.side port.kind port.number) c.ports-count.ensures in
    subst (λ (b : Block). AreAllNamed c.args.book.now d.entries (ways_in b) (left_out c.args.resolved) c.args.view.now.assigned.now) (sym is) (all_of_port port.side port.kind port.number (ports_of d.inputs d.outputs port.kind) (λ way. IsLeftOutOr (left_out c.args.resolved) way (IsNamedIn c.args.book.now d.entries c.args.view.now.assigned.now way)) c.requires.named)
