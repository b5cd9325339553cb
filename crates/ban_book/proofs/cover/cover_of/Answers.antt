use Rattle.std.proofs.Common.{◌∙◌, sym}
use Rattle.ban_book.proofs.KeepLemmas.{cover_valid}
use Rattle.ban_book.proofs.cover.cover_of.Goals as goal

pub returns-clause-valid : goal.returns-clause-valid
returns-clause-valid c =
    let count = c.ports-count.ensures in
    λ facts bans closed. cover_valid c.args.graphs.now facts bans c.args.pairs.now c.in_ok-pairs.pairs c.args.block c.args.refs (sym count.first ∙ count.second) c.requires.known c.requires.ordered c.requires.block c.in_ok-pairs.ensures closed
