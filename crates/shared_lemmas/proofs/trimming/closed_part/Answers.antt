-- The lines that were taken have their numbers.
use Rattle.std.proofs.Common.{sym, subst}
use Rattle.shared_lemmas.specs.Parts.{ArePlaced}
use Rattle.shared_lemmas.proofs.trimming.closed_part.Goals as goal

pub close-requires-clause-placed : goal.close-requires-clause-placed
close-requires-clause-placed c =
    subst (ArePlaced c.args.count c.args.lines.now c.take_marked.new.target.items) (sym c.deref-2.ensures.value) c.in_ok-take_marked.ensures.placed
