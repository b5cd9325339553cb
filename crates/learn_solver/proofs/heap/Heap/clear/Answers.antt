-- None of the places is one of no place.
use Rattle.std.proofs.Common.{length, refl, ap, ◌∙◌, sym}
use Rattle.learn_solver.proofs.HeapLemmas.{as_many_queued, none_queued}
use Rattle.learn_solver.proofs.heap.Heap.clear.Goals as goal

pub returns : goal.returns
returns c =
    let old = c.self.inside in
    none_queued 0 old.places.items (length c.args.self.now) refl (sym (as_many_queued old.queued old.places.items) ∙ ap length c.self.view_is)
