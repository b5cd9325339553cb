-- A line more is gone over.
use Rattle.std.proofs.Common.{◌∙◌}
use Rattle.shared_lemmas.proofs.PartLemmas.{written_after}
use Rattle.shared_lemmas.proofs.taking.take_marked.Goals as goal

pub loop-place-preserved : goal.loop-place-preserved
loop-place-preserved c = record {
  size = c.take.ensures.size ∙ c.loop-place.invariant.size;
  placed = c.in_ok-take.ensures.placed;
  goes_on = λ one other have derived goes. c.in_ok-take.ensures.goes_on one other have derived (c.loop-place.invariant.goes_on one other have derived goes);
  written = written_after c.args.common.count c.args.source.now c.args.target.now.items c.loop-place.target.items c.take.new.target.items c.loop-place.invariant.written c.in_ok-take.ensures.written;
}
