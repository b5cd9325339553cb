-- Room for one literal more.
use Rattle.std.proofs.Common.{◌+◌, ◌∙◌, List, refl, slice_index_or, sym, subst, arith}
use Rattle.watch_lists.specs.Lists.{IsRoomier, Listed, numbered}
use Rattle.watch_lists.proofs.RoomLemmas.{roomier_more}
use Rattle.watch_lists.proofs.lists.Lists.make_room.Goals as goal

pub loop-literal-preserved : goal.loop-literal-preserved
loop-literal-preserved c =
    let l = c.loop-literal in
    let clause = c.args.clause.now in
    let k = l.literal-index in
    let low = c.requires k (numbered 0) c.loop-literal-test.true in
    let more = roomier_more c.args.self.now.store l.self.store clause k (slice_index_or clause k (numbered 0)) refl (omega (arith, low, l.invariant.0.size)) l.invariant.0 in
    (subst (λ (x : List Listed). IsRoomier c.args.self.now.store x clause (k + 1)) (sym c.in_ok-make_one.ensures.made) more, c.make_one.ensures.watches ∙ l.invariant.1)
