use Rattle.std.proofs.Common.{◌≡◌, ◌+◌, suc, slice_index_or, sym, subst, arith}
use Rattle.std.proofs.lemmas.List.Elements.{Contains-get_or}
use Rattle.joint_hash.specs.Classes.{IsUnderWay}
use Rattle.joint_hash.proofs.VisitLemmas.{above_first, up_to_end, up_to_next}
use Rattle.joint_hash.proofs.merging.add_gates.Goals as goal

pub add_at-requires : goal.add_at-requires
add_at-requires c =
    let cones = c.args.cones.now in
    let ids = c.args.ids.now in
    let i = c.loop-id.id-index in
    let merged = c.loop-id.merged in
    record {
      there = c.requires.there i 0 c.loop-id-test.true;
      cone = (c.requires.cones (slice_index_or ids i 0)).0 (Contains-get_or ids i 0 c.loop-id-test.true);
      under_way = up_to_next cones.graphs cones.query ids c.requires.ascending c.requires.there c.requires.cones merged.lines.items merged.firsts.entries merged.twins.entries i c.loop-id-test.true c.loop-id.invariant;
    }

pub loop-id-preserved : goal.loop-id-preserved
loop-id-preserved c =
    let cones = c.args.cones.now in
    let ids = c.args.ids.now in
    let i = c.loop-id.id-index in
    let merged = c.add_at.new.merged in
    let at : i + 1 ≡ suc i = omega arith in
    let next : slice_index_or ids i 0 + 1 ≡ 1 + slice_index_or ids i 0 = omega arith in
    subst (λ k. IsUnderWay cones.graphs cones.query (above_first ids k) merged.lines.items merged.firsts.entries merged.twins.entries) (sym at) (subst (λ k. IsUnderWay cones.graphs cones.query k merged.lines.items merged.firsts.entries merged.twins.entries) next c.in_ok-add_at.ensures)

pub returns : goal.returns
returns c =
    let cones = c.args.cones.now in
    let merged = c.loop-id.merged in
    up_to_end cones.graphs cones.query c.args.ids.now c.requires.ascending c.requires.there c.requires.cones merged.lines.items merged.firsts.entries merged.twins.entries c.loop-id.id-index (omega (arith, c.loop-id-test.false, c.loop-id.auto.id-index-end)) c.loop-id.invariant
