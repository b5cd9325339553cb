-- The circuits are the same, and so are the feeds.
use Rattle.std.proofs.Common.{◌&&◌, sym, ◌∙◌}
use Rattle.std.proofs.lemmas.Bool.{and_parts}
use Rattle.claim_core.proofs.EqualLemmas.{feeds_decide, side_decides}
use Rattle.shared_lemmas.proofs.feeds.have_same_feeds.Goals as goal

pub returns : goal.returns
returns c told =
    let one = c.args.one.now in
    let other = c.args.other.now in
    let all = and_parts ((c.eq.result && c.eq-2.result) && c.eq-3.result) c.eq-4.result told in
    let three = and_parts (c.eq.result && c.eq-2.result) c.eq-3.result all.0 in
    let two = and_parts c.eq.result c.eq-2.result three.0 in
    record {
      left_side = sym ((side_decides one.left.side other.left.side).0 (sym c.eq.ensures ∙ two.0));
      left_feed = sym ((feeds_decide one.left.feed other.left.feed).0 (sym c.eq-3.ensures ∙ three.1));
      right_side = sym ((side_decides one.right.side other.right.side).0 (sym c.eq-2.ensures ∙ two.1));
      right_feed = sym ((feeds_decide one.right.feed other.right.feed).0 (sym c.eq-4.ensures ∙ all.1));
    }
