-- The watch is written after the others of its list.
use Rattle.std.proofs.Common.{◌≡◌, ◌+◌, ◌-◌, ◌<◌, List, map, slice_set, sym, subst, ap, ◌∙◌, arith}
use Rattle.watch_lists.specs.declared.list_store.Span.{Span}
use Rattle.watch_lists.specs.Lists.{Listed, list_at, put_in}
use Rattle.watch_lists.specs.Spans.{listed_in, span_at}
use Rattle.watch_lists.proofs.SpanLemmas.{at_span, has_span, pushed, read_span}
use Rattle.watch_lists.proofs.list_store.ListStore.push.Goals as goal

pub returns : goal.returns
returns c =
    let n = c.args.literal.0 in
    let ws = c.self.inside.watches.items in
    let spans = c.self.inside.spans.items in
    let laid = c.self.invariant in
    let low = has_span ws spans n c.args.self.now c.requires.known c.self.view_is in
    let is = read_span spans n c.index-span.result.now c.index-span.ensures low in
    let room = ap (λ (x : List Listed). (list_at x n).room) c.self.view_is in
    let some : (span_at spans n).len < (span_at spans n).places = omega (arith, c.requires.room, room, ap (λ (x : Listed). x.room) (at_span ws spans n low), laid.room n low) in
    subst (λ (s : Span). map (listed_in (slice_set ws (s.start + s.len) c.args.watch)) (slice_set spans n (record s { len = s.len + 1; room = s.room - 1 })) ≡ put_in n c.args.watch (map (listed_in ws) spans)) (sym is) (pushed ws spans n c.args.watch laid low some) ∙ ap (put_in n c.args.watch) c.self.view_is
