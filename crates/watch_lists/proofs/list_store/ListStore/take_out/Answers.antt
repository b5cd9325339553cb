-- The last watch of the list is written where the one that is taken out stands.
use Rattle.std.proofs.Common.{◌≡◌, ◌+◌, ◌-◌, ◌<◌, List, length, map, slice_index_or, slice_set, sym, subst, ap, ◌∙◌, arith}
use Rattle.std.proofs.lemmas.List.{get_or_default, length-set}
use Rattle.watch_lists.specs.declared.list_store.Span.{Span}
use Rattle.watch_lists.specs.Lists.{Listed, list_of, taken_from}
use Rattle.watch_lists.specs.Spans.{listed_in, span_at}
use Rattle.watch_lists.proofs.SpanLemmas.{has_span, laid_same, list_size, list_within, read_span, removed}
use Rattle.watch_lists.proofs.list_store.ListStore.take_out.Goals as goal

pub invariant_of-self : goal.invariant_of-self
invariant_of-self c =
    let n = c.args.literal.0 in
    let ws = c.self.inside.watches.items in
    let spans = c.self.inside.spans.items in
    let laid = c.self.invariant in
    let low = has_span ws spans n c.args.self.now c.requires.known c.self.view_is in
    let s = c.index-span.result.now in
    let is = read_span spans n s c.index-span.ensures low in
    let there = ap (λ (x : List Listed). length (list_of x n)) c.self.view_is in
    let inside : c.args.place < (span_at spans n).len = omega (arith, c.requires.there, there, list_size ws spans n laid low) in
    let at = s.start + c.args.place in
    laid_same ws (slice_set ws at c.index-last.result.now) spans n (record s { len = s.len - 1; room = s.room + 1 }) laid low (length-set ws at c.index-last.result.now) (ap (λ (x : Span). x.start) is) (ap (λ (x : Span). x.places) is) (omega (arith, laid.room n low, inside, ap (λ (x : Span). x.len) is, ap (λ (x : Span). x.room) is, ap (λ (x : Span). x.places) is))

pub returns : goal.returns
returns c =
    let n = c.args.literal.0 in
    let ws = c.self.inside.watches.items in
    let spans = c.self.inside.spans.items in
    let laid = c.self.invariant in
    let low = has_span ws spans n c.args.self.now c.requires.known c.self.view_is in
    let s = c.index-span.result.now in
    let is = read_span spans n s c.index-span.ensures low in
    let there = ap (λ (x : List Listed). length (list_of x n)) c.self.view_is in
    let inside : c.args.place < (span_at spans n).len = omega (arith, c.requires.there, there, list_size ws spans n laid low) in
    let last = c.index-last.result.now in
    let end : s.start + (s.len - 1) < length ws = omega (arith, list_within ws spans n laid low, inside, ap (λ (x : Span). x.start) is, ap (λ (x : Span). x.len) is) in
    let last_is = c.index-last.ensures ∙ (get_or_default ws (s.start + (s.len - 1)) last 0 end ∙ ap (λ (x : Span). slice_index_or ws (x.start + (x.len - 1)) 0) is) in
    subst (λ (x : Span). map (listed_in (slice_set ws (x.start + c.args.place) last)) (slice_set spans n (record x { len = x.len - 1; room = x.room + 1 })) ≡ taken_from n c.args.place (map (listed_in ws) spans)) (sym is) (removed ws spans n c.args.place last laid low inside last_is) ∙ ap (taken_from n c.args.place) c.self.view_is
