-- The list has a place more, or moves to where it has.
use Rattle.std.proofs.Common.{◌≡◌, ℕ, ◌+◌, ◌*◌, ◌^◌, ◌<◌, ◌≤◌, length, map, slice_index_or, slice_set, sym, subst, ap, ◌∙◌, arith}
use Rattle.watch_lists.specs.declared.list_store.Span.{Span}
use Rattle.watch_lists.specs.Lists.{roomier_at}
use Rattle.watch_lists.specs.Spans.{listed_in, span_at}
use Rattle.watch_lists.proofs.SpanLemmas.{has_span, list_within, moved, read_span, roomier}
use Rattle.watch_lists.proofs.list_store.ListStore.make_room.Goals as goal

pub returns-then-span-clause-made : goal.returns-then-span-clause-made
returns-then-span-clause-made c =
    let n = c.args.literal.0 in
    let ws = c.self.inside.watches.items in
    let spans = c.self.inside.spans.items in
    let low = has_span ws spans n c.args.self.now c.requires c.self.view_is in
    let is = read_span spans n c.index-span.result.now c.index-span.ensures low in
    subst (λ (x : Span). map (listed_in ws) (slice_set spans n (record x { room = x.room + 1 })) ≡ roomier_at n (map (listed_in ws) spans)) (sym is) (roomier ws spans n low) ∙ ap (roomier_at n) c.self.view_is

pub copy-requires-clause-apart : goal.copy-requires-clause-apart
copy-requires-clause-apart c =
    let n = c.args.literal.0 in
    let ws = c.self.inside.watches.items in
    let spans = c.self.inside.spans.items in
    let low = has_span ws spans n c.args.self.now c.requires c.self.view_is in
    let is = read_span spans n c.index-span.result.now c.index-span.ensures low in
    omega (arith, list_within ws spans n c.self.invariant low, ap (λ (x : Span). x.start) is, ap (λ (x : Span). x.len) is, c.len-start.ensures, c.self.inside.watches.ok.0)

pub copy-requires-clause-within : goal.copy-requires-clause-within
copy-requires-clause-within c =
    let n = c.args.literal.0 in
    let ws = c.self.inside.watches.items in
    let spans = c.self.inside.spans.items in
    let low = has_span ws spans n c.args.self.now c.requires c.self.view_is in
    let is = read_span spans n c.index-span.result.now c.index-span.ensures low in
    omega (arith, c.self.invariant.room n low, ap (λ (x : Span). x.len) is, ap (λ (x : Span). x.places) is, c.in_ok-resize.ensures.len, c.resize.new.self.ok.0)

pub overflow_add-span-2 : goal.overflow_add-span-2
overflow_add-span-2 c =
    let n = c.args.literal.0 in
    let ws = c.self.inside.watches.items in
    let spans = c.self.inside.spans.items in
    let low = has_span ws spans n c.args.self.now c.requires c.self.view_is in
    let is = read_span spans n c.index-span.result.now c.index-span.ensures low in
    let few : (span_at spans n).room < 2 ^ 63 = omega (arith, c.self.invariant.room n low, c.self.invariant.within n low, c.self.inside.watches.ok.0, c.self.inside.watches.ok.1, c.self.inside.watches.small) in
    omega (arith, few, ap (λ (x : Span). x.room) is)

pub returns-clause-made : goal.returns-clause-made
returns-clause-made c =
    let n = c.args.literal.0 in
    let ws = c.self.inside.watches.items in
    let spans = c.self.inside.spans.items in
    let laid = c.self.invariant in
    let low = has_span ws spans n c.args.self.now c.requires c.self.view_is in
    let s = c.index-span.result.now in
    let is = read_span spans n s c.index-span.ensures low in
    let now = c.copy.new.watches.items in
    let filled = c.resize.new.self.items in
    let at = c.len-start.result in
    let start : at ≡ length ws = omega (arith, c.len-start.ensures, c.self.inside.watches.ok.0) in
    let few : s.len ≤ 2 * s.places + 4 = omega (arith, laid.room n low, ap (λ (x : Span). x.len) is, ap (λ (x : Span). x.places) is) in
    let size : length now ≡ length ws + (2 * s.places + 4) = omega (arith, c.copy.ensures.size, c.in_ok-resize.ensures.len, c.resize.new.self.ok.0, start) in
    let within = list_within ws spans n laid low in
    let same : (k : ℕ) → k < length ws → slice_index_or filled k 0 ≡ slice_index_or ws k 0 = λ k inside. c.in_ok-resize.ensures.by_index.0 k 0 (omega (arith, inside, start)) (omega (arith, inside, c.self.inside.watches.ok.0)) in
    let front : (k : ℕ) → k < length ws → slice_index_or now k 0 ≡ slice_index_or ws k 0 = λ k inside. c.copy.ensures.front k (omega (arith, inside, start)) ∙ same k inside in
    let copied : (k : ℕ) → k < s.len → slice_index_or now (length ws + k) 0 ≡ slice_index_or ws ((span_at spans n).start + k) 0 = λ k inside. ap (λ m. slice_index_or now (m + k) 0) (sym start) ∙ (c.copy.ensures.copied k inside ∙ (same (s.start + k) (omega (arith, inside, within, ap (λ (x : Span). x.start) is, ap (λ (x : Span). x.len) is)) ∙ ap (λ (x : Span). slice_index_or ws (x.start + k) 0) is)) in
    moved ws now spans n (record { start = at; len = s.len; room = s.room + 1; places = 2 * s.places + 4 }) laid low start (ap (λ (x : Span). x.len) is) (ap (λ (x : Span). x.room + 1) is) few size front copied ∙ ap (roomier_at n) c.self.view_is
