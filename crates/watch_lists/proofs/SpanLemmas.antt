-- Lists that stand in spans of one vector: one of them changes, and the others stay.
use Rattle.std.proofs.Common.{◌≡◌, ◌≢◌, ℕ, zero, suc, ◌+◌, ◌-◌, ◌<◌, ◌≤◌, List, [], ◌∷◌, ◌++◌, length, map, take, drop, replicate, slice_index_or, slice_set, inl, inr, refl, sym, ◌∙◌, ap, subst, arith}
use Rattle.std.specs.List.{swap_remove}
use Rattle.std.proofs.lemmas.Bool.{cases_eq}
use Rattle.std.proofs.lemmas.Grind.{same_number_lists}
use Rattle.std.proofs.lemmas.List.{drop-set-add, ext_get_or, get_or_default, get_or-drop, get_or-map, get_or-set_other, get_or-set_same, get_or-take, length-drop, length-map, length-set, length-take-le, take_more_set}
use Rattle.watch_lists.specs.declared.list_store.Span.{Span}
use Rattle.watch_lists.specs.Lists.{Listed, list_at, list_of, none_listed, put_in, roomier_at, taken_from, watch_at, with_watch, without_place}
use Rattle.watch_lists.specs.Spans.{AreLaid, listed_in, no_span, span_at}
use Rattle.watch_lists.proofs.ListLemmas.{removed_here, removed_other, removed_size}

-- the watches in a span
abbrev in_span : List ℕ → Span → List ℕ
in_span ws s = take s.len (drop s.start ws)

abbrev listed : ℕ → List ℕ → Listed
listed room xs = record { watches = xs; room = room }

pub read_span : (spans : List Span) (c : ℕ) (s : Span) → s ≡ slice_index_or spans c s → c < length spans → s ≡ span_at spans c
read_span spans c s is low = is ∙ get_or_default spans c s no_span low

span_size : (ws : List ℕ) (s : Span) → s.start + s.len ≤ length ws → length (in_span ws s) ≡ s.len
span_size ws s within = length-take-le s.len (drop s.start ws) (omega (arith, within, length-drop s.start ws))

span_watch : (ws : List ℕ) (s : Span) (k : ℕ) → k < s.len → watch_at (in_span ws s) k ≡ slice_index_or ws (s.start + k) 0
span_watch ws s k low = get_or-take s.len (drop s.start ws) k 0 low ∙ get_or-drop s.start ws k 0

-- a literal that has a list has a span
pub has_span : (ws : List ℕ) (spans : List Span) (c : ℕ) (lists : List Listed) → c < length lists → map (listed_in ws) spans ≡ lists → c < length spans
has_span ws spans c lists low is = omega (arith, low, ap length is, length-map spans (listed_in ws))

-- what a list is by the vector and its span
pub at_span : (ws : List ℕ) (spans : List Span) (c : ℕ) → c < length spans → list_at (map (listed_in ws) spans) c ≡ listed_in ws (span_at spans c)
at_span ws spans c low = get_or-map (listed_in ws) spans c no_span none_listed low

pub list_within : (ws : List ℕ) (spans : List Span) (c : ℕ) → AreLaid ws spans → c < length spans → (span_at spans c).start + (span_at spans c).len ≤ length ws
list_within ws spans c is low = omega (arith, is.within c low, is.room c low)

pub list_size : (ws : List ℕ) (spans : List Span) (c : ℕ) → AreLaid ws spans → c < length spans → length (list_of (map (listed_in ws) spans) c) ≡ (span_at spans c).len
list_size ws spans c is low = ap (λ (x : Listed). length x.watches) (at_span ws spans c low) ∙ span_size ws (span_at spans c) (list_within ws spans c is low)

-- a list that was copied, or stays
same_list : (ws now : List ℕ) (s t : Span) → t.len ≡ s.len → s.start + s.len ≤ length ws → t.start + t.len ≤ length now → ((k : ℕ) → k < s.len → slice_index_or now (t.start + k) 0 ≡ slice_index_or ws (s.start + k) 0) → in_span now t ≡ in_span ws s
same_list ws now s t len in_ws in_now same =
    let old = span_size ws s in_ws in
    let new = span_size now t in_now in
    same_number_lists (in_span now t) (in_span ws s) (omega (arith, old, new, len)) (λ k inside.
    let low : k < s.len = omega (arith, inside, new, len) in
    span_watch now t k (omega (arith, low, len)) ∙ (same k low ∙ sym (span_watch ws s k low)))

-- ---- one span of the vector, and its list, are replaced

pub replaced : (ws now : List ℕ) (spans : List Span) (c : ℕ) (s : Span) (new : Listed) → c < length spans → listed_in now s ≡ new → ((d : ℕ) → d < length spans → d ≢ c → listed_in now (span_at spans d) ≡ listed_in ws (span_at spans d)) → map (listed_in now) (slice_set spans c s) ≡ slice_set (map (listed_in ws) spans) c new
replaced ws now spans c s new low is others =
    ext_get_or none_listed (map (listed_in now) (slice_set spans c s)) (slice_set (map (listed_in ws) spans) c new) size at
  where
    mapped : length (map (listed_in ws) spans) ≡ length spans
    mapped = length-map spans (listed_in ws)

    long : length (map (listed_in now) (slice_set spans c s)) ≡ length spans
    long = length-map (slice_set spans c s) (listed_in now) ∙ length-set spans c s

    size : length (map (listed_in now) (slice_set spans c s)) ≡ length (slice_set (map (listed_in ws) spans) c new)
    size = long ∙ (sym mapped ∙ sym (length-set (map (listed_in ws) spans) c new))

    at : (d : ℕ) → d < length (map (listed_in now) (slice_set spans c s)) → list_at (map (listed_in now) (slice_set spans c s)) d ≡ list_at (slice_set (map (listed_in ws) spans) c new) d
    at d inside =
        let within : d < length spans = omega (arith, inside, long) in
        let own = at_span now (slice_set spans c s) d (omega (arith, within, length-set spans c s)) in
        elim (cases_eq d c) [
          | inl mine ↦
              let here : span_at (slice_set spans c s) d ≡ s = ap (span_at (slice_set spans c s)) mine ∙ get_or-set_same spans c s no_span low in
              let there : list_at (slice_set (map (listed_in ws) spans) c new) d ≡ new = ap (list_at (slice_set (map (listed_in ws) spans) c new)) mine ∙ get_or-set_same (map (listed_in ws) spans) c new none_listed (omega (arith, low, mapped)) in
              own ∙ (ap (listed_in now) here ∙ (is ∙ sym there))
          | inr other ↦
              own ∙ (ap (listed_in now) (get_or-set_other spans c d s no_span other) ∙ (others d within other ∙ (sym (at_span ws spans d within) ∙ sym (get_or-set_other (map (listed_in ws) spans) c d new none_listed other))))
        ]

-- another span of which nothing was written
other_same : (ws now : List ℕ) (spans : List Span) (d : ℕ) → AreLaid ws spans → d < length spans → length ws ≤ length now → ((k : ℕ) → (span_at spans d).start ≤ k → k < (span_at spans d).start + (span_at spans d).len → slice_index_or now k 0 ≡ slice_index_or ws k 0) → listed_in now (span_at spans d) ≡ listed_in ws (span_at spans d)
other_same ws now spans d is low longer same =
    let s = span_at spans d in
    let within = list_within ws spans d is low in
    ap (listed s.room) (same_list ws now s s refl within (omega (arith, within, longer)) (λ k inside. same (s.start + k) (omega arith) (omega (arith, inside))))

pub write_others : (ws : List ℕ) (spans : List Span) (c p x : ℕ) → AreLaid ws spans → c < length spans → p < (span_at spans c).places → (d : ℕ) → d < length spans → d ≢ c → listed_in (slice_set ws ((span_at spans c).start + p) x) (span_at spans d) ≡ listed_in ws (span_at spans d)
write_others ws spans c p x is low inside d within other =
    let at = (span_at spans c).start + p in
    other_same ws (slice_set ws at x) spans d is within (omega (arith, length-set ws at x)) (λ k from to.
    get_or-set_other ws at k x 0 (λ e. elim (is.apart c d low within (λ same. other (sym same))) [
      | inl before ↦ omega (arith, before, e, from, inside)
      | inr after ↦ omega (arith, after, e, to, inside, is.room d within)
    ]))

-- the spans are laid as they were where one has other watches in its places
pub laid_same : (ws now : List ℕ) (spans : List Span) (c : ℕ) (s : Span) → AreLaid ws spans → c < length spans → length now ≡ length ws → s.start ≡ (span_at spans c).start → s.places ≡ (span_at spans c).places → s.len + s.room ≤ s.places → AreLaid now (slice_set spans c s)
laid_same ws now spans c s is low size start places fits = record {
  within = λ d inside. omega (arith, (same d).0, (same d).1, is.within d (old d inside), size);
  room = λ d inside. elim (cases_eq d c) [
    | inl mine ↦ subst (λ (x : Span). x.len + x.room ≤ x.places) (sym (here d mine)) fits
    | inr other ↦ subst (λ (x : Span). x.len + x.room ≤ x.places) (sym (there d other)) (is.room d (old d inside))
  ];
  apart = λ d e in_d in_e differ. elim (is.apart d e (old d in_d) (old e in_e) differ) [
    | inl before ↦ inl (omega (arith, before, (same d).0, (same d).1, (same e).0))
    | inr after ↦ inr (omega (arith, after, (same e).0, (same e).1, (same d).0))
  ];
}
  where
    old : (d : ℕ) → d < length (slice_set spans c s) → d < length spans
    old d inside = omega (arith, inside, length-set spans c s)

    here : (d : ℕ) → d ≡ c → span_at (slice_set spans c s) d ≡ s
    here d mine = ap (span_at (slice_set spans c s)) mine ∙ get_or-set_same spans c s no_span low

    there : (d : ℕ) → d ≢ c → span_at (slice_set spans c s) d ≡ span_at spans d
    there d other = get_or-set_other spans c d s no_span other

    same : (d : ℕ) → ((span_at (slice_set spans c s) d).start ≡ (span_at spans d).start) × ((span_at (slice_set spans c s) d).places ≡ (span_at spans d).places)
    same d = elim (cases_eq d c) [
      | inl mine ↦ (ap (λ (x : Span). x.start) (here d mine) ∙ (start ∙ ap (λ k. (span_at spans k).start) (sym mine)), ap (λ (x : Span). x.places) (here d mine) ∙ (places ∙ ap (λ k. (span_at spans k).places) (sym mine)))
      | inr other ↦ (ap (λ (x : Span). x.start) (there d other), ap (λ (x : Span). x.places) (there d other))
    ]

-- ---- no list has a watch

pub none_view : (n : ℕ) (ws : List ℕ) → map (listed_in ws) (replicate n no_span) ≡ replicate n none_listed
none_view zero ws = refl
none_view (suc n) ws = ap (λ (xs : List Listed). none_listed ∷ xs) (none_view n ws)

-- ---- the steps

-- a watch comes to the end of a list
pub pushed : (ws : List ℕ) (spans : List Span) (c x : ℕ) → AreLaid ws spans → c < length spans → (span_at spans c).len < (span_at spans c).places → map (listed_in (slice_set ws ((span_at spans c).start + (span_at spans c).len) x)) (slice_set spans c (record (span_at spans c) { len = (span_at spans c).len + 1; room = (span_at spans c).room - 1 })) ≡ put_in c x (map (listed_in ws) spans)
pushed ws spans c x is low some =
    let s = span_at spans c in
    let own : take (s.len + 1) (drop s.start (slice_set ws (s.start + s.len) x)) ≡ in_span ws s ++ x ∷ [] =
    ap (take (s.len + 1)) (drop-set-add s.start ws s.len x) ∙ take_more_set (drop s.start ws) s.len x (omega (arith, some, is.within c low, length-drop s.start ws)) in
    replaced ws (slice_set ws (s.start + s.len) x) spans c (record s { len = s.len + 1; room = s.room - 1 }) (with_watch x (list_at (map (listed_in ws) spans) c)) low (ap (listed (s.room - 1)) own ∙ ap (with_watch x) (sym (at_span ws spans c low))) (write_others ws spans c s.len x is low some)

-- the one at a place is taken out
pub removed : (ws : List ℕ) (spans : List Span) (c p last : ℕ) → AreLaid ws spans → c < length spans → p < (span_at spans c).len → last ≡ slice_index_or ws ((span_at spans c).start + ((span_at spans c).len - 1)) 0 → map (listed_in (slice_set ws ((span_at spans c).start + p) last)) (slice_set spans c (record (span_at spans c) { len = (span_at spans c).len - 1; room = (span_at spans c).room + 1 })) ≡ taken_from c p (map (listed_in ws) spans)
removed ws spans c p last is low inside last_is =
    replaced ws now spans c t (without_place p (list_at (map (listed_in ws) spans) c)) low (ap (listed (s.room + 1)) own ∙ ap (without_place p) (sym (at_span ws spans c low))) (write_others ws spans c p last is low (omega (arith, inside, is.room c low)))
  where
    s : Span
    s = span_at spans c

    t : Span
    t = record (span_at spans c) { len = (span_at spans c).len - 1; room = (span_at spans c).room + 1 }

    now : List ℕ
    now = slice_set ws ((span_at spans c).start + p) last

    within : (span_at spans c).start + (span_at spans c).len ≤ length ws
    within = list_within ws spans c is low

    old_size : length (in_span ws (span_at spans c)) ≡ (span_at spans c).len
    old_size = span_size ws (span_at spans c) within

    own : in_span now t ≡ swap_remove (in_span ws (span_at spans c)) p 0
    own =
        let new_size = span_size now t (omega (arith, within, length-set ws (s.start + p) last)) in
        same_number_lists (in_span now t) (swap_remove (in_span ws s) p 0) (omega (arith, new_size, removed_size (in_span ws s) p, old_size)) (λ k low_k.
        let k_low : k < s.len - 1 = omega (arith, low_k, new_size) in
        let k_in : k < length (swap_remove (in_span ws s) p 0) = omega (arith, k_low, removed_size (in_span ws s) p, old_size) in
        span_watch now t k k_low ∙ elim (cases_eq k p) [
          | inl here ↦
              let new = ap (λ n. slice_index_or now (s.start + n) 0) here ∙ get_or-set_same ws (s.start + p) last 0 (omega (arith, inside, within)) in
              let there = removed_here (in_span ws s) p k k_in here ∙ (ap (λ n. watch_at (in_span ws s) (n - 1)) old_size ∙ span_watch ws s (s.len - 1) (omega (arith, inside))) in
              new ∙ (last_is ∙ sym there)
          | inr other ↦
              get_or-set_other ws (s.start + p) (s.start + k) last 0 (λ e. other (omega (arith, e))) ∙ (sym (span_watch ws s k (omega (arith, k_low))) ∙ sym (removed_other (in_span ws s) p k k_in other))
        ])

-- there is room for one more
pub roomier : (ws : List ℕ) (spans : List Span) (c : ℕ) → c < length spans → map (listed_in ws) (slice_set spans c (record (span_at spans c) { room = (span_at spans c).room + 1 })) ≡ roomier_at c (map (listed_in ws) spans)
roomier ws spans c low =
    replaced ws ws spans c (record (span_at spans c) { room = (span_at spans c).room + 1 }) (record (list_at (map (listed_in ws) spans) c) { room = (list_at (map (listed_in ws) spans) c).room + 1 }) low (ap (λ (x : Listed). listed (x.room + 1) x.watches) (sym (at_span ws spans c low))) (λ d within other. refl)

-- also where the list moves to the end
pub moved : (ws now : List ℕ) (spans : List Span) (c : ℕ) (s : Span) → AreLaid ws spans → c < length spans → s.start ≡ length ws → s.len ≡ (span_at spans c).len → s.room ≡ (span_at spans c).room + 1 → s.len ≤ s.places → length now ≡ length ws + s.places → ((k : ℕ) → k < length ws → slice_index_or now k 0 ≡ slice_index_or ws k 0) → ((k : ℕ) → k < s.len → slice_index_or now (length ws + k) 0 ≡ slice_index_or ws ((span_at spans c).start + k) 0) → map (listed_in now) (slice_set spans c s) ≡ roomier_at c (map (listed_in ws) spans)
moved ws now spans c s is low start len room fits size front copied =
    let old = span_at spans c in
    let own = same_list ws now old s len (list_within ws spans c is low) (omega (arith, start, fits, size)) (λ k inside. ap (λ n. slice_index_or now (n + k) 0) start ∙ copied k (omega (arith, inside, len))) in
    let here = ap (listed s.room) own ∙ (ap (λ n. listed n (in_span ws old)) room ∙ ap (λ (x : Listed). listed (x.room + 1) x.watches) (sym (at_span ws spans c low))) in
    replaced ws now spans c s (record (list_at (map (listed_in ws) spans) c) { room = (list_at (map (listed_in ws) spans) c).room + 1 }) low here (λ d within other. other_same ws now spans d is within (omega (arith, size)) (λ k from to. front k (omega (arith, to, list_within ws spans d is within))))

-- ---- places are copied to others after them

-- the first of them were
pub record AreCopied (old now : List ℕ) (from to done : ℕ) : Type 0 where
  pub size : length now ≡ length old
  pub front : (k : ℕ) → k < to → slice_index_or now k 0 ≡ slice_index_or old k 0
  pub copied : (k : ℕ) → k < done → slice_index_or now (to + k) 0 ≡ slice_index_or old (from + k) 0
