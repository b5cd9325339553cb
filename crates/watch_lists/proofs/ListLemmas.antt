-- Watches that are taken out of a list and put into one.
use Rattle.std.proofs.Common.{◌≡◌, ◌≢◌, ℕ, ◌+◌, ◌-◌, ◌*◌, ◌/◌, ◌%◌, ◌<◌, List, [], ◌∷◌, ◌++◌, length, slice_index_or, slice_set, ◌⊎◌, inl, inr, refl, sym, ◌∙◌, ap, subst, arith}
use Rattle.std.specs.List.{swap_remove}
use Rattle.std.proofs.lemmas.Bool.{cases_eq, cases_lt}
use Rattle.std.proofs.lemmas.List.{get_or_append_left, get_or_at, get_or-set_same, get_or-set_other, get_or-take, length-append, length-set, length-take-le}
use Rattle.cnf_core.specs.declared.literal.SatLit.{SatLit}
use Rattle.watch_lists.specs.Lists.{AreListed, ArePut, IsAt, IsAttached, IsIn, IsOnce, IsOwn, Listed, list_at, list_of, literal_at, none_listed, numbered, partner, put_in, taken_from, watch_at, with_watch, without_place}

pub partner_twice : (s : ℕ) → partner (partner s) ≡ s
partner_twice s = omega arith

-- with one watch of a clause the other is attached, and so is the first of the two
pub attached_partner : (watches : List SatLit) (s : ℕ) → IsAttached watches s → IsAttached watches (partner s)
attached_partner watches s attached e = attached (ap (λ k. (literal_at watches k).0) (sym (partner_twice s)) ∙ sym e)

pub attached_half : (watches : List SatLit) (s : ℕ) → IsAttached watches s → IsAttached watches (2 * (s / 2))
attached_half watches s attached = elim (cases_eq (2 * (s / 2)) s) [
  | inl first ↦ subst (IsAttached watches) (sym first) attached
  | inr other ↦
      let is : partner s ≡ 2 * (s / 2) = omega (arith, other) in
      subst (IsAttached watches) is (attached_partner watches s attached)
]

pub partner_other : (s : ℕ) → partner s ≢ s
partner_other s e = omega (arith, e)

pub partner_within : (watches : List SatLit) (s : ℕ) → length watches % 2 ≡ 0 → s < length watches → partner s < length watches
partner_within watches s even within = omega (arith, even, within)

-- ---- what is written to one watch

pub literal_same : (watches : List SatLit) (s t : ℕ) (l : SatLit) → t ≢ s → literal_at (slice_set watches s l) t ≡ literal_at watches t
literal_same watches s t l other = get_or-set_other watches s t l (numbered 0) other

pub literal_new : (watches : List SatLit) (s : ℕ) (l : SatLit) → s < length watches → literal_at (slice_set watches s l) s ≡ l
literal_new watches s l within = get_or-set_same watches s l (numbered 0) within

-- another watch is attached as before
pub attached_before : (watches : List SatLit) (s t : ℕ) (l : SatLit) → s < length watches → t ≢ s → IsAttached watches s → IsAttached (slice_set watches s l) t → IsAttached watches t
attached_before watches s t l within other attached is =
    let own = literal_same watches s t l other in
    elim (cases_eq (partner t) s) [
      | inl mine ↦ λ e. attached (ap (λ k. (literal_at watches k).0) (sym mine) ∙ (sym e ∙ ap (λ k. (literal_at watches k).0) (sym (partner_twice t) ∙ ap partner mine)))
      | inr apart ↦ λ e. is (ap (λ (x : SatLit). x.0) own ∙ (e ∙ sym (ap (λ (x : SatLit). x.0) (literal_same watches s (partner t) l apart))))
    ]

pub attached_after : (watches : List SatLit) (s t : ℕ) (l : SatLit) → s < length watches → t ≢ s → l.0 ≢ (literal_at watches (partner s)).0 → IsAttached watches t → IsAttached (slice_set watches s l) t
attached_after watches s t l within other differ attached =
    let own = literal_same watches s t l other in
    elim (cases_eq (partner t) s) [
      | inl mine ↦ λ e.
          let at_s : partner s ≡ t = ap partner (sym mine) ∙ partner_twice t in
          let new : (literal_at (slice_set watches s l) (partner t)).0 ≡ l.0 = ap (λ k. (literal_at (slice_set watches s l) k).0) mine ∙ ap (λ (x : SatLit). x.0) (literal_new watches s l within) in
          differ (sym new ∙ (sym e ∙ (ap (λ (x : SatLit). x.0) own ∙ ap (λ k. (literal_at watches k).0) (sym at_s))))
      | inr apart ↦ λ e. attached (sym (ap (λ (x : SatLit). x.0) own) ∙ (e ∙ ap (λ (x : SatLit). x.0) (literal_same watches s (partner t) l apart)))
    ]

pub attached_itself : (watches : List SatLit) (s : ℕ) (l : SatLit) → s < length watches → l.0 ≢ (literal_at watches (partner s)).0 → IsAttached (slice_set watches s l) s
attached_itself watches s l within differ e =
    differ (sym (ap (λ (x : SatLit). x.0) (literal_new watches s l within)) ∙ (e ∙ ap (λ (x : SatLit). x.0) (literal_same watches s (partner s) l (partner_other s))))

-- ---- the watch at a place is taken out of a list

pub removed_size : (xs : List ℕ) (i : ℕ) → length (swap_remove xs i 0) ≡ length xs - 1
removed_size xs i =
    length-take-le (length xs - 1) (slice_set xs i (slice_index_or xs (length xs - 1) 0)) (omega (arith, length-set xs i (slice_index_or xs (length xs - 1) 0)))

-- before it what stood there stands there
pub removed_other : (xs : List ℕ) (i k : ℕ) → k < length (swap_remove xs i 0) → k ≢ i → watch_at (swap_remove xs i 0) k ≡ watch_at xs k
removed_other xs i k within other =
    get_or-take (length xs - 1) (slice_set xs i (slice_index_or xs (length xs - 1) 0)) k 0 (omega (arith, within, removed_size xs i)) ∙ get_or-set_other xs i k (slice_index_or xs (length xs - 1) 0) 0 other

-- and at its place the last one
pub removed_here : (xs : List ℕ) (i k : ℕ) → k < length (swap_remove xs i 0) → k ≡ i → watch_at (swap_remove xs i 0) k ≡ watch_at xs (length xs - 1)
removed_here xs i k within here =
    get_or-take (length xs - 1) (slice_set xs i (slice_index_or xs (length xs - 1) 0)) k 0 (omega (arith, within, removed_size xs i))
    ∙ (ap (λ n. slice_index_or (slice_set xs i (slice_index_or xs (length xs - 1) 0)) n 0) here ∙ get_or-set_same xs i (slice_index_or xs (length xs - 1) 0) 0 (omega (arith, within, here, removed_size xs i)))

-- so what is left was there before, and isn't the one that was taken
removed_was : (xs : List ℕ) (i t : ℕ) → i < length xs → IsOnce xs → IsIn t (swap_remove xs i 0) → IsIn t xs × (t ≢ watch_at xs i)
removed_was xs i t there once found =
    let k = found.0 in
    let in_new = found.1.within in
    elim (cases_eq k i) [
      | inl here ↦
          let last : length xs - 1 < length xs = omega (arith, there) in
          let at = sym (removed_here xs i k in_new here) ∙ found.1.is in
          ((length xs - 1, record { within = last; is = at }), λ e. omega (arith, here, in_new, removed_size xs i, once (length xs - 1) i last there (at ∙ e)))
      | inr other ↦
          let old : k < length xs = omega (arith, in_new, removed_size xs i) in
          let at = sym (removed_other xs i k in_new other) ∙ found.1.is in
          ((k, record { within = old; is = at }), λ e. other (once k i old there (at ∙ e)))
    ]

removed_stays : (xs : List ℕ) (i t : ℕ) → i < length xs → IsIn t xs → t ≢ watch_at xs i → IsIn t (swap_remove xs i 0)
removed_stays xs i t there found differs =
    let k = found.0 in
    let other : k ≢ i = λ e. differs (sym found.1.is ∙ ap (watch_at xs) e) in
    elim (cases_eq k (length xs - 1)) [
      | inl last ↦
          let within : i < length (swap_remove xs i 0) = omega (arith, there, last, other, removed_size xs i) in
          (i, record { within = within; is = removed_here xs i i within refl ∙ (ap (watch_at xs) (sym last) ∙ found.1.is) })
      | inr before ↦
          let within : k < length (swap_remove xs i 0) = omega (arith, found.1.within, before, removed_size xs i) in
          (k, record { within = within; is = removed_other xs i k within other ∙ found.1.is })
    ]

removed_once : (xs : List ℕ) (i : ℕ) → i < length xs → IsOnce xs → IsOnce (swap_remove xs i 0)
removed_once xs i there once j k low_j low_k same =
    let last : length xs - 1 < length xs = omega (arith, there) in
    let old_j : j < length xs = omega (arith, low_j, removed_size xs i) in
    let old_k : k < length xs = omega (arith, low_k, removed_size xs i) in
    elim (cases_eq j i) [
      | inl j_here ↦ elim (cases_eq k i) [
        | inl k_here ↦ j_here ∙ sym k_here
        | inr k_other ↦ absurd (omega (arith, low_k, removed_size xs i, once (length xs - 1) k last old_k (sym (removed_here xs i j low_j j_here) ∙ (same ∙ removed_other xs i k low_k k_other))))
      ]
      | inr j_other ↦ elim (cases_eq k i) [
        | inl k_here ↦ absurd (omega (arith, low_j, removed_size xs i, once j (length xs - 1) old_j last (sym (removed_other xs i j low_j j_other) ∙ (same ∙ removed_here xs i k low_k k_here))))
        | inr k_other ↦ once j k old_j old_k (sym (removed_other xs i j low_j j_other) ∙ (same ∙ removed_other xs i k low_k k_other))
      ]
    ]

-- ---- a watch comes to the end of a list

added_size : (xs : List ℕ) (s : ℕ) → length (xs ++ s ∷ []) ≡ length xs + 1
added_size xs s = length-append xs (s ∷ [])

added_was : (xs : List ℕ) (s t : ℕ) → IsIn t (xs ++ s ∷ []) → (t ≡ s) ⊎ IsIn t xs
added_was xs s t found =
    let k = found.0 in
    elim (cases_lt k (length xs)) [
      | inl old ↦ inr (k, record { within = old; is = sym (get_or_append_left xs (s ∷ []) 0 k old) ∙ found.1.is })
      | inr late ↦
          let last : k ≡ length xs = omega (arith, late, found.1.within, added_size xs s) in
          inl (sym found.1.is ∙ get_or_at xs s [] 0 k (sym last))
    ]

added_stays : (xs : List ℕ) (s t : ℕ) → IsIn t xs → IsIn t (xs ++ s ∷ [])
added_stays xs s t found =
    (found.0, record { within = omega (arith, found.1.within, added_size xs s); is = get_or_append_left xs (s ∷ []) 0 found.0 found.1.within ∙ found.1.is })

added_itself : (xs : List ℕ) (s : ℕ) → IsIn s (xs ++ s ∷ [])
added_itself xs s = (length xs, record { within = omega (arith, added_size xs s); is = get_or_at xs s [] 0 (length xs) refl })

added_once : (xs : List ℕ) (s : ℕ) → IsOnce xs → (IsIn s xs → ⊥) → IsOnce (xs ++ s ∷ [])
added_once xs s once new j k low_j low_k same =
    elim (cases_lt j (length xs)) [
      | inl old_j ↦ elim (cases_lt k (length xs)) [
        | inl old_k ↦ once j k old_j old_k (sym (get_or_append_left xs (s ∷ []) 0 j old_j) ∙ (same ∙ get_or_append_left xs (s ∷ []) 0 k old_k))
        | inr late_k ↦
            let last : k ≡ length xs = omega (arith, late_k, low_k, added_size xs s) in
            absurd (new (j, record { within = old_j; is = sym (get_or_append_left xs (s ∷ []) 0 j old_j) ∙ (same ∙ get_or_at xs s [] 0 k (sym last)) }))
      ]
      | inr late_j ↦ elim (cases_lt k (length xs)) [
        | inl old_k ↦
            let last : j ≡ length xs = omega (arith, late_j, low_j, added_size xs s) in
            absurd (new (k, record { within = old_k; is = sym (get_or_append_left xs (s ∷ []) 0 k old_k) ∙ (sym same ∙ get_or_at xs s [] 0 j (sym last)) }))
        | inr late_k ↦ omega (arith, late_j, late_k, low_j, low_k, added_size xs s)
      ]
    ]

-- ---- the lists with one changed

list_new : (lists : List Listed) (c : ℕ) (list : Listed) → c < length lists → list_at (slice_set lists c list) c ≡ list
list_new lists c list low = get_or-set_same lists c list none_listed low

list_same : (lists : List Listed) (c d : ℕ) (list : Listed) → d ≢ c → list_at (slice_set lists c list) d ≡ list_at lists d
list_same lists c d list other = get_or-set_other lists c d list none_listed other

-- a watch is put into a list: what is in which list then
pub put_size : (lists : List Listed) (c s : ℕ) → length (put_in c s lists) ≡ length lists
put_size lists c s = length-set lists c (with_watch s (list_at lists c))

put_list : (lists : List Listed) (c s d : ℕ) → c < length lists → d ≡ c → list_of (put_in c s lists) d ≡ list_of lists c ++ s ∷ []
put_list lists c s d low mine = ap (list_of (put_in c s lists)) mine ∙ ap (λ (x : Listed). x.watches) (list_new lists c (with_watch s (list_at lists c)) low)

put_other_list : (lists : List Listed) (c s d : ℕ) → d ≢ c → list_of (put_in c s lists) d ≡ list_of lists d
put_other_list lists c s d other = ap (λ (x : Listed). x.watches) (list_same lists c d (with_watch s (list_at lists c)) other)

pub put_was : (lists : List Listed) (c s d t : ℕ) → c < length lists → IsIn t (list_of (put_in c s lists) d) → ((t ≡ s) × (d ≡ c)) ⊎ IsIn t (list_of lists d)
put_was lists c s d t low found = elim (cases_eq d c) [
  | inl mine ↦ elim (added_was (list_of lists c) s t (subst (IsIn t) (put_list lists c s d low mine) found)) [
    | inl is_s ↦ inl (is_s, mine)
    | inr old ↦ inr (subst (λ k. IsIn t (list_of lists k)) (sym mine) old)
  ]
  | inr other ↦ inr (subst (IsIn t) (put_other_list lists c s d other) found)
]

pub put_stays : (lists : List Listed) (c s d t : ℕ) → c < length lists → IsIn t (list_of lists d) → IsIn t (list_of (put_in c s lists) d)
put_stays lists c s d t low found = elim (cases_eq d c) [
  | inl mine ↦ subst (IsIn t) (sym (put_list lists c s d low mine)) (added_stays (list_of lists c) s t (subst (λ k. IsIn t (list_of lists k)) mine found))
  | inr other ↦ subst (IsIn t) (sym (put_other_list lists c s d other)) found
]

pub put_itself : (lists : List Listed) (c s : ℕ) → c < length lists → IsIn s (list_of (put_in c s lists) c)
put_itself lists c s low = subst (IsIn s) (sym (put_list lists c s c low refl)) (added_itself (list_of lists c) s)

pub put_once : (lists : List Listed) (c s d : ℕ) → c < length lists → IsOnce (list_of lists d) → (IsIn s (list_of lists c) → ⊥) → IsOnce (list_of (put_in c s lists) d)
put_once lists c s d low once new = elim (cases_eq d c) [
  | inl mine ↦ subst IsOnce (sym (put_list lists c s d low mine)) (added_once (list_of lists c) s (subst (λ k. IsOnce (list_of lists k)) mine once) new)
  | inr other ↦ subst IsOnce (sym (put_other_list lists c s d other)) once
]

-- as much as there is and is room for stays
pub put_room : (lists : List Listed) (c s d : ℕ) → c < length lists → 0 < (list_at lists c).room → length (list_of (put_in c s lists) d) + (list_at (put_in c s lists) d).room ≡ length (list_of lists d) + (list_at lists d).room
put_room lists c s d low some = elim (cases_eq d c) [
  | inl mine ↦
      let new = ap (list_at (put_in c s lists)) mine ∙ list_new lists c (with_watch s (list_at lists c)) low in
      omega (arith, ap (λ (x : Listed). length x.watches) new, ap (λ (x : Listed). x.room) new, added_size (list_of lists c) s, some, ap (λ k. length (list_of lists k)) mine, ap (λ k. (list_at lists k).room) mine)
  | inr other ↦
      let same = list_same lists c d (with_watch s (list_at lists c)) other in
      omega (arith, ap (λ (x : Listed). length x.watches) same, ap (λ (x : Listed). x.room) same)
]

pub put_other_room : (lists : List Listed) (c s d : ℕ) → d ≢ c → (list_at (put_in c s lists) d).room ≡ (list_at lists d).room
put_other_room lists c s d other = ap (λ (x : Listed). x.room) (list_same lists c d (with_watch s (list_at lists c)) other)

-- the watch at a place is taken out of a list: what is in which list then
pub taken_size : (lists : List Listed) (c p : ℕ) → length (taken_from c p lists) ≡ length lists
taken_size lists c p = length-set lists c (without_place p (list_at lists c))

taken_list : (lists : List Listed) (c p d : ℕ) → c < length lists → d ≡ c → list_of (taken_from c p lists) d ≡ swap_remove (list_of lists c) p 0
taken_list lists c p d low mine = ap (list_of (taken_from c p lists)) mine ∙ ap (λ (x : Listed). x.watches) (list_new lists c (without_place p (list_at lists c)) low)

pub taken_other_list : (lists : List Listed) (c p d : ℕ) → d ≢ c → list_at (taken_from c p lists) d ≡ list_at lists d
taken_other_list lists c p d other = list_same lists c d (without_place p (list_at lists c)) other

pub taken_was : (lists : List Listed) (c p d t : ℕ) → c < length lists → p < length (list_of lists c) → IsOnce (list_of lists c) → IsIn t (list_of (taken_from c p lists) d) → IsIn t (list_of lists d) × (d ≡ c → t ≢ watch_at (list_of lists c) p)
taken_was lists c p d t low there once found = elim (cases_eq d c) [
  | inl mine ↦
      let was = removed_was (list_of lists c) p t there once (subst (IsIn t) (taken_list lists c p d low mine) found) in
      (subst (λ k. IsIn t (list_of lists k)) (sym mine) was.0, λ e. was.1)
  | inr other ↦ (subst (λ (x : Listed). IsIn t x.watches) (taken_other_list lists c p d other) found, λ e. absurd (other e))
]

pub taken_stays : (lists : List Listed) (c p d t : ℕ) → c < length lists → p < length (list_of lists c) → IsIn t (list_of lists d) → t ≢ watch_at (list_of lists c) p → IsIn t (list_of (taken_from c p lists) d)
taken_stays lists c p d t low there found differs = elim (cases_eq d c) [
  | inl mine ↦ subst (IsIn t) (sym (taken_list lists c p d low mine)) (removed_stays (list_of lists c) p t there (subst (λ k. IsIn t (list_of lists k)) mine found) differs)
  | inr other ↦ subst (λ (x : Listed). IsIn t x.watches) (sym (taken_other_list lists c p d other)) found
]

pub taken_once : (lists : List Listed) (c p d : ℕ) → c < length lists → p < length (list_of lists c) → IsOnce (list_of lists c) → IsOnce (list_of lists d) → IsOnce (list_of (taken_from c p lists) d)
taken_once lists c p d low there once_c once = elim (cases_eq d c) [
  | inl mine ↦ subst IsOnce (sym (taken_list lists c p d low mine)) (removed_once (list_of lists c) p there once_c)
  | inr other ↦ subst (λ (x : Listed). IsOnce x.watches) (sym (taken_other_list lists c p d other)) once
]

pub taken_room : (lists : List Listed) (c p d : ℕ) → c < length lists → p < length (list_of lists c) → length (list_of (taken_from c p lists) d) + (list_at (taken_from c p lists) d).room ≡ length (list_of lists d) + (list_at lists d).room
taken_room lists c p d low there = elim (cases_eq d c) [
  | inl mine ↦
      let new = ap (list_at (taken_from c p lists)) mine ∙ list_new lists c (without_place p (list_at lists c)) low in
      omega (arith, ap (λ (x : Listed). length x.watches) new, ap (λ (x : Listed). x.room) new, removed_size (list_of lists c) p, there, ap (λ k. length (list_of lists k)) mine, ap (λ k. (list_at lists k).room) mine)
  | inr other ↦
      let same = taken_other_list lists c p d other in
      omega (arith, ap (λ (x : Listed). length x.watches) same, ap (λ (x : Listed). x.room) same)
]

-- before the place the list is as it was
pub moved_front : (lists : List Listed) (f c s p k : ℕ) → f < length lists → c ≢ f → p < length (list_of lists f) → k < p → (k < length (list_of (put_in c s (taken_from f p lists)) f)) × (watch_at (list_of (put_in c s (taken_from f p lists)) f) k ≡ watch_at (list_of lists f) k)
moved_front lists f c s p k low differ there before =
    let is = put_other_list (taken_from f p lists) c s f (λ e. differ (sym e)) ∙ taken_list lists f p f low refl in
    let inside : k < length (swap_remove (list_of lists f) p 0) = omega (arith, before, there, removed_size (list_of lists f) p) in
    (omega (arith, inside, ap length is), ap (λ xs. watch_at xs k) is ∙ removed_other (list_of lists f) p k inside (λ e. omega (arith, e, before)))

-- ---- a watch moves from one list to another

pub moved_listed : (ws : List SatLit) (lists : List Listed) (f l : SatLit) (p s : ℕ) → AreListed ws lists → f.0 < length lists → l.0 < length lists → IsAt (list_of lists f.0) s p → l.0 ≢ f.0 → l.0 ≢ (literal_at ws (partner s)).0 → AreListed (slice_set ws s l) (put_in l.0 s (taken_from f.0 p lists))
moved_listed ws lists f l p s is low_f low_l at apart differ = record {
  even = ap (λ n. n % 2) (length-set ws s l) ∙ is.even;
  few = omega (arith, is.few, length-set ws s l);
  known = λ t inside. elim (cases_eq t s) [
    | inl mine ↦ omega (arith, ap (λ k. (literal_at (slice_set ws s l) k).0) mine, ap (λ (x : SatLit). x.0) (literal_new ws s l own_s.within), low_l, size)
    | inr other ↦ omega (arith, ap (λ (x : SatLit). x.0) (literal_same ws s t l other), is.known t (omega (arith, inside, length-set ws s l)), size)
  ];
  own = λ c t low found. elim (put_was (taken_from f.0 p lists) l.0 s c t low_mid found) [
    | inl is_s ↦ record {
      within = omega (arith, is_s.0, own_s.within, length-set ws s l);
      is = ap (λ k. (literal_at (slice_set ws s l) k).0) is_s.0 ∙ (ap (λ (x : SatLit). x.0) (literal_new ws s l own_s.within) ∙ sym is_s.1);
      attached = subst (IsAttached (slice_set ws s l)) (sym is_s.0) (attached_itself ws s l own_s.within differ);
    }
    | inr mid ↦
        let was = taken_was lists f.0 p c t low_f at.within (is.once f.0 low_f) mid in
        let own = is.own c t (omega (arith, low, size)) was.0 in
        let other : t ≢ s = λ e. elim (cases_eq c f.0) [
          | inl is_f ↦ was.1 is_f (e ∙ sym at.is)
          | inr not_f ↦ not_f (sym own.is ∙ (ap (λ k. (literal_at ws k).0) e ∙ own_s.is))
        ] in
        record {
          within = omega (arith, own.within, length-set ws s l);
          is = ap (λ (x : SatLit). x.0) (literal_same ws s t l other) ∙ own.is;
          attached = attached_after ws s t l own_s.within other differ own.attached;
        }
  ];
  once = λ c low.
      put_once (taken_from f.0 p lists) l.0 s c low_mid (taken_once lists f.0 p c low_f at.within (is.once f.0 low_f) (is.once c (omega (arith, low, size)))) (λ found.
      let was = taken_was lists f.0 p l.0 s low_f at.within (is.once f.0 low_f) found in
      apart (sym (is.own l.0 s low_l was.0).is ∙ own_s.is));
  all = λ t inside attached. elim (cases_eq t s) [
    | inl mine ↦
        let number : (literal_at (slice_set ws s l) t).0 ≡ l.0 = ap (λ k. (literal_at (slice_set ws s l) k).0) mine ∙ ap (λ (x : SatLit). x.0) (literal_new ws s l own_s.within) in
        subst (λ c. IsIn t (list_of (put_in l.0 s (taken_from f.0 p lists)) c)) (sym number) (subst (λ k. IsIn k (list_of (put_in l.0 s (taken_from f.0 p lists)) l.0)) (sym mine) (put_itself (taken_from f.0 p lists) l.0 s low_mid))
    | inr other ↦
        let number : (literal_at (slice_set ws s l) t).0 ≡ (literal_at ws t).0 = ap (λ (x : SatLit). x.0) (literal_same ws s t l other) in
        let low : t < length ws = omega (arith, inside, length-set ws s l) in
        let found = is.all t low (attached_before ws s t l own_s.within other own_s.attached attached) in
        let mid = taken_stays lists f.0 p (literal_at ws t).0 t low_f at.within found (λ e. other (e ∙ at.is)) in
        subst (λ c. IsIn t (list_of (put_in l.0 s (taken_from f.0 p lists)) c)) (sym number) (put_stays (taken_from f.0 p lists) l.0 s (literal_at ws t).0 t low_mid mid)
  ];
}
  where
    own_s : IsOwn ws f.0 s
    own_s = is.own f.0 s low_f (p, at)

    low_mid : l.0 < length (taken_from f.0 p lists)
    low_mid = omega (arith, low_l, taken_size lists f.0 p)

    size : length (put_in l.0 s (taken_from f.0 p lists)) ≡ length lists
    size = put_size (taken_from f.0 p lists) l.0 s ∙ taken_size lists f.0 p

-- ---- the watches of a clause that isn't attached

-- what two writes leave
pub put_twice : (ws : List SatLit) (s : ℕ) (a b : SatLit) → s + 1 < length ws → ArePut ws (slice_set (slice_set ws s a) (s + 1) b) s a b
put_twice ws s a b there = record {
  size = length-set (slice_set ws s a) (s + 1) b ∙ length-set ws s a;
  first_is = literal_same (slice_set ws s a) (s + 1) s b (λ e. omega (arith, e)) ∙ literal_new ws s a (omega (arith, there));
  second_is = literal_new (slice_set ws s a) (s + 1) b (omega (arith, there, length-set ws s a));
  others = λ t not_s not_next. literal_same (slice_set ws s a) (s + 1) t b not_next ∙ literal_same ws s t a not_s;
}

pub put_other : (old new : List SatLit) (s : ℕ) (a b : SatLit) → s % 2 ≡ 0 → ArePut old new s a b → (t : ℕ) → t ≢ s → t ≢ s + 1 → (literal_at new t ≡ literal_at old t) × (literal_at new (partner t) ≡ literal_at old (partner t))
put_other old new s a b even put t not_s not_next = (put.others t not_s not_next, put.others (partner t) (λ e. omega (arith, e, not_next, even)) (λ e. omega (arith, e, not_s, even)))

pub put_attached : (old new : List SatLit) (s : ℕ) (a b : SatLit) → s % 2 ≡ 0 → ArePut old new s a b → a.0 ≢ b.0 → IsAttached new s
put_attached old new s a b even put differ e =
    let next : partner s ≡ s + 1 = omega (arith, even) in
    differ (sym (ap (λ (l : SatLit). l.0) put.first_is) ∙ (e ∙ (ap (λ k. (literal_at new k).0) next ∙ ap (λ (l : SatLit). l.0) put.second_is)))

pub put_before : (old new : List SatLit) (s : ℕ) (a b : SatLit) → s % 2 ≡ 0 → ArePut old new s a b → (t : ℕ) → t ≢ s → t ≢ s + 1 → IsAttached new t → IsAttached old t
put_before old new s a b even put t not_s not_next attached e =
    let p = put_other old new s a b even put t not_s not_next in
    attached (ap (λ (l : SatLit). l.0) p.0 ∙ (e ∙ ap (λ (l : SatLit). l.0) (sym p.1)))

pub put_after : (old new : List SatLit) (s : ℕ) (a b : SatLit) → s % 2 ≡ 0 → ArePut old new s a b → (t : ℕ) → t ≢ s → t ≢ s + 1 → IsAttached old t → IsAttached new t
put_after old new s a b even put t not_s not_next attached e =
    let p = put_other old new s a b even put t not_s not_next in
    attached (sym (ap (λ (l : SatLit). l.0) p.0) ∙ (e ∙ ap (λ (l : SatLit). l.0) p.1))

-- they are put into the lists of two literals
pub both_listed : (ws new : List SatLit) (lists : List Listed) (s : ℕ) (a b : SatLit) → AreListed ws lists → ArePut ws new s a b → s + 1 < length ws → s % 2 ≡ 0 → (IsAttached ws s → ⊥) → a.0 < length lists → b.0 < length lists → a.0 ≢ b.0 → AreListed new (put_in b.0 (s + 1) (put_in a.0 s lists))
both_listed ws new lists s a b is put there even unattached low_a low_b differ = record {
  even = ap (λ n. n % 2) put.size ∙ is.even;
  few = omega (arith, is.few, put.size);
  known = λ t inside. elim (cases_eq t s) [
    | inl mine ↦ omega (arith, ap (λ k. (literal_at new k).0) mine, ap (λ (l : SatLit). l.0) put.first_is, low_a, size)
    | inr not_s ↦ elim (cases_eq t (s + 1)) [
      | inl mine ↦ omega (arith, ap (λ k. (literal_at new k).0) mine, ap (λ (l : SatLit). l.0) put.second_is, low_b, size)
      | inr not_next ↦ omega (arith, ap (λ (l : SatLit). l.0) (put.others t not_s not_next), is.known t (omega (arith, inside, put.size)), size)
    ]
  ];
  own = λ c t low found. elim (put_was (put_in a.0 s lists) b.0 (s + 1) c t low_mid found) [
    | inl is_next ↦ record {
      within = omega (arith, is_next.0, there, put.size);
      is = ap (λ k. (literal_at new k).0) is_next.0 ∙ (ap (λ (l : SatLit). l.0) put.second_is ∙ sym is_next.1);
      attached = subst (IsAttached new) (sym is_next.0) attached_next;
    }
    | inr mid ↦ elim (put_was lists a.0 s c t low_a mid) [
      | inl is_s ↦ record {
        within = omega (arith, is_s.0, there, put.size);
        is = ap (λ k. (literal_at new k).0) is_s.0 ∙ (ap (λ (l : SatLit). l.0) put.first_is ∙ sym is_s.1);
        attached = subst (IsAttached new) (sym is_s.0) (put_attached ws new s a b even put differ);
      }
      | inr old ↦
          let own = is.own c t (omega (arith, low, size)) old in
          let out = apart_from t own.attached in
          record {
            within = omega (arith, own.within, put.size);
            is = ap (λ (l : SatLit). l.0) (put.others t out.0 out.1) ∙ own.is;
            attached = put_after ws new s a b even put t out.0 out.1 own.attached;
          }
    ]
  ];
  once = λ c low.
      put_once (put_in a.0 s lists) b.0 (s + 1) c low_mid (put_once lists a.0 s c low_a (is.once c (omega (arith, low, size))) (λ found. (apart_from s (is.own a.0 s low_a found).attached).0 refl)) (λ found. elim (put_was lists a.0 s b.0 (s + 1) low_a found) [
        | inl clash ↦ differ (sym clash.1)
        | inr old ↦ (apart_from (s + 1) (is.own b.0 (s + 1) low_b old).attached).1 refl
      ]);
  all = λ t inside attached. elim (cases_eq t s) [
    | inl mine ↦
        let number : (literal_at new t).0 ≡ a.0 = ap (λ k. (literal_at new k).0) mine ∙ ap (λ (l : SatLit). l.0) put.first_is in
        let here = put_stays (put_in a.0 s lists) b.0 (s + 1) a.0 s low_mid (put_itself lists a.0 s low_a) in
        subst (λ c. IsIn t (list_of (put_in b.0 (s + 1) (put_in a.0 s lists)) c)) (sym number) (subst (λ k. IsIn k (list_of (put_in b.0 (s + 1) (put_in a.0 s lists)) a.0)) (sym mine) here)
    | inr not_s ↦ elim (cases_eq t (s + 1)) [
      | inl mine ↦
          let number : (literal_at new t).0 ≡ b.0 = ap (λ k. (literal_at new k).0) mine ∙ ap (λ (l : SatLit). l.0) put.second_is in
          let here = put_itself (put_in a.0 s lists) b.0 (s + 1) low_mid in
          subst (λ c. IsIn t (list_of (put_in b.0 (s + 1) (put_in a.0 s lists)) c)) (sym number) (subst (λ k. IsIn k (list_of (put_in b.0 (s + 1) (put_in a.0 s lists)) b.0)) (sym mine) here)
      | inr not_next ↦
          let number : (literal_at new t).0 ≡ (literal_at ws t).0 = ap (λ (l : SatLit). l.0) (put.others t not_s not_next) in
          let old = is.all t (omega (arith, inside, put.size)) (put_before ws new s a b even put t not_s not_next attached) in
          let mid = put_stays lists a.0 s (literal_at ws t).0 t low_a old in
          subst (λ c. IsIn t (list_of (put_in b.0 (s + 1) (put_in a.0 s lists)) c)) (sym number) (put_stays (put_in a.0 s lists) b.0 (s + 1) (literal_at ws t).0 t low_mid mid)
    ]
  ];
}
  where
    size : length (put_in b.0 (s + 1) (put_in a.0 s lists)) ≡ length lists
    size = put_size (put_in a.0 s lists) b.0 (s + 1) ∙ put_size lists a.0 s

    low_mid : b.0 < length (put_in a.0 s lists)
    low_mid = omega (arith, low_b, put_size lists a.0 s)

    partner_s : partner s ≡ s + 1
    partner_s = omega (arith, even)

    partner_next : partner (s + 1) ≡ s
    partner_next = omega (arith, even)

    unattached_next : IsAttached ws (s + 1) → ⊥
    unattached_next attached = unattached (λ e. attached (ap (λ k. (literal_at ws k).0) (sym partner_s) ∙ (sym e ∙ ap (λ k. (literal_at ws k).0) (sym partner_next))))

    apart_from : (t : ℕ) → IsAttached ws t → (t ≢ s) × (t ≢ s + 1)
    apart_from t attached = ((λ e. unattached (subst (IsAttached ws) e attached)), (λ e. unattached_next (subst (IsAttached ws) e attached)))

    attached_next : IsAttached new (s + 1)
    attached_next e = put_attached ws new s a b even put differ (ap (λ k. (literal_at new k).0) (sym partner_next) ∙ (sym e ∙ ap (λ k. (literal_at new k).0) (sym partner_s)))
