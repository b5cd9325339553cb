-- Numbers in a heap are exchanged, queued and taken out.
use Rattle.std.proofs.Common.{◌≡◌, ◌≢◌, ℕ, ◌+◌, ◌<◌, ◌≤◌, Bool, true, false, List, [], ◌∷◌, length, nat_lt, slice_index_or, slice_set, replicate, inl, inr, refl, sym, ◌∙◌, ap, arith}
use Rattle.std.specs.List.{SwappedAt, range_with_len}
use Rattle.std.proofs.lemmas.Bool.{cases_eq, cases_lt, lt-ltb, le-ltb}
use Rattle.std.proofs.lemmas.List.{ext_get_or, get_or-map, get_or_read, get_or-set_same, get_or-set_other, length-map, length-set, get_or-replicate, length-replicate}
use Rattle.std.proofs.lemmas.Bool.Decides.{nat_tests}
use Rattle.std.proofs.lemmas.List.Elements.{All-map}
use Rattle.std.proofs.lemmas.List.FromFn.{get_or-range_with_len, length-range_with_len}
use Rattle.circuits.specs.Literals.{bit}
use Rattle.learn_solver.specs.Heaps.{AreInverse, are_queued, exchanged, turned}

-- whether a number is queued
pub queued_at : (queued : ℕ) (places : List ℕ) (v d : ℕ) → v < length places → bit (are_queued queued places) v ≡ nat_lt (slice_index_or places v d) queued
queued_at queued places v d within = get_or-map (λ place. nat_lt place queued) places v d false within

pub as_many_queued : (queued : ℕ) (places : List ℕ) → length (are_queued queued places) ≡ length places
as_many_queued queued places = length-map places (λ place. nat_lt place queued)

-- all numbers in their order
pub inverse_start : (count : ℕ) → AreInverse count (range_with_len 0 count) (range_with_len 0 count)
inverse_start count = record {
  as_many = length-range_with_len 0 count;
  as_many_places = length-range_with_len 0 count;
  known = λ k d within. omega (arith, get_or-range_with_len 0 count k d (omega (arith, within, length-range_with_len 0 count)), within, length-range_with_len 0 count);
  within = λ k d within. omega (arith, get_or-range_with_len 0 count k d (omega (arith, within, length-range_with_len 0 count)), within, length-range_with_len 0 count);
  there = λ k d e low. twice k d e low;
  back = λ k d e low. twice k d e low;
}
  where
    twice : (k d e : ℕ) → k < count → slice_index_or (range_with_len 0 count) (slice_index_or (range_with_len 0 count) k d) e ≡ k
    twice k d e low =
        let one : slice_index_or (range_with_len 0 count) k d ≡ k = omega (arith, get_or-range_with_len 0 count k d low) in
        let two : slice_index_or (range_with_len 0 count) k e ≡ k = omega (arith, get_or-range_with_len 0 count k e low) in
        ap (λ j. slice_index_or (range_with_len 0 count) j e) one ∙ two

-- ---- two places are exchanged

turned_one : (one other : ℕ) → turned one other one ≡ other
turned_one one other = grind (arith, nat_tests)

turned_other : (one other : ℕ) → turned one other other ≡ one
turned_other one other = grind (arith, nat_tests)

turned_rest : (one other k : ℕ) → k ≢ one → k ≢ other → turned one other k ≡ k
turned_rest one other k not_one not_other = grind (arith, nat_tests)

turned_twice : (one other k : ℕ) → turned one other (turned one other k) ≡ k
turned_twice one other k = grind (arith, nat_tests)

turned_below : (count one other k : ℕ) → one < count → other < count → k < count → turned one other k < count
turned_below count one other k low lower known = grind (arith, nat_tests)

-- where a number stands then
turned_at : (one other : ℕ) (places : List ℕ) (v d : ℕ) → v < length places → slice_index_or (exchanged one other places) v d ≡ turned one other (slice_index_or places v d)
turned_at one other places v d within = get_or-map (turned one other) places v d d within

-- which number stands at a place then
number_at : (numbers now : List ℕ) (one other k d : ℕ) → SwappedAt numbers now one other → slice_index_or now k d ≡ slice_index_or numbers (turned one other k) d
number_at numbers now one other k d swapped = elim (cases_eq k one) [
  | inl front ↦ ap (λ j. slice_index_or now j d) front ∙ (swapped.0 d ∙ ap (λ j. slice_index_or numbers j d) (sym (ap (turned one other) front ∙ turned_one one other)))
  | inr not_front ↦ elim (cases_eq k other) [
    | inl last ↦ ap (λ j. slice_index_or now j d) last ∙ (swapped.1 d ∙ ap (λ j. slice_index_or numbers j d) (sym (ap (turned one other) last ∙ turned_other one other)))
    | inr not_last ↦ swapped.2 k d not_front not_last ∙ ap (λ j. slice_index_or numbers j d) (sym (turned_rest one other k not_front not_last))
  ]
]

-- what is written for the two numbers gives all places
pub written : (count : ℕ) (numbers places : List ℕ) (one other : ℕ) → AreInverse count numbers places → one < count → other < count → slice_set (slice_set places (slice_index_or numbers one 0) other) (slice_index_or numbers other 0) one ≡ exchanged one other places
written count numbers places one other is low lower =
    let first = slice_index_or numbers one 0 in
    let second = slice_index_or numbers other 0 in
    let mid = slice_set places first other in
    let size = length-set places first other in
    ext_get_or 0 (slice_set mid second one) (exchanged one other places) (length-set mid second one ∙ (size ∙ sym (length-map places (turned one other)))) (λ v inside.
    let within : v < length places = omega (arith, inside, length-set mid second one, size) in
    let now = turned_at one other places v 0 within in
    let back = is.back v 0 0 (omega (arith, within, is.as_many_places)) in
    elim (cases_eq v second) [
      | inl last ↦ ap (λ u. slice_index_or (slice_set mid second one) u 0) last ∙ (get_or-set_same mid second one 0 (omega (arith, last, within, size)) ∙ sym (now ∙ (ap (λ u. turned one other (slice_index_or places u 0)) last ∙ (ap (turned one other) (is.there other 0 0 lower) ∙ turned_other one other))))
      | inr not_last ↦ get_or-set_other mid second v one 0 not_last ∙ elim (cases_eq v first) [
        | inl front ↦ ap (λ u. slice_index_or mid u 0) front ∙ (get_or-set_same places first other 0 (omega (arith, front, within)) ∙ sym (now ∙ (ap (λ u. turned one other (slice_index_or places u 0)) front ∙ (ap (turned one other) (is.there one 0 0 low) ∙ turned_one one other))))
        | inr not_front ↦ get_or-set_other places first v other 0 not_front ∙ sym (now ∙ turned_rest one other (slice_index_or places v 0) (λ e. not_front (sym back ∙ ap (λ p. slice_index_or numbers p 0) e)) (λ e. not_last (sym back ∙ ap (λ p. slice_index_or numbers p 0) e)))
      ]
    ])

-- the places are still those of the numbers
pub inverse_exchanged : (count : ℕ) (numbers places now : List ℕ) (one other : ℕ) → AreInverse count numbers places → one < count → other < count → SwappedAt numbers now one other → length now ≡ length numbers → AreInverse count now (exchanged one other places)
inverse_exchanged count numbers places now one other is low lower swapped size = record {
  as_many = size ∙ is.as_many;
  as_many_places = length-map places (turned one other) ∙ is.as_many_places;
  known = λ k d within. omega (arith, number_at numbers now one other k d swapped, is.known (turned one other k) d (omega (arith, turned_below count one other k low lower (omega (arith, within, size, is.as_many)), is.as_many)));
  within = All-map (λ place. place < count) (turned one other) places (λ v d inside. turned_below count one other (slice_index_or places v d) low lower (is.within v d inside));
  there = λ k d e within.
      let from = turned one other k in
      let below = turned_below count one other k low lower within in
      ap (λ v. slice_index_or (exchanged one other places) v e) (number_at numbers now one other k d swapped)
      ∙ (turned_at one other places (slice_index_or numbers from d) e (omega (arith, is.known from d (omega (arith, below, is.as_many)), is.as_many_places))
      ∙ (ap (turned one other) (is.there from d e below) ∙ turned_twice one other k));
  back = λ v d e known.
      ap (λ p. slice_index_or now p e) (turned_at one other places v d (omega (arith, known, is.as_many_places)))
      ∙ (number_at numbers now one other (turned one other (slice_index_or places v d)) e swapped
      ∙ (ap (λ p. slice_index_or numbers p e) (turned_twice one other (slice_index_or places v d)) ∙ is.back v d e known));
}

-- what is queued stays so where both places are queued ones, or neither is
pub queued_exchanged : (queued : ℕ) (places : List ℕ) (one other : ℕ) → nat_lt one queued ≡ nat_lt other queued → are_queued queued (exchanged one other places) ≡ are_queued queued places
queued_exchanged queued [] one other same = refl
queued_exchanged queued (place ∷ places) one other same = ap (λ b. b ∷ are_queued queued (exchanged one other places)) (kept place) ∙ ap (λ marks. nat_lt place queued ∷ marks) (queued_exchanged queued places one other same)
  where
    kept : (k : ℕ) → nat_lt (turned one other k) queued ≡ nat_lt k queued
    kept k = grind (arith, nat_tests)

-- ---- a number stands at the first place that isn't queued, or that isn't any more

-- whether another number is queued doesn't change with the one at that place
others_queued : (count queued : ℕ) (numbers places : List ℕ) (v : ℕ) → AreInverse count numbers places → v < count → slice_index_or places v 0 ≡ queued → (u : ℕ) → u < length places → u ≢ v → nat_lt (slice_index_or places u 0) (queued + 1) ≡ nat_lt (slice_index_or places u 0) queued
others_queued count queued numbers places v is known there u low other = elim (cases_lt (slice_index_or places u 0) queued) [
  | inl front ↦ lt-ltb _ (queued + 1) (omega (arith, front)) ∙ sym (lt-ltb _ queued front)
  | inr rest ↦ le-ltb _ (queued + 1) (omega (arith, rest, there, apart)) ∙ sym (le-ltb _ queued rest)
]
  where
    apart : slice_index_or places u 0 ≢ slice_index_or places v 0
    apart same = other (sym (is.back u 0 0 (omega (arith, low, is.as_many_places))) ∙ (ap (λ p. slice_index_or numbers p 0) same ∙ is.back v 0 0 known))

-- one mark is set, and each other is as before
set_marks : (queued later v : ℕ) (mark : Bool) (places : List ℕ) → v < length places → nat_lt (slice_index_or places v 0) later ≡ mark → ((u : ℕ) → u < length places → u ≢ v → nat_lt (slice_index_or places u 0) later ≡ nat_lt (slice_index_or places u 0) queued) → are_queued later places ≡ slice_set (are_queued queued places) v mark
set_marks queued later v mark places there own others =
    ext_get_or false (are_queued later places) (slice_set (are_queued queued places) v mark) (as_many_queued later places ∙ sym (length-set (are_queued queued places) v mark ∙ as_many_queued queued places)) (λ u within.
    let low : u < length places = omega (arith, within, as_many_queued later places) in
    queued_at later places u 0 low ∙ elim (cases_eq u v) [
      | inl same ↦ ap (λ w. nat_lt (slice_index_or places w 0) later) same ∙ (own ∙ sym (ap (bit (slice_set (are_queued queued places) v mark)) same ∙ get_or-set_same (are_queued queued places) v mark false (omega (arith, there, as_many_queued queued places))))
      | inr apart ↦ others u low apart ∙ sym (get_or-set_other (are_queued queued places) v u mark false apart ∙ queued_at queued places u 0 low)
    ])

-- where a number stands says whether it is queued
pub place_says : (count queued v place : ℕ) (numbers places : List ℕ) (marks : List Bool) → AreInverse count numbers places → are_queued queued places ≡ marks → v < length marks → place ≡ slice_index_or places v place → (v < count) × (place ≡ slice_index_or places v 0) × (place < count) × (nat_lt place queued ≡ bit marks v)
place_says count queued v place numbers places marks is marks_are low place_is =
    let within : v < length places = omega (arith, low, as_many_queued queued places, ap length marks_are) in
    let at = get_or_read places v place within place_is 0 in
    (omega (arith, within, is.as_many_places), at, omega (arith, at, is.within v 0 within), ap (λ p. nat_lt p queued) at ∙ (sym (queued_at queued places v 0 within) ∙ ap (λ queued. bit queued v) marks_are))

-- a number that stands after the queued ones is exchanged with the first of these, and queued
pub admitted : (count queued : ℕ) (numbers places now : List ℕ) (place v : ℕ) → AreInverse count numbers places → AreInverse count now (exchanged place queued places) → v < count → place ≡ slice_index_or places v 0 → queued ≤ place → are_queued (queued + 1) (exchanged place queued places) ≡ slice_set (are_queued queued places) v true
admitted count queued numbers places now place v is new known place_is late =
    let there = turned_at place queued places v 0 (omega (arith, known, is.as_many_places)) ∙ (ap (turned place queued) (sym place_is) ∙ turned_one place queued) in
    set_marks queued (queued + 1) v true (exchanged place queued places) (omega (arith, known, new.as_many_places)) (lt-ltb _ (queued + 1) (omega (arith, there))) (others_queued count queued now (exchanged place queued places) v new known there)
    ∙ ap (λ marks. slice_set marks v true) (queued_exchanged queued places place queued (le-ltb place queued late ∙ sym (le-ltb queued queued (omega arith))))

-- a queued number is exchanged with the last queued one, and taken out
pub dismissed : (count last : ℕ) (numbers places now : List ℕ) (place v : ℕ) → AreInverse count numbers places → AreInverse count now (exchanged place last places) → v < count → place ≡ slice_index_or places v 0 → place < last + 1 → are_queued last (exchanged place last places) ≡ slice_set (are_queued (last + 1) places) v false
dismissed count last numbers places now place v is new known place_is front =
    let there = turned_at place last places v 0 (omega (arith, known, is.as_many_places)) ∙ (ap (turned place last) (sym place_is) ∙ turned_one place last) in
    set_marks (last + 1) last v false (exchanged place last places) (omega (arith, known, new.as_many_places)) (le-ltb _ last (omega (arith, there))) (λ u inside other. sym (others_queued count last now (exchanged place last places) v new known there u inside other))
    ∙ ap (λ marks. slice_set marks v false) (queued_exchanged (last + 1) places place last (lt-ltb place (last + 1) front ∙ sym (lt-ltb last (last + 1) (omega arith))))

-- none is queued
pub none_queued : (queued : ℕ) (places : List ℕ) (count : ℕ) → queued ≡ 0 → length places ≡ count → are_queued queued places ≡ replicate count false
none_queued queued places count none size =
    ext_get_or false (are_queued queued places) (replicate count false) (as_many_queued queued places ∙ (size ∙ sym (length-replicate count false))) (λ v within.
    let low : v < length places = omega (arith, within, as_many_queued queued places) in
    queued_at queued places v 0 low ∙ (le-ltb (slice_index_or places v 0) queued (omega (arith, none)) ∙ sym (get_or-replicate count v false false (omega (arith, low, size)))))

-- A number is moved forward from a place: its place isn't after that, and what is queued stays so.
pub record IsLifting (count first : ℕ) (places : List ℕ) (numbers now : List ℕ) (place : ℕ) : Type 0 where
  pub inverse : AreInverse count numbers now
  pub low : place ≤ first
  pub known : first < count
  pub queued : (queued : ℕ) → first < queued → are_queued queued now ≡ are_queued queued places

-- The first number is moved back among the queued ones, which stay so.
pub record IsSinking (count queued : ℕ) (places : List ℕ) (numbers now : List ℕ) : Type 0 where
  pub inverse : AreInverse count numbers now
  pub queued_are : are_queued queued now ≡ are_queued queued places

-- where any are queued, the first number is
pub first_queued : (count queued : ℕ) (numbers places : List ℕ) (first : ℕ) → AreInverse count numbers places → 0 < queued → queued ≤ count → first ≡ slice_index_or numbers 0 first → bit (are_queued queued places) first ≡ true
first_queued count queued numbers places first is some most first_is =
    let low : first < count = omega (arith, first_is, is.known 0 first (omega (arith, some, most, is.as_many))) in
    let front : slice_index_or places first 0 ≡ 0 = ap (λ v. slice_index_or places v 0) first_is ∙ is.there 0 first 0 (omega (arith, some, most)) in
    queued_at queued places first 0 (omega (arith, low, is.as_many_places)) ∙ lt-ltb (slice_index_or places first 0) queued (omega (arith, front, some))
