-- The list of each literal has room for a watch of each clause that has it.
use Rattle.std.proofs.Common.{◌≡◌, ◌≢◌, ℕ, ◌+◌, ◌/◌, ◌<◌, ◌≤◌, cond, eqb, Bool, true, false, List, [], ◌∷◌, ◌++◌, length, map, take, All, slice_index_or, slice_set, inl, inr, refl, sym, ◌∙◌, ap, subst, arith}
use Rattle.std.specs.List.{list_any}
use Rattle.std.proofs.lemmas.Bool.{cases_Bool, cases_eq, cases_lt, eqb-true, ne_eqb}
use Rattle.std.proofs.lemmas.List.{get_or_append_left, get_or_at, get_or_default, get_or-map, get_or-set_other, get_or-set_same, length-append, length-map, length-set, take-take}
use Rattle.std.proofs.lemmas.List.Elements.{All-contains}
use Rattle.std.proofs.lemmas.List.Sums.{sum_by_more, sum_by_push, sum_by-take-le}
use Rattle.std.proofs.lemmas.Map.Keys.{IsDistinct-from_apart}
use Rattle.std.proofs.lemmas.Map.Steps.{length-le_from_distinct_below}
use Rattle.std.proofs.lemmas.Map.Views.{Contains-from_any}
use Rattle.cnf_core.specs.declared.literal.SatLit.{SatLit}
use Rattle.cnf_core.specs.Clauses.{clause_at}
use Rattle.cnf_core.specs.Derivations.{is_true}
use Rattle.cnf_core.proofs.LiteralLemmas.{same_literal}
use Rattle.watch_lists.specs.Lists.{AreListed, HaveRoom, IsIn, IsOwn, IsRoomier, Listed, clauses_with, list_at, list_of, literal_at, none_listed, numbered, partner, put_in, taken_from, watch_at}
use Rattle.watch_lists.specs.Watched.{AreOfClauses}
use Rattle.watch_lists.proofs.ListLemmas.{put_room, put_size, taken_other_list, taken_room, taken_size}

-- ---- as many watches of different clauses that have a literal as there are such clauses at most

-- how many clauses before this one have the literal
abbrev rank : ℕ → List (List SatLit) → ℕ → ℕ
rank c clauses x = clauses_with c (take x clauses)

rank_more : (c : ℕ) (clauses : List (List SatLit)) (x : ℕ) → x < length clauses → is_true (clause_at clauses x) (numbered c) ≡ true → rank c clauses (x + 1) ≡ rank c clauses x + 1
rank_more c clauses x within holds =
    sum_by_more (λ (clause : List SatLit). cond (is_true clause (numbered c)) 1 0) clauses x [] within ∙ ap (λ b. rank c clauses x + cond b 1 0) holds

rank_le : (c : ℕ) (clauses : List (List SatLit)) (x y : ℕ) → x ≤ y → rank c clauses x ≤ rank c clauses y
rank_le c clauses x y order =
    let fewer = sum_by-take-le (λ (clause : List SatLit). cond (is_true clause (numbered c)) 1 0) (take y clauses) x in
    omega (arith, fewer, ap (clauses_with c) (take-take x y clauses order))

rank_low : (c : ℕ) (clauses : List (List SatLit)) (x : ℕ) → x < length clauses → is_true (clause_at clauses x) (numbered c) ≡ true → rank c clauses x < clauses_with c clauses
rank_low c clauses x within holds =
    let fewer = sum_by-take-le (λ (clause : List SatLit). cond (is_true clause (numbered c)) 1 0) clauses (x + 1) in
    omega (arith, fewer, rank_more c clauses x within holds)

counted : (c : ℕ) (clauses : List (List SatLit)) (xs : List ℕ) → ((j k : ℕ) → j < k → k < length xs → watch_at xs j / 2 ≢ watch_at xs k / 2) → ((k : ℕ) → k < length xs → (watch_at xs k / 2 < length clauses) × (is_true (clause_at clauses (watch_at xs k / 2)) (numbered c) ≡ true)) → length xs ≤ clauses_with c clauses
counted c clauses xs differ have =
    let ranks = map (λ t. rank c clauses (t / 2)) xs in
    let few = length-le_from_distinct_below ranks (clauses_with c clauses) (IsDistinct-from_apart eqb ranks apart) below in
    omega (arith, few, length-map xs (λ t. rank c clauses (t / 2)))
  where
    at : (k d : ℕ) → k < length xs → slice_index_or (map (λ t. rank c clauses (t / 2)) xs) k d ≡ rank c clauses (watch_at xs k / 2)
    at k d within = get_or-map (λ t. rank c clauses (t / 2)) xs k 0 d within

    -- the later of two clauses comes after one more
    less : (j k : ℕ) → j < length xs → k < length xs → watch_at xs j / 2 < watch_at xs k / 2 → rank c clauses (watch_at xs j / 2) ≢ rank c clauses (watch_at xs k / 2)
    less j k low_j low_k order same =
        let more = rank_more c clauses (watch_at xs j / 2) (have j low_j).0 (have j low_j).1 in
        let after = rank_le c clauses (watch_at xs j / 2 + 1) (watch_at xs k / 2) (omega (arith, order)) in
        omega (arith, more, after, same)

    apart : (i j d : ℕ) → i < j → j < length (map (λ t. rank c clauses (t / 2)) xs) → eqb (slice_index_or (map (λ t. rank c clauses (t / 2)) xs) i d) (slice_index_or (map (λ t. rank c clauses (t / 2)) xs) j d) ≡ false
    apart i j d order within =
        let low_j : j < length xs = omega (arith, within, length-map xs (λ t. rank c clauses (t / 2))) in
        let low_i : i < length xs = omega (arith, order, low_j) in
        ne_eqb _ _ (λ same.
        let equal = sym (at i d low_i) ∙ (same ∙ at j d low_j) in
        elim (cases_lt (watch_at xs i / 2) (watch_at xs j / 2)) [
          | inl before ↦ less i j low_i low_j before equal
          | inr late ↦ less j i low_j low_i (omega (arith, late, differ i j order low_j)) (sym equal)
        ])

    below : (q : ℕ) → list_any (eqb q) (map (λ t. rank c clauses (t / 2)) xs) ≡ true → q < clauses_with c clauses
    below q found =
        let ranks = map (λ t. rank c clauses (t / 2)) xs in
        let known : All (λ v. v < clauses_with c clauses) ranks = λ k d h.
        let low : k < length xs = omega (arith, h, length-map xs (λ t. rank c clauses (t / 2))) in
        omega (arith, at k d low, rank_low c clauses (watch_at xs k / 2) (have k low).0 (have k low).1) in
        All-contains (λ v. v < clauses_with c clauses) ranks q known (Contains-from_any (λ x y same. eqb-true x y same) q ranks found)

-- ---- so a list has room for a watch of a clause of which it has none

pub room_for : (clauses : List (List SatLit)) (ws : List SatLit) (lists : List Listed) (c s : ℕ) → AreListed ws lists → AreOfClauses clauses ws → HaveRoom clauses lists → c < length lists → s / 2 < length clauses → is_true (clause_at clauses (s / 2)) (numbered c) ≡ true → (IsIn s (list_of lists c) → ⊥) → (IsIn (partner s) (list_of lists c) → ⊥) → 0 < (list_at lists c).room
room_for clauses ws lists c s is of have low there holds out other_out =
    let few = counted c clauses (list_of lists c ++ s ∷ []) differ each in
    omega (arith, few, have.room c low, length-append (list_of lists c) (s ∷ []))
  where
    old_at : (k : ℕ) → k < length (list_of lists c) → watch_at (list_of lists c ++ s ∷ []) k ≡ watch_at (list_of lists c) k
    old_at k within = get_or_append_left (list_of lists c) (s ∷ []) 0 k within

    last_at : (k : ℕ) → k ≡ length (list_of lists c) → watch_at (list_of lists c ++ s ∷ []) k ≡ s
    last_at k last = get_or_at (list_of lists c) s [] 0 k (sym last)

    in_list : (k : ℕ) → k < length (list_of lists c) → IsIn (watch_at (list_of lists c) k) (list_of lists c)
    in_list k within = (k, record { within = within; is = refl })

    owned : (k : ℕ) → k < length (list_of lists c) → IsOwn ws c (watch_at (list_of lists c) k)
    owned k within = is.own c (watch_at (list_of lists c) k) low (in_list k within)

    other_half : (t u : ℕ) → t / 2 ≡ u / 2 → t ≢ u → t ≡ partner u
    other_half t u half other = omega (arith, half, other)

    differ : (j k : ℕ) → j < k → k < length (list_of lists c ++ s ∷ []) → watch_at (list_of lists c ++ s ∷ []) j / 2 ≢ watch_at (list_of lists c ++ s ∷ []) k / 2
    differ j k order within half =
        let xs = list_of lists c in
        elim (cases_lt k (length xs)) [
          | inl old ↦
              let old_j : j < length xs = omega (arith, order, old) in
              let t = watch_at xs j in
              let u = watch_at xs k in
              let halves : t / 2 ≡ u / 2 = ap (λ n. n / 2) (sym (old_at j old_j)) ∙ (half ∙ ap (λ n. n / 2) (old_at k old)) in
              elim (cases_eq t u) [
                | inl same ↦ omega (arith, order, is.once c low j k old_j old same)
                | inr other ↦ (owned k old).attached ((owned k old).is ∙ (sym (owned j old_j).is ∙ ap (λ n. (literal_at ws n).0) (other_half t u halves other)))
              ]
          | inr late ↦
              let last : k ≡ length xs = omega (arith, late, within, length-append xs (s ∷ [])) in
              let old_j : j < length xs = omega (arith, order, last) in
              let t = watch_at xs j in
              let halves : t / 2 ≡ s / 2 = ap (λ n. n / 2) (sym (old_at j old_j)) ∙ (half ∙ ap (λ n. n / 2) (last_at k last)) in
              elim (cases_eq t s) [
                | inl same ↦ out (subst (λ n. IsIn n xs) same (in_list j old_j))
                | inr other ↦ other_out (subst (λ n. IsIn n xs) (other_half t s halves other) (in_list j old_j))
              ]
        ]

    each : (k : ℕ) → k < length (list_of lists c ++ s ∷ []) → (watch_at (list_of lists c ++ s ∷ []) k / 2 < length clauses) × (is_true (clause_at clauses (watch_at (list_of lists c ++ s ∷ []) k / 2)) (numbered c) ≡ true)
    each k within =
        let xs = list_of lists c in
        elim (cases_lt k (length xs)) [
          | inl old ↦
              let own = owned k old in
              let t = watch_at xs k in
              let inside : t / 2 < length clauses = omega (arith, own.within, of.size) in
              let literal : literal_at ws t ≡ numbered c = ap (λ n. numbered n) own.is in
              subst (λ n. (n / 2 < length clauses) × (is_true (clause_at clauses (n / 2)) (numbered c) ≡ true)) (sym (old_at k old)) (inside, ap (is_true (clause_at clauses (t / 2))) (sym literal) ∙ of.of t own.within own.attached)
          | inr late ↦
              let last : k ≡ length xs = omega (arith, late, within, length-append xs (s ∷ [])) in
              subst (λ n. (n / 2 < length clauses) × (is_true (clause_at clauses (n / 2)) (numbered c) ≡ true)) (sym (last_at k last)) (there, holds)
        ]

-- ---- what keeps it

pub moved_room : (clauses : List (List SatLit)) (lists : List Listed) (f c p s : ℕ) → HaveRoom clauses lists → f < length lists → p < length (list_of lists f) → c < length lists → c ≢ f → 0 < (list_at lists c).room → HaveRoom clauses (put_in c s (taken_from f p lists))
moved_room clauses lists f c p s have low there low_c apart some = record {
  room = λ d inside.
      let mid : c < length (taken_from f p lists) = omega (arith, low_c, taken_size lists f p) in
      let same = taken_other_list lists f p c apart in
      let put = put_room (taken_from f p lists) c s d mid (omega (arith, some, ap (λ (x : Listed). x.room) same)) in
      omega (arith, have.room d (omega (arith, inside, put_size (taken_from f p lists) c s, taken_size lists f p)), put, taken_room lists f p d low there);
}

pub put_twice_room : (clauses : List (List SatLit)) (lists : List Listed) (a b s t : ℕ) → HaveRoom clauses lists → a < length lists → b < length lists → 0 < (list_at lists a).room → 0 < (list_at (put_in a s lists) b).room → HaveRoom clauses (put_in b t (put_in a s lists))
put_twice_room clauses lists a b s t have low_a low_b some_a some_b = record {
  room = λ d inside.
      let first = put_room lists a s d low_a some_a in
      let second = put_room (put_in a s lists) b t d (omega (arith, low_b, put_size lists a s)) some_b in
      omega (arith, have.room d (omega (arith, inside, put_size (put_in a s lists) b t, put_size lists a s)), first, second);
}

-- ---- room for a clause more

abbrev one_if : Bool → ℕ
one_if b = cond b 1 0

-- room for one literal more
pub roomier_more : (old now : List Listed) (clause : List SatLit) (count : ℕ) (l : SatLit) → slice_index_or clause count (numbered 0) ≡ l → l.0 < length now → IsRoomier old now clause count → IsRoomier old (slice_set now l.0 (record (list_at now l.0) { room = (list_at now l.0).room + 1 })) clause (count + 1)
roomier_more old now clause count l at low is = record {
  size = length-set now l.0 (record (list_at now l.0) { room = (list_at now l.0).room + 1 }) ∙ is.size;
  same = λ c. elim (cases_eq c l.0) [
    | inl mine ↦ ap (λ k. list_of (slice_set now l.0 (record (list_at now l.0) { room = (list_at now l.0).room + 1 })) k) mine ∙ (ap (λ (x : Listed). x.watches) (here l.0 low) ∙ (ap (list_of now) (sym mine) ∙ is.same c))
    | inr other ↦ ap (λ (x : Listed). x.watches) (there c other) ∙ is.same c
  ];
  no_less = λ c. omega (arith, is.no_less c, grown c);
  more = λ k h. elim (cases_eq k count) [
    | inl last ↦
        let number : (slice_index_or clause k (numbered 0)).0 ≡ l.0 = ap (λ n. (slice_index_or clause n (numbered 0)).0) last ∙ ap (λ (x : SatLit). x.0) at in
        let put = ap (λ n. (list_at (slice_set now l.0 (record (list_at now l.0) { room = (list_at now l.0).room + 1 })) n).room) number ∙ ap (λ (x : Listed). x.room) (here l.0 low) in
        omega (arith, put, is.no_less l.0, ap (λ n. (list_at old n).room) number)
    | inr before ↦ omega (arith, is.more k (omega (arith, h, before)), grown (slice_index_or clause k (numbered 0)).0)
  ];
}
  where
    here : (c : ℕ) → c < length now → list_at (slice_set now c (record (list_at now c) { room = (list_at now c).room + 1 })) c ≡ record (list_at now c) { room = (list_at now c).room + 1 }
    here c low = get_or-set_same now c (record (list_at now c) { room = (list_at now c).room + 1 }) none_listed low

    there : (c : ℕ) → c ≢ l.0 → list_at (slice_set now l.0 (record (list_at now l.0) { room = (list_at now l.0).room + 1 })) c ≡ list_at now c
    there c other = get_or-set_other now l.0 c (record (list_at now l.0) { room = (list_at now l.0).room + 1 }) none_listed other

    grown : (c : ℕ) → (list_at now c).room ≤ (list_at (slice_set now l.0 (record (list_at now l.0) { room = (list_at now l.0).room + 1 })) c).room
    grown c = elim (cases_eq c l.0) [
      | inl mine ↦
          let put = ap (λ n. (list_at (slice_set now l.0 (record (list_at now l.0) { room = (list_at now l.0).room + 1 })) n).room) mine ∙ ap (λ (x : Listed). x.room) (here l.0 low) in
          omega (arith, put, ap (λ n. (list_at now n).room) mine)
      | inr other ↦ omega (arith, ap (λ (x : Listed). x.room) (there c other))
    ]

pub room_more : (clauses : List (List SatLit)) (old new : List Listed) (clause : List SatLit) → HaveRoom clauses old → IsRoomier old new clause (length clause) → HaveRoom (clauses ++ clause ∷ []) new
room_more clauses old new clause have is = record {
  room = λ c low.
      let counted_more = sum_by_push (λ (x : List SatLit). cond (is_true x (numbered c)) 1 0) clauses clause in
      let before = have.room c (omega (arith, low, is.size)) in
      elim (cases_Bool (is_true clause (numbered c))) [
        | inl holds ↦
            let found = Contains-from_any same_literal (numbered c) clause holds in
            let number : (slice_index_or clause found.0 (numbered 0)).0 ≡ c = ap (λ (x : SatLit). x.0) (get_or_default clause found.0 (numbered 0) (numbered c) found.1 ∙ found.2) in
            let more = is.more found.0 found.1 in
            omega (arith, counted_more, before, ap one_if holds, more, ap (λ n. (list_at old n).room) number, ap (λ n. (list_at new n).room) number, ap length (is.same c))
        | inr none ↦ omega (arith, counted_more, before, ap one_if none, is.no_less c, ap length (is.same c))
      ];
}

pub room_kept : (clauses : List (List SatLit)) (old new : List Listed) (clause : List SatLit) (count : ℕ) → HaveRoom clauses old → IsRoomier old new clause count → HaveRoom clauses new
room_kept clauses old new clause count have is = record {
  room = λ c low. omega (arith, have.room c (omega (arith, low, is.size)), is.no_less c, ap length (is.same c));
}
