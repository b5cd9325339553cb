-- Watches that fit a trail, while the list of a false literal is walked.
use Rattle.std.proofs.Common.{◌≡◌, ◌≢◌, ℕ, ◌+◌, ◌-◌, ◌*◌, ◌/◌, ◌<◌, ◌≤◌, true, false, List, [], ◌∷◌, ◌++◌, length, All, Some, slice_set, inl, inr, refl, sym, ◌∙◌, ap, subst, arith}
use Rattle.std.proofs.lemmas.Bool.{both_ways, cases_eq, false_from_ne_true}
use Rattle.std.proofs.lemmas.List.{append-nil, get_or_append_left, get_or_at, length-append, length-set}
use Rattle.cnf_core.specs.declared.literal.SatLit.{SatLit}
use Rattle.cnf_core.specs.Clauses.{clause_at, opposite, variable_of, AreKnown}
use Rattle.cnf_core.specs.Derivations.{is_false, is_true}
use Rattle.trail_core.specs.declared.assigned.Assigned.{Assigned}
use Rattle.trail_core.specs.Trails.{IsTrail, Trailing, entry_at, literals, nothing}
use Rattle.trail_core.proofs.TrailLemmas.{place_of_true, same_place, true_at}
use Rattle.watch_lists.specs.WatchStates.{IsOtherNotFalse, IsHalfFalse, IsTarget}
use Rattle.watch_lists.specs.Propagations.{AreImplied}
use Rattle.watch_lists.specs.Lists.{IsAt, IsAttached, IsOwn, IsMove, Listed, list_at, list_of, literal_at, partner, put_in, taken_from, watch_at}
use Rattle.watch_lists.specs.Watched.{IsTrueBy, IsPresent, IsWalking, StayAttached}
use Rattle.watch_lists.proofs.EffectLemmas.{known_at}
use Rattle.watch_lists.proofs.GrowLemmas.{implied_none, implied_one, low_level, present_more}
use Rattle.watch_lists.proofs.ListLemmas.{attached_after, attached_before, attached_itself, attached_partner, literal_new, literal_same, moved_front, moved_listed, partner_twice, partner_within, put_size, taken_size}
use Rattle.watch_lists.proofs.RoomLemmas.{moved_room, room_for}

-- ---- values on a trail

-- no literal is true and false
pub consistent : (t : Trailing) → IsTrail t → (l : SatLit) → is_true (literals t.entries) l ≡ true → is_false (literals t.entries) l ≡ true → ⊥
consistent t trail l holds fails =
    let i = place_of_true t.entries l holds in
    let j = place_of_true t.entries (opposite l) fails in
    let same : variable_of (entry_at t.entries i.0).literal ≡ variable_of (entry_at t.entries j.0).literal = omega (arith, i.2, j.2) in
    omega (arith, i.2, j.2, ap (λ k. (entry_at t.entries k).literal.0) (same_place t trail i.0 j.0 i.1 j.1 same))

pub true_not_false : (t : Trailing) → IsTrail t → (l : SatLit) → is_true (literals t.entries) l ≡ true → is_false (literals t.entries) l ≡ false
true_not_false t trail l holds = false_from_ne_true (is_false (literals t.entries) l) (consistent t trail l holds)

pub true_by_true : (es : List Assigned) (l : SatLit) (level : ℕ) → IsTrueBy es l level → is_true (literals es) l ≡ true
true_by_true es l level true_by = true_at es true_by.at l true_by.within true_by.is

-- a true literal is true by the present level
pub true_by_here : (t : Trailing) → IsTrail t → (l : SatLit) → is_true (literals t.entries) l ≡ true → IsTrueBy t.entries l t.level
true_by_here t trail l holds =
    let j = place_of_true t.entries l holds in
    record { at = j.0; within = j.1; is = j.2; low = low_level t trail j.0 j.1 }

pub true_by_further : (es more : List Assigned) (l : SatLit) (level : ℕ) → IsTrueBy es l level → IsTrueBy (es ++ more) l level
true_by_further es more l level true_by = record {
  at = true_by.at;
  within = omega (arith, true_by.within, length-append es more);
  is = ap (λ (e : Assigned). e.literal.0) (get_or_append_left es more nothing true_by.at true_by.within) ∙ true_by.is;
  low = omega (arith, true_by.low, ap (λ (e : Assigned). e.level) (get_or_append_left es more nothing true_by.at true_by.within));
}

-- ---- the step from one watch to the next

-- the watch that is looked at next: the last one that is left
pub next_at : (clauses : List (List SatLit)) (ws : List SatLit) (lists : List Listed) (t : Trailing) (f : SatLit) (p : ℕ) → IsWalking clauses ws lists t f (p + 1) → IsAt (list_of lists f.0) (watch_at (list_of lists f.0) p) p
next_at clauses ws lists t f p is = record { within = omega (arith, is.few); is = refl }

-- it watches the false literal
pub next_own : (clauses : List (List SatLit)) (ws : List SatLit) (lists : List Listed) (t : Trailing) (f : SatLit) (p : ℕ) → IsWalking clauses ws lists t f (p + 1) → IsOwn ws f.0 (watch_at (list_of lists f.0) p)
next_own clauses ws lists t f p is = is.listed.own f.0 (watch_at (list_of lists f.0) p) is.literal_known (p, next_at clauses ws lists t f p is)

next_literal : (clauses : List (List SatLit)) (ws : List SatLit) (lists : List Listed) (t : Trailing) (f : SatLit) (p : ℕ) → IsWalking clauses ws lists t f (p + 1) → literal_at ws (watch_at (list_of lists f.0) p) ≡ f
next_literal clauses ws lists t f p is = ap (λ n. record { 0 = n }) (next_own clauses ws lists t f p is).is

-- and its partner another one
pub partner_differs : (clauses : List (List SatLit)) (ws : List SatLit) (lists : List Listed) (t : Trailing) (f : SatLit) (p : ℕ) → IsWalking clauses ws lists t f (p + 1) → f.0 ≢ (literal_at ws (partner (watch_at (list_of lists f.0) p))).0
partner_differs clauses ws lists t f p is e =
    let own = next_own clauses ws lists t f p is in
    own.attached (own.is ∙ e)

f_false : (clauses : List (List SatLit)) (ws : List SatLit) (lists : List Listed) (t : Trailing) (f : SatLit) (left : ℕ) → IsWalking clauses ws lists t f left → is_false (literals t.entries) f ≡ true
f_false clauses ws lists t f left is = true_at t.entries t.walked (opposite f) is.there is.falsity

-- a watch that stays, on a trail that may have grown
stayed : (clauses : List (List SatLit)) (ws : List SatLit) (lists : List Listed) (old new : Trailing) (more : List Assigned) (f : SatLit) (p : ℕ) → IsWalking clauses ws lists old f (p + 1) → new ≡ record old { entries = old.entries ++ more } → IsTrail new → IsPresent new → IsTrueBy new.entries (literal_at ws (partner (watch_at (list_of lists f.0) p))) new.level → IsWalking clauses ws lists new f p
stayed clauses ws lists old new more f p is new_is trail present true_by = record {
  lists_are = is.lists_are ∙ ap (λ n. 2 * n) (sym variables);
  known = subst (λ n. All (AreKnown n) clauses) (sym variables) is.known;
  of_clauses = is.of_clauses;
  listed = is.listed;
  room = is.room;
  is_trail = trail;
  present = present;
  there = omega (arith, is.there, walked, size);
  falsity = ap (λ k. (entry_at new.entries k).literal.0) walked ∙ (ap (λ (e : Assigned). e.literal.0) (front old.walked is.there) ∙ is.falsity);
  literal_known = is.literal_known;
  few = omega (arith, is.few);
  watched = λ t within attached j early inside at.
      let early_old : j < old.walked = omega (arith, early, walked) in
      let inside_old : j < length old.entries = omega (arith, early_old, is.there) in
      let same = front j inside_old in
      let old_true_by = is.watched t within attached j early_old inside_old (sym (ap (λ (e : Assigned). e.literal.0) same) ∙ at) in
      subst (λ n. IsTrueBy new.entries (literal_at ws (partner t)) n) (sym (ap (λ (e : Assigned). e.level) same)) (grown (literal_at ws (partner t)) (entry_at old.entries j).level old_true_by);
  seen = λ t within attached mine. elim (is.seen t within attached mine) [
    | inl left ↦ elim (cases_eq left.place p) [
      | inl here ↦
          let this : watch_at (list_of lists f.0) p ≡ t = ap (watch_at (list_of lists f.0)) (sym here) ∙ left.there.is in
          inr (subst (λ k. IsTrueBy new.entries (literal_at ws (partner k)) new.level) this true_by)
      | inr other ↦ inl (record { place = left.place; early = omega (arith, left.early, other); there = left.there })
    ]
    | inr before ↦ inr (subst (λ n. IsTrueBy new.entries (literal_at ws (partner t)) n) (sym level) (grown (literal_at ws (partner t)) old.level before))
  ];
}
  where
    variables : new.variables ≡ old.variables
    variables = ap (λ (x : Trailing). x.variables) new_is

    walked : new.walked ≡ old.walked
    walked = ap (λ (x : Trailing). x.walked) new_is

    level : new.level ≡ old.level
    level = ap (λ (x : Trailing). x.level) new_is

    entries : new.entries ≡ old.entries ++ more
    entries = ap (λ (x : Trailing). x.entries) new_is

    size : length new.entries ≡ length old.entries + length more
    size = ap length entries ∙ length-append old.entries more

    front : (k : ℕ) → k < length old.entries → entry_at new.entries k ≡ entry_at old.entries k
    front k within = ap (λ es. entry_at es k) entries ∙ get_or_append_left old.entries more nothing k within

    grown : (l : SatLit) (n : ℕ) → IsTrueBy old.entries l n → IsTrueBy new.entries l n
    grown l n old_true_by = subst (λ es. IsTrueBy es l n) (sym entries) (true_by_further old.entries more l n old_true_by)

-- the list of another literal of the clause has room
pub moved_to_room : (clauses : List (List SatLit)) (ws : List SatLit) (lists : List Listed) (t : Trailing) (f l : SatLit) (p : ℕ) → IsWalking clauses ws lists t f (p + 1) → l.0 < length lists → l.0 ≢ f.0 → is_true (clause_at clauses (watch_at (list_of lists f.0) p / 2)) l ≡ true → l.0 ≢ (literal_at ws (partner (watch_at (list_of lists f.0) p))).0 → 0 < (list_at lists l.0).room
moved_to_room clauses ws lists t f l p is low apart there differs =
    let s = watch_at (list_of lists f.0) p in
    let own = next_own clauses ws lists t f p is in
    room_for clauses ws lists l.0 s is.listed is.of_clauses is.room low (omega (arith, own.within, is.of_clauses.size)) there (λ found. apart (sym (is.listed.own l.0 s low found).is ∙ own.is)) (λ found. differs (sym (is.listed.own l.0 (partner s) low found).is))

-- a watch that moves to a literal that isn't false
moved : (clauses : List (List SatLit)) (ws : List SatLit) (lists : List Listed) (t : Trailing) (f l : SatLit) (p : ℕ) → IsWalking clauses ws lists t f (p + 1) → l.0 < length lists → l.0 ≢ f.0 → IsOtherNotFalse (literals t.entries) (clause_at clauses (watch_at (list_of lists f.0) p / 2)) (literal_at ws (partner (watch_at (list_of lists f.0) p))) l → IsWalking clauses (slice_set ws (watch_at (list_of lists f.0) p) l) (put_in l.0 (watch_at (list_of lists f.0) p) (taken_from f.0 p lists)) t f p
moved clauses ws lists t f l p is low apart to = record {
  lists_are = lists_size ∙ is.lists_are;
  known = is.known;
  of_clauses = record {
    size = size ∙ is.of_clauses.size;
    of = λ k within attached. elim (cases_eq k (watch_at (list_of lists f.0) p)) [
      | inl mine ↦ ap (is_true (clause_at clauses (k / 2))) (at_mine k mine) ∙ (ap (λ n. is_true (clause_at clauses (n / 2)) l) mine ∙ to.there)
      | inr other ↦ ap (is_true (clause_at clauses (k / 2))) (literal_same ws (watch_at (list_of lists f.0) p) k l other) ∙ is.of_clauses.of k (omega (arith, within, size)) (before k other attached)
    ];
  };
  listed = moved_listed ws lists f l p (watch_at (list_of lists f.0) p) is.listed is.literal_known low at apart to.differs;
  room = moved_room clauses lists f.0 l.0 p (watch_at (list_of lists f.0) p) is.room is.literal_known at.within low apart (moved_to_room clauses ws lists t f l p is low apart to.there to.differs);
  is_trail = is.is_trail;
  present = is.present;
  there = is.there;
  falsity = is.falsity;
  literal_known = omega (arith, is.literal_known, lists_size);
  few = few;
  watched = λ k within attached j early inside at_j. elim (cases_eq k (watch_at (list_of lists f.0) p)) [
    | inl mine ↦ absurd (not_false j inside (at_j ∙ ap (λ (x : SatLit). (opposite x).0) (at_mine k mine)))
    | inr other ↦
        let old_at = at_j ∙ ap (λ (x : SatLit). (opposite x).0) (literal_same ws (watch_at (list_of lists f.0) p) k l other) in
        let true_by = is.watched k (omega (arith, within, size)) (before k other attached) j early inside old_at in
        elim (cases_eq (partner k) (watch_at (list_of lists f.0) p)) [
          | inl is_s ↦ absurd (consistent t is.is_trail f (true_by_true t.entries f (entry_at t.entries j).level (subst (λ x. IsTrueBy t.entries x (entry_at t.entries j).level) (ap (literal_at ws) is_s ∙ next_literal clauses ws lists t f p is) true_by)) (f_false clauses ws lists t f (p + 1) is))
          | inr different ↦ subst (λ x. IsTrueBy t.entries x (entry_at t.entries j).level) (sym (literal_same ws (watch_at (list_of lists f.0) p) (partner k) l different)) true_by
        ]
  ];
  seen = λ k within attached is_f. elim (cases_eq k (watch_at (list_of lists f.0) p)) [
    | inl mine ↦ absurd (apart (ap (λ (x : SatLit). x.0) (sym (at_mine k mine) ∙ is_f)))
    | inr other ↦
        let old_f : literal_at ws k ≡ f = sym (literal_same ws (watch_at (list_of lists f.0) p) k l other) ∙ is_f in
        elim (is.seen k (omega (arith, within, size)) (before k other attached) old_f) [
          | inl left ↦
              let not_p : left.place ≢ p = λ e. other (sym left.there.is ∙ ap (watch_at (list_of lists f.0)) e) in
              let early : left.place < p = omega (arith, left.early, not_p) in
              let front = moved_front lists f.0 l.0 (watch_at (list_of lists f.0) p) p left.place is.literal_known apart at.within early in
              inl (record { place = left.place; early = early; there = record { within = front.0; is = front.1 ∙ left.there.is } })
          | inr true_by ↦ elim (cases_eq (partner k) (watch_at (list_of lists f.0) p)) [
            | inl is_s ↦ absurd (partner_differs clauses ws lists t f p is (ap (λ (x : SatLit). x.0) (sym old_f) ∙ ap (λ n. (literal_at ws n).0) (sym (partner_twice k) ∙ ap partner is_s)))
            | inr different ↦ inr (subst (λ x. IsTrueBy t.entries x t.level) (sym (literal_same ws (watch_at (list_of lists f.0) p) (partner k) l different)) true_by)
          ]
        ]
  ];
}
  where
    at : IsAt (list_of lists f.0) (watch_at (list_of lists f.0) p) p
    at = next_at clauses ws lists t f p is

    own : IsOwn ws f.0 (watch_at (list_of lists f.0) p)
    own = next_own clauses ws lists t f p is

    size : length (slice_set ws (watch_at (list_of lists f.0) p) l) ≡ length ws
    size = length-set ws (watch_at (list_of lists f.0) p) l

    lists_size : length (put_in l.0 (watch_at (list_of lists f.0) p) (taken_from f.0 p lists)) ≡ length lists
    lists_size = put_size (taken_from f.0 p lists) l.0 (watch_at (list_of lists f.0) p) ∙ taken_size lists f.0 p

    few : p ≤ length (list_of (put_in l.0 (watch_at (list_of lists f.0) p) (taken_from f.0 p lists)) f.0)
    few = elim (cases_eq p 0) [
      | inl none ↦ omega (arith, none)
      | inr some ↦ omega (arith, (moved_front lists f.0 l.0 (watch_at (list_of lists f.0) p) p (p - 1) is.literal_known apart at.within (omega (arith, some))).0, some)
    ]

    at_mine : (k : ℕ) → k ≡ watch_at (list_of lists f.0) p → literal_at (slice_set ws (watch_at (list_of lists f.0) p) l) k ≡ l
    at_mine k mine = ap (literal_at (slice_set ws (watch_at (list_of lists f.0) p) l)) mine ∙ literal_new ws (watch_at (list_of lists f.0) p) l own.within

    before : (k : ℕ) → k ≢ watch_at (list_of lists f.0) p → IsAttached (slice_set ws (watch_at (list_of lists f.0) p) l) k → IsAttached ws k
    before k other attached = attached_before ws (watch_at (list_of lists f.0) p) k l own.within other own.attached attached

    not_false : (j : ℕ) → j < length t.entries → (entry_at t.entries j).literal.0 ≡ (opposite l).0 → ⊥
    not_false j inside at_j = both_ways (is_false (literals t.entries) l) to.not_false (true_at t.entries j (opposite l) inside at_j)

-- the literal that a watch moves to isn't the false one
pub goes_apart : (clauses : List (List SatLit)) (ws : List SatLit) (lists : List Listed) (t : Trailing) (f l : SatLit) (left : ℕ) (clause : List SatLit) (other : SatLit) → IsWalking clauses ws lists t f left → IsOtherNotFalse (literals t.entries) clause other l → l.0 ≢ f.0
goes_apart clauses ws lists t f l left clause other is to e =
    let same : l ≡ f = ap (λ n. record { 0 = n }) e in
    both_ways (is_false (literals t.entries) l) to.not_false (ap (is_false (literals t.entries)) same ∙ f_false clauses ws lists t f left is)

-- what a look at a clause comes to
pub looked : (clauses : List (List SatLit)) (ws new_ws : List SatLit) (lists new_lists : List Listed) (old new : Trailing) (f l : SatLit) (p : ℕ) → IsWalking clauses ws lists old f (p + 1) → IsTrail new → IsTarget old new (clause_at clauses (watch_at (list_of lists f.0) p / 2)) (watch_at (list_of lists f.0) p / 2) (literal_at ws (partner (watch_at (list_of lists f.0) p))) f l → IsMove ws new_ws lists new_lists f l p (watch_at (list_of lists f.0) p) → IsWalking clauses new_ws new_lists new f p
looked clauses ws new_ws lists new_lists old new f l p is trail (inl true_by) step =
    let other = literal_at ws (partner (watch_at (list_of lists f.0) p)) in
    let nothing_more : record old { entries = old.entries ++ [] } ≡ old = ap (λ es. record old { entries = es }) (append-nil old.entries) in
    let walking = stayed clauses ws lists old old [] f p is (sym nothing_more) is.is_trail is.present (true_by_here old is.is_trail other true_by.other_true) in
    let stays = step.stays (ap (λ (x : SatLit). x.0) true_by.stays) in
    subst (λ t. IsWalking clauses new_ws new_lists t f p) (sym true_by.same) (subst (λ w. IsWalking clauses w new_lists old f p) (sym stays.0) (subst (λ h. IsWalking clauses ws h old f p) (sym stays.1) walking))
looked clauses ws new_ws lists new_lists old new f l p is trail (inr (inl made)) step =
    let s = watch_at (list_of lists f.0) p in
    let other = literal_at ws (partner s) in
    let e : Assigned = record { literal = other; level = old.level; reason = Some (s / 2) } in
    let entries : new.entries ≡ old.entries ++ e ∷ [] = ap (λ (t : Trailing). t.entries) made.assigned in
    let last : entry_at new.entries (length old.entries) ≡ e = ap (λ es. entry_at es (length old.entries)) entries ∙ get_or_at old.entries e [] nothing (length old.entries) refl in
    let level : new.level ≡ old.level = ap (λ (t : Trailing). t.level) made.assigned in
    let size : length new.entries ≡ length old.entries + 1 = ap length entries ∙ length-append old.entries (e ∷ []) in
    let present = present_more old new other (Some (s / 2)) is.present made.assigned in
    let true_by : IsTrueBy new.entries other new.level = record { at = length old.entries; within = omega (arith, size); is = ap (λ (x : Assigned). x.literal.0) last; low = omega (arith, ap (λ (x : Assigned). x.level) last, level) } in
    let walking = stayed clauses ws lists old new (e ∷ []) f p is made.assigned trail present true_by in
    let stays = step.stays (ap (λ (x : SatLit). x.0) made.stays) in
    subst (λ w. IsWalking clauses w new_lists new f p) (sym stays.0) (subst (λ h. IsWalking clauses ws h new f p) (sym stays.1) walking)
looked clauses ws new_ws lists new_lists old new f l p is trail (inr (inr goes)) step =
    let s = watch_at (list_of lists f.0) p in
    let id = s / 2 in
    let there : id < length clauses = omega (arith, (next_own clauses ws lists old f p is).within, is.of_clauses.size) in
    let known = known_at old.variables (clause_at clauses id) l (is.known id [] there) goes.replacement.there in
    let low : l.0 < length lists = omega (arith, known, is.lists_are) in
    let apart = goes_apart clauses ws lists old f l (p + 1) (clause_at clauses id) (literal_at ws (partner s)) is goes.replacement in
    let walking = moved clauses ws lists old f l p is low apart goes.replacement in
    subst (λ t. IsWalking clauses new_ws new_lists t f p) (sym goes.same) (subst (λ w. IsWalking clauses w new_lists old f p) (sym (step.moves_watch apart)) (subst (λ h. IsWalking clauses (slice_set ws s l) h old f p) (sym (step.moves_list apart)) walking))

-- what it assigns is all that the clause left
pub target_implied : (clauses : List (List SatLit)) (old new : Trailing) (f l other : SatLit) (id : ℕ) → id < length clauses → IsTarget old new (clause_at clauses id) id other f l → AreImplied clauses old new
target_implied clauses old new f l other id there (inl true_by) = implied_none clauses old new true_by.same
target_implied clauses old new f l other id there (inr (inl made)) = implied_one clauses old new other id made.assigned (record { there = there; makes = made.left.makes })
target_implied clauses old new f l other id there (inr (inr goes)) = implied_none clauses old new goes.same

-- the literal to watch is known, and isn't the other one
pub target_known : (clauses : List (List SatLit)) (ws : List SatLit) (lists : List Listed) (old new : Trailing) (f l : SatLit) (p : ℕ) → IsWalking clauses ws lists old f (p + 1) → IsTarget old new (clause_at clauses (watch_at (list_of lists f.0) p / 2)) (watch_at (list_of lists f.0) p / 2) (literal_at ws (partner (watch_at (list_of lists f.0) p))) f l → l.0 < length lists
target_known clauses ws lists old new f l p is (inl true_by) = omega (arith, is.literal_known, ap (λ (x : SatLit). x.0) true_by.stays)
target_known clauses ws lists old new f l p is (inr (inl made)) = omega (arith, is.literal_known, ap (λ (x : SatLit). x.0) made.stays)
target_known clauses ws lists old new f l p is (inr (inr goes)) =
    let s = watch_at (list_of lists f.0) p in
    let there : s / 2 < length clauses = omega (arith, (next_own clauses ws lists old f p is).within, is.of_clauses.size) in
    omega (arith, known_at old.variables (clause_at clauses (s / 2)) l (is.known (s / 2) [] there) goes.replacement.there, is.lists_are)

pub target_differs : (clauses : List (List SatLit)) (ws : List SatLit) (lists : List Listed) (old new : Trailing) (f l : SatLit) (p : ℕ) → IsWalking clauses ws lists old f (p + 1) → IsTarget old new (clause_at clauses (watch_at (list_of lists f.0) p / 2)) (watch_at (list_of lists f.0) p / 2) (literal_at ws (partner (watch_at (list_of lists f.0) p))) f l → l.0 ≢ (literal_at ws (partner (watch_at (list_of lists f.0) p))).0
target_differs clauses ws lists old new f l p is (inl true_by) e = partner_differs clauses ws lists old f p is (ap (λ (x : SatLit). x.0) (sym true_by.stays) ∙ e)
target_differs clauses ws lists old new f l p is (inr (inl made)) e = partner_differs clauses ws lists old f p is (ap (λ (x : SatLit). x.0) (sym made.stays) ∙ e)
target_differs clauses ws lists old new f l p is (inr (inr goes)) e = goes.replacement.differs e

-- and its list has room
pub target_room : (clauses : List (List SatLit)) (ws : List SatLit) (lists : List Listed) (old new : Trailing) (f l : SatLit) (p : ℕ) → IsWalking clauses ws lists old f (p + 1) → IsTarget old new (clause_at clauses (watch_at (list_of lists f.0) p / 2)) (watch_at (list_of lists f.0) p / 2) (literal_at ws (partner (watch_at (list_of lists f.0) p))) f l → l.0 ≢ f.0 → 0 < (list_at lists l.0).room
target_room clauses ws lists old new f l p is (inl true_by) apart = absurd (apart (ap (λ (x : SatLit). x.0) true_by.stays))
target_room clauses ws lists old new f l p is (inr (inl made)) apart = absurd (apart (ap (λ (x : SatLit). x.0) made.stays))
target_room clauses ws lists old new f l p is (inr (inr goes)) apart =
    moved_to_room clauses ws lists old f l p is (target_known clauses ws lists old new f l p is (inr (inr goes))) apart goes.replacement.there goes.replacement.differs

-- what is attached stays so
pub step_attached : (clauses : List (List SatLit)) (ws new_ws : List SatLit) (lists new_lists : List Listed) (old new : Trailing) (f l : SatLit) (p : ℕ) → IsWalking clauses ws lists old f (p + 1) → IsTarget old new (clause_at clauses (watch_at (list_of lists f.0) p / 2)) (watch_at (list_of lists f.0) p / 2) (literal_at ws (partner (watch_at (list_of lists f.0) p))) f l → IsMove ws new_ws lists new_lists f l p (watch_at (list_of lists f.0) p) → StayAttached ws new_ws
step_attached clauses ws new_ws lists new_lists old new f l p is target step = elim (cases_eq l.0 f.0) [
  | inl same ↦ subst (StayAttached ws) (sym (step.stays same).0) (λ s within attached. attached)
  | inr apart ↦
      let s = watch_at (list_of lists f.0) p in
      let own = next_own clauses ws lists old f p is in
      let differ = target_differs clauses ws lists old new f l p is target in
      subst (StayAttached ws) (sym (step.moves_watch apart)) (λ t within attached. elim (cases_eq t s) [
        | inl mine ↦ subst (IsAttached (slice_set ws s l)) (sym mine) (attached_itself ws s l own.within differ)
        | inr other ↦ attached_after ws s t l own.within other differ attached
      ])
]

-- the other watch's literal is in the clause
pub other_there : (clauses : List (List SatLit)) (ws : List SatLit) (lists : List Listed) (t : Trailing) (f : SatLit) (p : ℕ) → IsWalking clauses ws lists t f (p + 1) → is_true (clause_at clauses (watch_at (list_of lists f.0) p / 2)) (literal_at ws (partner (watch_at (list_of lists f.0) p))) ≡ true
other_there clauses ws lists t f p is =
    let s = watch_at (list_of lists f.0) p in
    let own = next_own clauses ws lists t f p is in
    let back : IsAttached ws (partner s) = attached_partner ws s own.attached in
    let half : partner s / 2 ≡ s / 2 = omega arith in
    ap (λ k. is_true (clause_at clauses k) (literal_at ws (partner s))) (sym half) ∙ is.of_clauses.of (partner s) (partner_within ws s is.listed.even own.within) back

-- the clause that is looked at has the other watch's literal, and the false one
pub half_false : (clauses : List (List SatLit)) (ws : List SatLit) (lists : List Listed) (t : Trailing) (f : SatLit) (p : ℕ) → IsWalking clauses ws lists t f (p + 1) → IsHalfFalse (literals t.entries) (clause_at clauses (watch_at (list_of lists f.0) p / 2)) (literal_at ws (partner (watch_at (list_of lists f.0) p)))
half_false clauses ws lists t f p is =
    let s = watch_at (list_of lists f.0) p in
    let own = next_own clauses ws lists t f p is in
    record {
      falsified = f;
      there = ap (is_true (clause_at clauses (s / 2))) (sym (next_literal clauses ws lists t f p is)) ∙ is.of_clauses.of s own.within own.attached;
      fails = f_false clauses ws lists t f (p + 1) is;
      differs = partner_differs clauses ws lists t f p is;
      other_there = other_there clauses ws lists t f p is;
    }
