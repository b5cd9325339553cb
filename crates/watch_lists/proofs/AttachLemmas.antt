-- Clauses that are added and attached.
use Rattle.std.proofs.Common.{◌≡◌, ℕ, ◌+◌, ◌*◌, ◌/◌, ◌%◌, ◌^◌, ◌<◌, ◌≤◌, true, false, List, [], ◌∷◌, ◌++◌, length, Some, inl, inr, sym, ◌∙◌, ap, subst, arith}
use Rattle.std.proofs.lemmas.Bool.{cases_eq, cases_lt, false≢true}
use Rattle.std.proofs.lemmas.List.{get_or_append_left, get_or_at, get_or-append-add, length-append}
use Rattle.std.proofs.lemmas.List.Elements.{All-push}
use Rattle.cnf_core.specs.declared.literal.SatLit.{SatLit}
use Rattle.cnf_core.specs.Clauses.{clause_at, opposite, variable_of, AreKnown}
use Rattle.cnf_core.specs.Derivations.{is_empty, is_true}
use Rattle.trail_core.specs.declared.assigned.Assigned.{Assigned}
use Rattle.trail_core.specs.Trails.{Trailing, entry_at}
use Rattle.watch_lists.specs.Attachments.{ArePair, IsSettled}
use Rattle.watch_lists.specs.Propagations.{AreImplied, IsGrown}
use Rattle.watch_lists.specs.Lists.{AreListed, ArePut, HaveRoom, IsAttached, IsIn, IsOnce, IsRoomier, Listed, list_at, list_of, literal_at, numbered, partner, put_in}
use Rattle.watch_lists.specs.Watched.{AreKept, Fits, IsTrueBy, IsPresent, IsRewatched, Watching, unattached_watch, with_clause}
use Rattle.watch_lists.proofs.EffectLemmas.{known_at}
use Rattle.watch_lists.proofs.KeepLemmas.{fits_assigned}
use Rattle.watch_lists.proofs.GrowLemmas.{grown_none, grown_one, implied_none, implied_one, present_more}
use Rattle.watch_lists.proofs.ListLemmas.{attached_partner, both_listed, partner_twice, partner_within, put_after, put_before, put_other, put_other_room, put_size}
use Rattle.watch_lists.proofs.RoomLemmas.{put_twice_room, room_for, room_kept, room_more}

-- ---- one clause more

-- the two new watches, of which each is the other's partner
added_at : (ws : List SatLit) (w : SatLit) → (t : ℕ) → length ws ≤ t → t < length ws + 2 → literal_at (ws ++ w ∷ w ∷ []) t ≡ w
added_at ws w t late within = elim (cases_eq t (length ws)) [
  | inl here ↦ get_or_at ws w (w ∷ []) (numbered 0) t (sym here)
  | inr other ↦
      let is : length ws + 1 ≡ t = omega (arith, late, within, other) in
      ap (literal_at (ws ++ w ∷ w ∷ [])) (sym is) ∙ get_or-append-add ws (w ∷ w ∷ []) 1 (numbered 0)
]

old_at : (ws more : List SatLit) (t : ℕ) → t < length ws → literal_at (ws ++ more) t ≡ literal_at ws t
old_at ws more t within = get_or_append_left ws more (numbered 0) t within

pub attached_added : (ws : List SatLit) (w : SatLit) → length ws % 2 ≡ 0 → (t : ℕ) → t < length ws + 2 → IsAttached (ws ++ w ∷ w ∷ []) t → (t < length ws) × IsAttached ws t
attached_added ws w even t within attached = elim (cases_lt t (length ws)) [
  | inl old ↦ (old, λ e. attached (ap (λ (x : SatLit). x.0) (old_at ws (w ∷ w ∷ []) t old) ∙ (e ∙ sym (ap (λ (x : SatLit). x.0) (old_at ws (w ∷ w ∷ []) (partner t) (partner_within ws t even old))))))
  | inr late ↦
      let own = added_at ws w t late within in
      let other = added_at ws w (partner t) (omega (arith, late, even)) (omega (arith, within, even)) in
      absurd (attached (ap (λ (x : SatLit). x.0) own ∙ sym (ap (λ (x : SatLit). x.0) other)))
]

pub attached_longer : (ws : List SatLit) (w : SatLit) → length ws % 2 ≡ 0 → (t : ℕ) → t < length ws → IsAttached ws t → IsAttached (ws ++ w ∷ w ∷ []) t
attached_longer ws w even t old attached e =
    attached (sym (ap (λ (x : SatLit). x.0) (old_at ws (w ∷ w ∷ []) t old)) ∙ (e ∙ ap (λ (x : SatLit). x.0) (old_at ws (w ∷ w ∷ []) (partner t) (partner_within ws t even old))))

first_known : (n : ℕ) (clause : List SatLit) → AreKnown n clause → is_empty clause ≡ false → variable_of (unattached_watch clause) < n
first_known n [] known e = absurd (false≢true (sym e))
first_known n (l ∷ clause) known e = known 0 l (omega arith)

pub kept_added : (variables : ℕ) (clauses put : List (List SatLit)) (ws new : List SatLit) (lists roomier : List Listed) (clause : List SatLit) → AreKept variables clauses ws lists → AreKnown variables clause → is_empty clause ≡ false → put ≡ clauses ++ clause ∷ [] → new ≡ ws ++ unattached_watch clause ∷ unattached_watch clause ∷ [] → length new < 2 ^ 64 → IsRoomier lists roomier clause (length clause) → AreKept variables put new roomier
kept_added variables clauses put ws new lists roomier clause is known filled put_is new_is few more =
    subst (λ cs. AreKept variables cs new roomier) (sym put_is) (subst (λ xs. AreKept variables (clauses ++ clause ∷ []) xs roomier) (sym new_is) (record {
      lists_are = more.size ∙ is.lists_are;
      known = All-push (AreKnown variables) clauses clause is.known known;
      of_clauses = record {
        size = omega (arith, size, is.of_clauses.size, length-append clauses (clause ∷ []));
        of = λ s within attached.
            let old = attached_added ws w even s (omega (arith, within, size)) attached in
            let there : s / 2 < length clauses = omega (arith, old.0, is.of_clauses.size) in
            ap (λ c. is_true c (literal_at (ws ++ w ∷ w ∷ []) s)) (get_or_append_left clauses (clause ∷ []) [] (s / 2) there) ∙ (ap (is_true (clause_at clauses (s / 2))) (old_at ws (w ∷ w ∷ []) s old.0) ∙ is.of_clauses.of s old.0 old.1);
      };
      listed = record {
        even = omega (arith, even, size);
        few = omega (arith, few, ap length new_is);
        known = λ s within. elim (cases_lt s (length ws)) [
          | inl old ↦ omega (arith, ap (λ (x : SatLit). x.0) (old_at ws (w ∷ w ∷ []) s old), is.listed.known s old, more.size)
          | inr late ↦ omega (arith, ap (λ (x : SatLit). x.0) (added_at ws w s late (omega (arith, within, size))), first_known variables clause known filled, is.lists_are, more.size)
        ];
        own = λ c s low found.
            let old = is.listed.own c s (omega (arith, low, more.size)) (subst (IsIn s) (more.same c) found) in
            record {
              within = omega (arith, old.within, size);
              is = ap (λ (x : SatLit). x.0) (old_at ws (w ∷ w ∷ []) s old.within) ∙ old.is;
              attached = attached_longer ws w even s old.within old.attached;
            };
        once = λ c low. subst IsOnce (sym (more.same c)) (is.listed.once c (omega (arith, low, more.size)));
        all = λ s within attached.
            let old = attached_added ws w even s (omega (arith, within, size)) attached in
            let at : (literal_at (ws ++ w ∷ w ∷ []) s).0 ≡ (literal_at ws s).0 = ap (λ (x : SatLit). x.0) (old_at ws (w ∷ w ∷ []) s old.0) in
            subst (λ c. IsIn s (list_of roomier c)) (sym at) (subst (IsIn s) (sym (more.same (literal_at ws s).0)) (is.listed.all s old.0 old.1));
      };
      room = room_more clauses lists roomier clause is.room more;
    }))
  where
    w : SatLit
    w = unattached_watch clause

    even : length ws % 2 ≡ 0
    even = is.listed.even

    size : length (ws ++ w ∷ w ∷ []) ≡ length ws + 2
    size = length-append ws (w ∷ w ∷ [])

-- where there is only more room all is as it was
pub kept_roomier : (variables : ℕ) (clauses : List (List SatLit)) (ws : List SatLit) (lists roomier : List Listed) (clause : List SatLit) (count : ℕ) → AreKept variables clauses ws lists → IsRoomier lists roomier clause count → AreKept variables clauses ws roomier
kept_roomier variables clauses ws lists roomier clause count is more = record {
  lists_are = more.size ∙ is.lists_are;
  known = is.known;
  of_clauses = is.of_clauses;
  listed = record {
    even = is.listed.even;
    few = is.listed.few;
    known = λ s within. omega (arith, is.listed.known s within, more.size);
    own = λ c s low found. is.listed.own c s (omega (arith, low, more.size)) (subst (IsIn s) (more.same c) found);
    once = λ c low. subst IsOnce (sym (more.same c)) (is.listed.once c (omega (arith, low, more.size)));
    all = λ s within attached. subst (IsIn s) (sym (more.same (literal_at ws s).0)) (is.listed.all s within attached);
  };
  room = room_kept clauses lists roomier clause count is.room more;
}

-- ---- a clause is attached

-- a literal of a clause has a list
pub has_list : (variables : ℕ) (clauses : List (List SatLit)) (ws : List SatLit) (lists : List Listed) (id : ℕ) (l : SatLit) → AreKept variables clauses ws lists → id < length clauses → is_true (clause_at clauses id) l ≡ true → l.0 < length lists
has_list variables clauses ws lists id l is there holds =
    omega (arith, known_at variables (clause_at clauses id) l (is.known id [] there) holds, is.lists_are)

-- which has room where the clause isn't attached
pub unattached_room : (variables : ℕ) (clauses : List (List SatLit)) (ws : List SatLit) (lists : List Listed) (id s : ℕ) (l : SatLit) → AreKept variables clauses ws lists → id < length clauses → s ≡ 2 * id → (IsAttached ws s → ⊥) → is_true (clause_at clauses id) l ≡ true → 0 < (list_at lists l.0).room
unattached_room variables clauses ws lists id s l is there s_is unattached holds =
    let low = has_list variables clauses ws lists id l is there holds in
    let half : s / 2 ≡ id = omega (arith, s_is) in
    room_for clauses ws lists l.0 s is.listed is.of_clauses is.room low (omega (arith, half, there)) (ap (λ k. is_true (clause_at clauses k) l) half ∙ holds) (λ found. unattached (is.listed.own l.0 s low found).attached) (λ found. unattached (back (is.listed.own l.0 (partner s) low found).attached))
  where
    back : IsAttached ws (partner s) → IsAttached ws s
    back attached = subst (IsAttached ws) (partner_twice s) (attached_partner ws (partner s) attached)

-- the watches that a clause got are its own
pub kept_attached : (variables : ℕ) (clauses : List (List SatLit)) (ws new : List SatLit) (lists new_lists : List Listed) (id s : ℕ) (a b : SatLit) (entries : List Assigned) → AreKept variables clauses ws lists → id < length clauses → s ≡ 2 * id → (IsAttached ws s → ⊥) → ArePut ws new s a b → new_lists ≡ put_in b.0 (s + 1) (put_in a.0 s lists) → ArePair entries (clause_at clauses id) a b → AreKept variables clauses new new_lists
kept_attached variables clauses ws new lists new_lists id s a b entries is there s_is unattached put lists_is pair = record {
  lists_are = ap length lists_is ∙ (put_size (put_in a.0 s lists) b.0 (s + 1) ∙ (put_size lists a.0 s ∙ is.lists_are));
  known = is.known;
  of_clauses = record {
    size = put.size ∙ is.of_clauses.size;
    of = λ t within attached. elim (cases_eq t s) [
      | inl mine ↦ ap (λ k. is_true (clause_at clauses (t / 2)) (literal_at new k)) mine ∙ (ap (is_true (clause_at clauses (t / 2))) put.first_is ∙ (ap (λ k. is_true (clause_at clauses k) a) (omega (arith, mine, s_is)) ∙ pair.first_there))
      | inr not_s ↦ elim (cases_eq t (s + 1)) [
        | inl mine ↦ ap (λ k. is_true (clause_at clauses (t / 2)) (literal_at new k)) mine ∙ (ap (is_true (clause_at clauses (t / 2))) put.second_is ∙ (ap (λ k. is_true (clause_at clauses k) b) (omega (arith, mine, s_is)) ∙ pair.second_there))
        | inr not_next ↦ ap (is_true (clause_at clauses (t / 2))) (put.others t not_s not_next) ∙ is.of_clauses.of t (omega (arith, within, put.size)) (put_before ws new s a b even put t not_s not_next attached)
      ]
    ];
  };
  listed = subst (AreListed new) (sym lists_is) (both_listed ws new lists s a b is.listed put (omega (arith, there, s_is, is.of_clauses.size)) even unattached low_a low_b pair.differ);
  room = subst (HaveRoom clauses) (sym lists_is) (put_twice_room clauses lists a.0 b.0 s (s + 1) is.room low_a low_b first (omega (arith, second, put_other_room lists a.0 s b.0 (λ e. pair.differ (sym e)))));
}
  where
    even : s % 2 ≡ 0
    even = omega (arith, s_is)

    low_a : a.0 < length lists
    low_a = has_list variables clauses ws lists id a is there pair.first_there

    low_b : b.0 < length lists
    low_b = has_list variables clauses ws lists id b is there pair.second_there

    first : 0 < (list_at lists a.0).room
    first = unattached_room variables clauses ws lists id s a is there s_is unattached pair.first_there

    second : 0 < (list_at lists b.0).room
    second = unattached_room variables clauses ws lists id s b is there s_is unattached pair.second_there

-- no other clause is attached or unattached_added by it
pub put_rewatched : (old new : Watching) (id s : ℕ) (a b : SatLit) → s ≡ 2 * id → (IsAttached old.watches s → ⊥) → ArePut old.watches new.watches s a b → new.variables ≡ old.variables → new.clauses ≡ old.clauses → IsRewatched old new
put_rewatched old new id s a b s_is unattached put variables clauses = record {
  variables = variables;
  clauses = clauses;
  attached = λ t within attached. elim (cases_eq (2 * t) s) [
    | inl mine ↦ absurd (unattached (subst (IsAttached old.watches) mine attached))
    | inr other ↦ put_after old.watches new.watches s a b (omega (arith, s_is)) put (2 * t) other (λ e. omega (arith, e, s_is)) attached
  ];
}

-- and fit the trail
pub fits_attached : (old new : Watching) (t : Trailing) (id s : ℕ) (a b : SatLit) → Fits old t → new.variables ≡ old.variables → s ≡ 2 * id → ArePut old.watches new.watches s a b → ArePair t.entries (clause_at old.clauses id) a b → Fits new t
fits_attached old new t id s a b fits variables s_is put pair = record {
  variables = fits.variables ∙ sym variables;
  watched = λ k within attached. elim (cases_eq k s) [
    | inl mine ↦ λ j early inside at.
        let next : partner k ≡ s + 1 = omega (arith, mine, s_is) in
        subst (λ l. IsTrueBy t.entries l (entry_at t.entries j).level) (sym (ap (literal_at new.watches) next ∙ put.second_is)) (pair.first_guarded j inside (at ∙ ap (λ (l : SatLit). (opposite l).0) (ap (literal_at new.watches) mine ∙ put.first_is)))
    | inr not_s ↦ elim (cases_eq k (s + 1)) [
      | inl mine ↦ λ j early inside at.
          let next : partner k ≡ s = omega (arith, mine, s_is) in
          subst (λ l. IsTrueBy t.entries l (entry_at t.entries j).level) (sym (ap (literal_at new.watches) next ∙ put.first_is)) (pair.second_guarded j inside (at ∙ ap (λ (l : SatLit). (opposite l).0) (ap (literal_at new.watches) mine ∙ put.second_is)))
      | inr not_next ↦ λ j early inside at.
          let p = put_other old.watches new.watches s a b (omega (arith, s_is)) put k not_s not_next in
          subst (λ l. IsTrueBy t.entries l (entry_at t.entries j).level) (sym p.1) (fits.watched k (omega (arith, within, put.size)) (put_before old.watches new.watches s a b (omega (arith, s_is)) put k not_s not_next attached) j early inside (at ∙ ap (λ (l : SatLit). (opposite l).0) p.0))
    ]
  ];
}

-- ---- a trail that may have got what a clause leaves

pub settled_implied : (clauses : List (List SatLit)) (old new : Trailing) (id : ℕ) → id < length clauses → IsSettled old new (clause_at clauses id) id → AreImplied clauses old new
settled_implied clauses old new id there (inl same) = implied_none clauses old new same
settled_implied clauses old new id there (inr (l, makes, is)) = implied_one clauses old new l id is (record { there = there; makes = makes })

pub settled_grown : (old new : Trailing) (clause : List SatLit) (id : ℕ) → IsSettled old new clause id → IsGrown old new
settled_grown old new clause id (inl same) = subst (IsGrown old) (sym same) (grown_none old)
settled_grown old new clause id (inr (l, makes, is)) = grown_one old new l (Some id) is

pub settled_present : (old new : Trailing) (clause : List SatLit) (id : ℕ) → IsPresent old → IsSettled old new clause id → IsPresent new
settled_present old new clause id present (inl same) = subst IsPresent (sym same) present
settled_present old new clause id present (inr (l, makes, is)) = present_more old new l (Some id) present is

pub fits_settled : (watching : Watching) (old new : Trailing) (clause : List SatLit) (id : ℕ) → Fits watching old → old.walked ≤ length old.entries → IsSettled old new clause id → Fits watching new
fits_settled watching old new clause id fits few (inl same) = subst (Fits watching) (sym same) fits
fits_settled watching old new clause id fits few (inr (l, makes, is)) =
    subst (Fits watching) (sym is) (fits_assigned watching old l id fits few)

-- watches fit a trail with one clause more, which isn't attached
pub fits_added : (watching : Watching) (clause : List SatLit) (t : Trailing) → length watching.watches % 2 ≡ 0 → Fits watching t → Fits (with_clause clause watching) t
fits_added watching clause t even fits = record {
  variables = fits.variables;
  watched = λ s within attached j early inside at.
      let ws = watching.watches in
      let w = unattached_watch clause in
      let old = attached_added ws w even s (omega (arith, within, length-append ws (w ∷ w ∷ []))) attached in
      let own = old_at ws (w ∷ w ∷ []) s old.0 in
      let other = old_at ws (w ∷ w ∷ []) (partner s) (partner_within ws s even old.0) in
      subst (λ l. IsTrueBy t.entries l (entry_at t.entries j).level) (sym other) (fits.watched s old.0 old.1 j early inside (at ∙ ap (λ (l : SatLit). (opposite l).0) own));
}
