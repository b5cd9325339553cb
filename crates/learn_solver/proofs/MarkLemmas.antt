-- Marks of variables, and how many marked literals are of the present level.
use Rattle.std.proofs.Common.{◌≡◌, ◌≢◌, ℕ, zero, suc, ◌+◌, ◌<◌, ◌≤◌, ◌==◌, ◌&&◌, cond, Bool, true, false, List, [], ◌∷◌, length, take, count_by, slice_index_or, slice_set, refl, sym, ◌∙◌, ap, subst, inl, inr, arith}
use Rattle.std.proofs.lemmas.Bool.{cases_eq, cases_Bool}
use Rattle.std.proofs.lemmas.List.{get_or_default, get_or-set_same, get_or-set_other, get_or-take, length-take, length-set}
use Rattle.std.proofs.lemmas.List.Elements.{All-from_get_or}
use Rattle.std.proofs.lemmas.List.Sums.{get_or-le-sum_by, sum_by-cons, sum_by-le}
use Rattle.circuits.specs.Literals.{bit}
use Rattle.cnf_core.specs.declared.literal.SatLit.{SatLit}
use Rattle.cnf_core.specs.Clauses.{variable_of}
use Rattle.trail_core.specs.declared.assigned.Assigned.{Assigned}
use Rattle.trail_core.specs.Trails.{IsPlace, IsTrail, Trailing, entry_at, nothing}
use Rattle.trail_core.proofs.TrailLemmas.{same_place}
use Rattle.learn_solver.specs.Analyses.{AreBefore, AreOnTrail, HasPlace, StayFrom, StayMarked, here_in}

-- the variables of the first n literals were marked
pub record IsMarking (trail : Trailing) (old now : List Bool) (clause : List SatLit) (count here : ℕ) : Type 0 where
  pub size : length now ≡ length old
  pub stay : StayMarked old now
  pub marked : (k : ℕ) (d : SatLit) → k < count → bit now (variable_of (slice_index_or clause k d)) ≡ true
  pub on_trail : AreOnTrail trail.entries old → AreOnTrail trail.entries now
  pub later : (place : ℕ) → AreBefore trail.entries place clause → StayFrom trail.entries place old now
  pub few : here ≤ count
  pub counted : (place : ℕ) → AreBefore trail.entries place clause → here_in trail now place ≡ here_in trail old place + here

abbrev pub one_if : Bool → ℕ
one_if t = cond t 1 0

-- one element more that passes
count_cons : {X : Type 0} (f : X → Bool) (x : X) (xs : List X) → count_by f (x ∷ xs) ≡ cond (f x) 1 0 + count_by f xs
count_cons f x xs = sum_by-cons (λ y. cond (f y) 1 0) x xs

pub same_count : {X : Type 0} (f g : X → Bool) (xs : List X) (d : X) → ((k : ℕ) → k < length xs → g (slice_index_or xs k d) ≡ f (slice_index_or xs k d)) → count_by g xs ≡ count_by f xs
same_count f g [] d same = refl
same_count f g (x ∷ xs) d same =
    omega (arith, count_cons f x xs, count_cons g x xs, ap (λ t. one_if t) (same 0 (omega arith)), same_count f g xs d (λ k h. same (suc k) (omega (arith, h))))

pub one_more_counted : {X : Type 0} (f g : X → Bool) (xs : List X) (j : ℕ) (d : X) → j < length xs → f (slice_index_or xs j d) ≡ false → ((k : ℕ) → k < length xs → k ≢ j → g (slice_index_or xs k d) ≡ f (slice_index_or xs k d)) → count_by g xs ≡ count_by f xs + cond (g (slice_index_or xs j d)) 1 0
one_more_counted f g [] j d within fails same = absurd (omega (arith, within))
one_more_counted f g (x ∷ xs) zero d within fails same =
    omega (arith, count_cons f x xs, count_cons g x xs, ap (λ t. one_if t) fails, same_count f g xs d (λ k h. same (suc k) (omega (arith, h)) (omega arith)))
one_more_counted f g (x ∷ xs) (suc j) d within fails same =
    omega (arith, count_cons f x xs, count_cons g x xs, ap (λ t. one_if t) (same 0 (omega arith) (omega arith)), one_more_counted f g xs j d (omega (arith, within)) fails (λ k h ne. same (suc k) (omega (arith, h)) (λ e. ne (omega (arith, e)))))

-- an element that passes is counted
pub counts_one : {X : Type 0} (f : X → Bool) (xs : List X) (j : ℕ) (d : X) → j < length xs → f (slice_index_or xs j d) ≡ true → 0 < count_by f xs
counts_one f xs j d within passes = omega (arith, get_or-le-sum_by (λ x. one_if (f x)) xs j d within, ap (λ t. one_if t) passes)

pub counts_two : {X : Type 0} (f : X → Bool) (xs : List X) (i j : ℕ) (d : X) → i < j → j < length xs → f (slice_index_or xs i d) ≡ true → f (slice_index_or xs j d) ≡ true → 1 < count_by f xs
counts_two f [] i j d order within first second = absurd (omega (arith, within))
counts_two f (x ∷ xs) i zero d order within first second = absurd (omega (arith, order))
counts_two f (x ∷ xs) zero (suc j) d order within first second = omega (arith, count_cons f x xs, ap (λ t. one_if t) first, counts_one f xs j d (omega (arith, within)) second)
counts_two f (x ∷ xs) (suc i) (suc j) d order within first second = omega (arith, count_cons f x xs, counts_two f xs i j d (omega (arith, order)) (omega (arith, within)) first second)

-- where something is counted, an element passes
pub passes_somewhere : {X : Type 0} (f : X → Bool) (xs : List X) (d : X) → 0 < count_by f xs → (k : ℕ) × (k < length xs) × (f (slice_index_or xs k d) ≡ true)
passes_somewhere f [] d some = absurd (omega (arith, some))
passes_somewhere f (x ∷ xs) d some =
    elim (cases_Bool (f x)) [
      | inl passes ↦ (0, omega arith, passes)
      | inr fails ↦
          let rest = passes_somewhere f xs d (omega (arith, some, count_cons f x xs, ap (λ t. one_if t) fails)) in
          (suc rest.0, omega (arith, rest.1), rest.2)
    ]

pub none_pass : {X : Type 0} (f : X → Bool) (xs : List X) (d : X) → ((k : ℕ) → k < length xs → f (slice_index_or xs k d) ≡ false) → count_by f xs ≡ 0
none_pass f xs d none =
    omega (arith, sum_by-le (λ x. one_if (f x)) 0 xs (All-from_get_or (λ x. one_if (f x) ≤ 0) xs d (λ k h. omega (arith, ap (λ t. one_if t) (none k h)))))

-- a literal whose variable was marked before
pub marking_old : (t : Trailing) (old now : List Bool) (clause : List SatLit) (k here : ℕ) (d : SatLit) → IsMarking t old now clause k here → k < length clause → bit now (variable_of (slice_index_or clause k d)) ≡ true → IsMarking t old now clause (k + 1) here
marking_old t old now clause k here d is within marked = record {
  size = is.size;
  stay = is.stay;
  marked = λ j e h. elim (cases_eq j k) [
    | inl same ↦ ap (λ n. bit now (variable_of (slice_index_or clause n e))) same ∙ (ap (λ (l : SatLit). bit now (variable_of l)) (get_or_default clause k e d within) ∙ marked)
    | inr other ↦ is.marked j e (omega (arith, h, other))
  ];
  on_trail = is.on_trail;
  later = is.later;
  few = omega (arith, is.few);
  counted = is.counted;
}

pub one_at_most : (t : Bool) → one_if t ≤ 1
one_at_most true = omega arith
one_at_most false = omega arith

pub apart : (t : Trailing) → IsTrail t → (i j : ℕ) → i < length t.entries → j < length t.entries → i ≢ j → variable_of (entry_at t.entries i).literal ≢ variable_of (entry_at t.entries j).literal
apart t trail i j hi hj ne same = ne (same_place t trail i j hi hj same)

-- one mark more counts where its literal is of the present level
counted_more : (t : Trailing) → IsTrail t → (now : List Bool) (v more place : ℕ) → v < length now → bit now v ≡ false → HasPlace t.entries place v → ((q : ℕ) → IsPlace t.entries v q → more ≡ cond ((entry_at t.entries q).level == t.level) 1 0) → here_in t (slice_set now v true) place ≡ here_in t now place + more
counted_more t trail now v more place known fresh p present =
    let es = t.entries in
    let f : Assigned → Bool = λ e. bit now (variable_of e.literal) && (e.level == t.level) in
    let g : Assigned → Bool = λ e. bit (slice_set now v true) (variable_of e.literal) && (e.level == t.level) in
    let at = get_or-take place es p.at nothing p.early in
    let inside : p.at < length (take place es) = omega (arith, length-take place es, p.early, p.within) in
    let fails = ap f at ∙ (ap (λ w. bit now w && ((entry_at es p.at).level == t.level)) p.there ∙ ap (λ b. b && ((entry_at es p.at).level == t.level)) fresh) in
    let passes = ap g at ∙ (ap (λ w. bit (slice_set now v true) w && ((entry_at es p.at).level == t.level)) p.there ∙ ap (λ b. b && ((entry_at es p.at).level == t.level)) (get_or-set_same now v true false known)) in
    let same : (j : ℕ) → j < length (take place es) → j ≢ p.at → g (slice_index_or (take place es) j nothing) ≡ f (slice_index_or (take place es) j nothing) =
    λ j h ne.
    let first : j < place = omega (arith, length-take place es, h) in
    let there = get_or-take place es j nothing first in
    let other : variable_of (entry_at es j).literal ≢ v = λ e. apart t trail j p.at (omega (arith, length-take place es, h)) p.within ne (e ∙ sym p.there) in
    ap g there ∙ (ap (λ b. b && ((entry_at es j).level == t.level)) (get_or-set_other now v (variable_of (entry_at es j).literal) true false other) ∙ sym (ap f there)) in
    one_more_counted f g (take place es) p.at nothing inside fails same ∙ ap (λ n. count_by f (take place es) + n) (ap (λ b. one_if b) passes ∙ sym (present p.at (record { within = p.within; there = p.there })))

-- what is marked stays so with one variable more, and so does what isn't with one less
pub still : (now : List Bool) (v w : ℕ) (mark : Bool) → v < length now → bit now w ≡ mark → bit (slice_set now v mark) w ≡ mark
still now v w mark known was = elim (cases_eq w v) [
  | inl same ↦ ap (bit (slice_set now v mark)) same ∙ get_or-set_same now v mark false known
  | inr other ↦ get_or-set_other now v w mark false other ∙ was
]

-- a mark more, of a variable whose literal is on the trail
mark_on_trail : (es : List Assigned) (now : List Bool) (v : ℕ) → AreOnTrail es now → HasPlace es (length es) v → AreOnTrail es (slice_set now v true)
mark_on_trail es now v before there w was = elim (cases_eq w v) [
  | inl same ↦ subst (λ u. HasPlace es (length es) u) (sym same) there
  | inr other ↦ before w (sym (get_or-set_other now v w true false other) ∙ was)
]

-- a literal whose variable is marked now
pub marking_new : (t : Trailing) → IsTrail t → (old now : List Bool) (clause : List SatLit) (k here more v : ℕ) (d : SatLit) → IsMarking t old now clause k here → k < length clause → variable_of (slice_index_or clause k d) ≡ v → v < length now → bit now v ≡ false → AreBefore t.entries (length t.entries) clause → ((place : ℕ) → IsPlace t.entries v place → more ≡ cond ((entry_at t.entries place).level == t.level) 1 0) → IsMarking t old (slice_set now v true) clause (k + 1) (here + more)
marking_new t trail old now clause k here more v d is within at_k known fresh places present = record {
  size = length-set now v true ∙ is.size;
  stay = λ w was. still now v w true known (is.stay w was);
  marked = λ j e h. elim (cases_eq j k) [
    | inl same ↦ ap (λ n. bit (slice_set now v true) (variable_of (slice_index_or clause n e))) same ∙ (ap (λ (l : SatLit). bit (slice_set now v true) (variable_of l)) (get_or_default clause k e d within) ∙ (ap (bit (slice_set now v true)) at_k ∙ get_or-set_same now v true false known))
    | inr other ↦ still now v (variable_of (slice_index_or clause j e)) true known (is.marked j e (omega (arith, h, other)))
  ];
  on_trail = λ before w was.
      let p = places k d within in
      let there : HasPlace t.entries (length t.entries) v = record { at = p.at; early = p.early; within = p.within; there = p.there ∙ at_k } in
      mark_on_trail t.entries now v (is.on_trail before) there w was;
  later = λ place before j late inside.
      let p = before k d within in
      let other : variable_of (entry_at t.entries j).literal ≢ v = λ e. apart t trail j p.at inside p.within (λ same. omega (arith, same, late, p.early)) (e ∙ sym (p.there ∙ at_k)) in
      get_or-set_other now v (variable_of (entry_at t.entries j).literal) true false other ∙ is.later place before j late inside;
  few =
      let p = places k d within in
      omega (arith, is.few, present p.at (record { within = p.within; there = p.there ∙ at_k }), one_at_most ((entry_at t.entries p.at).level == t.level));
  counted = λ place before.
      let p = before k d within in
      let here_is : HasPlace t.entries place v = record { at = p.at; early = p.early; within = p.within; there = p.there ∙ at_k } in
      omega (arith, is.counted place before, counted_more t trail now v more place known fresh here_is present);
}
