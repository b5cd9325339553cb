-- What is kept of a list, and at which number it stands then.
use Rattle.std.proofs.Common.{◌≡◌, ℕ, zero, suc, ◌+◌, ◌<◌, ◌≤◌, inl, inr, Bool, true, false, cond, List, [], ◌∷◌, ◌++◌, length, take, drop, set, get_or, All, AllPairs, slice_index_or, refl, sym, ap, subst, ◌∙◌, arith}
use Rattle.std.proofs.lemmas.Bool.{cases_lt, false≢true}
use Rattle.std.specs.List.{swap}
use Rattle.std.proofs.lemmas.List.{append-nil, drop-drop, drop-set-lt, get_or-drop, set-set, take-set-le, take_all, take_more_set}
use Rattle.std.proofs.lemmas.List.Edits.{length-swap, swap_is}
use Rattle.circuits.specs.Literals.{bit}
use Rattle.refusal_core.specs.Trims.{kept, number_of}

pub kept_at : {X : Type 0} (marks : List Bool) (xs : List X) (k : ℕ) (d : X) → length marks ≡ length xs → k < length xs → bit marks k ≡ true → slice_index_or (kept marks xs) (number_of marks k) d ≡ slice_index_or xs k d
kept_at {X} [] [] k d same below marked = absurd (omega (arith, below))
kept_at {X} [] (x ∷ xs) k d same below marked = absurd (omega (arith, same))
kept_at {X} (mark ∷ marks) [] k d same below marked = absurd (omega (arith, below))
kept_at {X} (true ∷ marks) (x ∷ xs) zero d same below marked = refl
kept_at {X} (false ∷ marks) (x ∷ xs) zero d same below marked = absurd (false≢true marked)
kept_at {X} (true ∷ marks) (x ∷ xs) (suc k) d same below marked = kept_at marks xs k d (omega (arith, same)) (omega (arith, below)) marked
kept_at {X} (false ∷ marks) (x ∷ xs) (suc k) d same below marked = kept_at marks xs k d (omega (arith, same)) (omega (arith, below)) marked

pub kept_below : {X : Type 0} (marks : List Bool) (xs : List X) (k : ℕ) → length marks ≡ length xs → k < length xs → bit marks k ≡ true → number_of marks k < length (kept marks xs)
kept_below {X} [] [] k same below marked = absurd (omega (arith, below))
kept_below {X} [] (x ∷ xs) k same below marked = absurd (omega (arith, same))
kept_below {X} (mark ∷ marks) [] k same below marked = absurd (omega (arith, below))
kept_below {X} (true ∷ marks) (x ∷ xs) zero same below marked = omega arith
kept_below {X} (false ∷ marks) (x ∷ xs) zero same below marked = absurd (false≢true marked)
kept_below {X} (true ∷ marks) (x ∷ xs) (suc k) same below marked = let rest = kept_below marks xs k (omega (arith, same)) (omega (arith, below)) marked in omega (arith, rest)
kept_below {X} (false ∷ marks) (x ∷ xs) (suc k) same below marked = kept_below marks xs k (omega (arith, same)) (omega (arith, below)) marked

-- what comes before a number
pub kept_take : {X : Type 0} (marks : List Bool) (xs : List X) (k : ℕ) → length marks ≡ length xs → take (number_of marks k) (kept marks xs) ≡ kept (take k marks) (take k xs)
kept_take {X} [] [] zero same = refl
kept_take {X} [] [] (suc k) same = refl
kept_take {X} [] (x ∷ xs) k same = absurd (omega (arith, same))
kept_take {X} (mark ∷ marks) [] k same = absurd (omega (arith, same))
kept_take {X} (mark ∷ marks) (x ∷ xs) zero same = refl
kept_take {X} (true ∷ marks) (x ∷ xs) (suc k) same = ap (λ ys. x ∷ ys) (kept_take marks xs k (omega (arith, same)))
kept_take {X} (false ∷ marks) (x ∷ xs) (suc k) same = kept_take marks xs k (omega (arith, same))

pub number_of-take : (marks : List Bool) (k r : ℕ) → r ≤ k → number_of (take k marks) r ≡ number_of marks r
number_of-take [] zero r le = refl
number_of-take [] (suc k) r le = refl
number_of-take (mark ∷ marks) zero zero le = refl
number_of-take (mark ∷ marks) zero (suc r) le = absurd (omega (arith, le))
number_of-take (mark ∷ marks) (suc k) zero le = refl
number_of-take (true ∷ marks) (suc k) (suc r) le = ap suc (number_of-take marks k r (omega (arith, le)))
number_of-take (false ∷ marks) (suc k) (suc r) le = number_of-take marks k r (omega (arith, le))

pub number_of-none : (marks : List Bool) → number_of marks 0 ≡ 0
number_of-none [] = refl
number_of-none (mark ∷ marks) = refl

-- one place more
pub number_of-more : (marks : List Bool) (k : ℕ) → k < length marks → number_of marks (suc k) ≡ number_of marks k + cond (bit marks k) 1 0
number_of-more [] k below = absurd (omega (arith, below))
number_of-more (true ∷ marks) zero below = omega (arith, number_of-none marks)
number_of-more (false ∷ marks) zero below = number_of-none marks
number_of-more (true ∷ marks) (suc k) below = let rest = number_of-more marks k (omega (arith, below)) in omega (arith, rest)
number_of-more (false ∷ marks) (suc k) below = number_of-more marks k (omega (arith, below))

pub number_of-later : (marks : List Bool) (i j : ℕ) → i ≤ j → number_of marks i ≤ number_of marks j
number_of-later [] i j le = omega arith
number_of-later (mark ∷ marks) zero j le = omega arith
number_of-later (mark ∷ marks) (suc i) zero le = absurd (omega (arith, le))
number_of-later (true ∷ marks) (suc i) (suc j) le = let rest = number_of-later marks i j (omega (arith, le)) in omega (arith, rest)
number_of-later (false ∷ marks) (suc i) (suc j) le = number_of-later marks i j (omega (arith, le))

pub number_of-within : (marks : List Bool) (k : ℕ) → number_of marks k ≤ k
number_of-within [] k = omega arith
number_of-within (mark ∷ marks) zero = omega arith
number_of-within (true ∷ marks) (suc k) = let rest = number_of-within marks k in omega (arith, rest)
number_of-within (false ∷ marks) (suc k) = let rest = number_of-within marks k in omega (arith, rest)

-- Where one that is kept stood before.
pub record IsPlace (marks : List Bool) (count j : ℕ) : Type 0 where
  pub place : ℕ
  pub below : place < count
  pub marked : bit marks place ≡ true
  pub number_is : number_of marks place ≡ j

pub place_of : {X : Type 0} (marks : List Bool) (xs : List X) (j : ℕ) → length marks ≡ length xs → j < length (kept marks xs) → IsPlace marks (length xs) j
place_of {X} [] [] j same below = absurd (omega (arith, below))
place_of {X} [] (x ∷ xs) j same below = absurd (omega (arith, same))
place_of {X} (mark ∷ marks) [] j same below = absurd (omega (arith, same))
place_of {X} (true ∷ marks) (x ∷ xs) zero same below = record { place = 0; below = omega arith; marked = refl; number_is = refl }
place_of {X} (true ∷ marks) (x ∷ xs) (suc j) same below =
    let rest = place_of marks xs j (omega (arith, same)) (omega (arith, below)) in
    record { place = suc rest.place; below = omega (arith, rest.below); marked = rest.marked; number_is = ap suc rest.number_is }
place_of {X} (false ∷ marks) (x ∷ xs) j same below =
    let rest = place_of marks xs j (omega (arith, same)) below in
    record { place = suc rest.place; below = omega (arith, rest.below); marked = rest.marked; number_is = rest.number_is }

-- one that is kept is the one of its place before
pub kept_is : {X : Type 0} (marks : List Bool) (xs : List X) (j : ℕ) (d : X) → (same : length marks ≡ length xs) → (was : IsPlace marks (length xs) j) → slice_index_or (kept marks xs) j d ≡ slice_index_or xs was.place d
kept_is {X} marks xs j d same was =
    ap (λ n. slice_index_or (kept marks xs) n d) (sym was.number_is) ∙ kept_at marks xs was.place d same was.below was.marked

pub All-kept : {X : Type 0} (P : X → Type 0) (marks : List Bool) (xs : List X) → length marks ≡ length xs → All P xs → All P (kept marks xs)
All-kept {X} P marks xs same each j d below =
    let was = place_of marks xs j same below in
    subst P (sym (kept_is marks xs j d same was)) (each was.place d was.below)

-- those that come before another one are kept before it
earlier : (marks : List Bool) (i j : ℕ) (n m : ℕ) → number_of marks i ≡ n → number_of marks j ≡ m → n < m → i < j
earlier marks i j n m one other less =
    elim (cases_lt i j) [
      | inl lt ↦ lt
      | inr le ↦ absurd (omega (arith, number_of-later marks j i le, one, other, less))
    ]

pub AllPairs-kept : {X : Type 0} (R : X → X → Type 0) (marks : List Bool) (xs : List X) → length marks ≡ length xs → AllPairs R xs → AllPairs R (kept marks xs)
AllPairs-kept {X} R marks xs same each i j d before below =
    let one = place_of marks xs i same (omega (arith, before, below)) in
    let other = place_of marks xs j same below in
    subst (λ x. R x (slice_index_or (kept marks xs) j d)) (sym (kept_is marks xs i d same one))
    (subst (λ y. R (slice_index_or xs one.place d) y) (sym (kept_is marks xs j d same other))
    (each one.place other.place d (earlier marks one.place other.place i j one.number_is other.number_is before) other.below))

-- one element more
pub kept_more : {X : Type 0} (marks : List Bool) (xs : List X) (k : ℕ) (d : X) → length marks ≡ length xs → k < length xs → kept (take (suc k) marks) (take (suc k) xs) ≡ kept (take k marks) (take k xs) ++ cond (bit marks k) (slice_index_or xs k d ∷ []) []
kept_more {X} [] [] k d same below = absurd (omega (arith, below))
kept_more {X} [] (x ∷ xs) k d same below = absurd (omega (arith, same))
kept_more {X} (mark ∷ marks) [] k d same below = absurd (omega (arith, below))
kept_more {X} (true ∷ marks) (x ∷ xs) zero d same below = refl
kept_more {X} (false ∷ marks) (x ∷ xs) zero d same below = refl
kept_more {X} (true ∷ marks) (x ∷ xs) (suc k) d same below = ap (λ ys. x ∷ ys) (kept_more marks xs k d (omega (arith, same)) (omega (arith, below)))
kept_more {X} (false ∷ marks) (x ∷ xs) (suc k) d same below = kept_more marks xs k d (omega (arith, same)) (omega (arith, below))

-- The first ones of a list are those that were kept before a place, and from there on it is as it was.
pub record AreFirst {X : Type 0} (marks : List Bool) (old list : List X) (count place : ℕ) : Type 0 where
  pub as_many : length list ≡ length old
  pub within : count ≤ place
  pub front : take count list ≡ kept (take place marks) (take place old)
  pub back : drop place list ≡ drop place old

-- an element is moved to the end of the first ones
front_moved : {X : Type 0} (list : List X) (count place : ℕ) (d : X) → count ≤ place → place < length list → take (count + 1) (swap list count place) ≡ take count list ++ get_or list place d ∷ []
front_moved {X} list count place d later there =
    let x = get_or list place d in
    let y = get_or list count d in
    let here : count < length list = omega (arith, later, there) in
    let is = ap (take (count + 1)) (sym (swap_is list count place d here there)) in
    elim (cases_lt count place) [
      | inl less ↦ is ∙ (take-set-le (count + 1) (set list count x) place y (omega (arith, less)) ∙ take_more_set list count x here)
      | inr le ↦
          let same : place ≡ count = omega (arith, later, le) in
          is
          ∙ (ap (λ p. take (count + 1) (set (set list count x) p y)) same
          ∙ (ap (take (count + 1)) (set-set list count x y)
          ∙ (take_more_set list count y here
          ∙ ap (λ p. take count list ++ get_or list p d ∷ []) (sym same))))
    ]

back_stays : {X : Type 0} (list : List X) (count place : ℕ) (d : X) → count ≤ place → place < length list → drop (place + 1) (swap list count place) ≡ drop (place + 1) list
back_stays {X} list count place d later there =
    let x = get_or list place d in
    ap (drop (place + 1)) (sym (swap_is list count place d (omega (arith, later, there)) there))
    ∙ (drop-set-lt (place + 1) (set list count x) place (get_or list count d) (omega arith)
    ∙ drop-set-lt (place + 1) list count x (omega (arith, later)))

-- what stands from a place on gives the element there, and what stands after it
read_back : {X : Type 0} (list old : List X) (place : ℕ) (d : X) → drop place list ≡ drop place old → get_or list place d ≡ get_or old place d
read_back {X} list old place d back =
    let there : place ≡ place + 0 = omega arith in
    ap (λ k. get_or list k d) there
    ∙ (sym (get_or-drop place list 0 d)
    ∙ (ap (λ l. get_or l 0 d) back
    ∙ (get_or-drop place old 0 d
    ∙ ap (λ k. get_or old k d) (sym there))))

next_back : {X : Type 0} (list old : List X) (place : ℕ) → drop place list ≡ drop place old → drop (place + 1) list ≡ drop (place + 1) old
next_back {X} list old place back = sym (drop-drop 1 place list) ∙ (ap (drop 1) back ∙ drop-drop 1 place old)

-- what is kept up to a place and there
kept_there : {X : Type 0} (marks : List Bool) (old : List X) (place : ℕ) (d : X) (mark : Bool) → length marks ≡ length old → place < length old → bit marks place ≡ mark → kept (take (place + 1) marks) (take (place + 1) old) ≡ kept (take place marks) (take place old) ++ cond mark (get_or old place d ∷ []) []
kept_there {X} marks old place d mark same below told =
    let next : place + 1 ≡ suc place = omega arith in
    ap (λ n. kept (take n marks) (take n old)) next
    ∙ (kept_more marks old place d same below
    ∙ ap (λ b. kept (take place marks) (take place old) ++ cond b (get_or old place d ∷ []) []) told)

-- one place more
first_by : {X : Type 0} (d : X) (marks : List Bool) (old list more : List X) (count next place : ℕ) (mark : Bool) → length marks ≡ length old → place < length old → bit marks place ≡ mark → AreFirst marks old list count place
    → more ≡ cond mark (swap list count place) list → next ≡ count + cond mark 1 0 → AreFirst marks old more next (place + 1)
first_by {X} d marks old list more count next place true same below told was is count_is =
    let there : place < length list = omega (arith, below, was.as_many) in
    record {
      as_many = ap length is ∙ (length-swap list count place ∙ was.as_many);
      within = omega (arith, was.within, count_is);
      front =
          ap (λ k. take k more) count_is
          ∙ (ap (take (count + 1)) is
          ∙ (front_moved list count place d was.within there
          ∙ (ap (λ l. l ++ get_or list place d ∷ []) was.front
          ∙ (ap (λ x. kept (take place marks) (take place old) ++ x ∷ []) (read_back list old place d was.back)
          ∙ sym (kept_there marks old place d true same below told)))));
      back = ap (drop (place + 1)) is ∙ (back_stays list count place d was.within there ∙ next_back list old place was.back);
    }
first_by {X} d marks old list more count next place false same below told was is count_is =
    let count_stays : next ≡ count = omega (arith, count_is) in
    record {
      as_many = ap length is ∙ was.as_many;
      within = omega (arith, was.within, count_stays);
      front =
          ap (λ k. take k more) count_stays
          ∙ (ap (take count) is
          ∙ (was.front
          ∙ (sym (append-nil (kept (take place marks) (take place old)))
          ∙ sym (kept_there marks old place d false same below told))));
      back = ap (drop (place + 1)) is ∙ next_back list old place was.back;
    }

pub first_more : {X : Type 0} (marks : List Bool) (old list more : List X) (count next place : ℕ) → length marks ≡ length old → place < length old → AreFirst marks old list count place
    → more ≡ cond (bit marks place) (swap list count place) list → next ≡ count + cond (bit marks place) 1 0 → AreFirst marks old more next (place + 1)
first_more {X} marks [] list more count next place same below was is count_is = absurd (omega (arith, below))
first_more {X} marks (d ∷ rest) list more count next place same below was is count_is =
    first_by d marks (d ∷ rest) list more count next place (bit marks place) same below refl was is count_is

-- all places
pub first_all : {X : Type 0} (marks : List Bool) (old list : List X) (count place : ℕ) → length marks ≡ length old → length marks ≤ place → AreFirst marks old list count place → take count list ≡ kept marks old
first_all {X} marks old list count place same end all =
    all.front
    ∙ (ap (λ m. kept m (take place old)) (take_all place marks end)
    ∙ ap (kept marks) (take_all place old (omega (arith, same, end))))
