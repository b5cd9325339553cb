-- Lists of which the marked elements are kept, and the numbers that these get.
use Rattle.std.proofs.Common.{◌≡◌, ℕ, zero, suc, ◌+◌, ◌-◌, ◌<◌, ◌≤◌, ◌||◌, Bool, true, false, cond, List, [], ◌∷◌, ◌++◌, length, map, take, drop, All, slice_index_or, refl, sym, ap, ◌∙◌, arith}
use Rattle.std.specs.List.{list_any}
use Rattle.std.proofs.lemmas.List.FromFn.{get_or-map-range_with_len}
use Rattle.std.proofs.lemmas.Bool.{false≢true}
use Rattle.std.proofs.lemmas.List.{append-nil, drop_all, get_or-drop, get_or-map, get_or-take, get_or_default, length-append, length-drop, length-map, length-take, length-take-le, map-append, take_more}
use Rattle.std.proofs.lemmas.List.Elements.{All-push, All-weaker}
use Rattle.circuits.specs.Literals.{bit}
use Rattle.refusal_core.specs.Trims.{kept, number_of}
use Rattle.refusal_core.proofs.KeptLemmas.{kept_at, kept_below, number_of-none, number_of-take}
use Rattle.account_trim.specs.Lowered.{all_left_out, left_out, lowered, marks_at}
use Rattle.account_trim.proofs.LowerLemmas.{left_out-none}

pub kept_push : {X : Type 0} (marks : List Bool) (xs : List X) (m : Bool) (x : X) → length marks ≡ length xs → kept (marks ++ m ∷ []) (xs ++ x ∷ []) ≡ kept marks xs ++ cond m (x ∷ []) []
kept_push {X} [] [] true x same = refl
kept_push {X} [] [] false x same = refl
kept_push {X} [] (y ∷ xs) m x same = absurd (omega (arith, same))
kept_push {X} (mark ∷ marks) [] m x same = absurd (omega (arith, same))
kept_push {X} (true ∷ marks) (y ∷ xs) m x same = ap (λ ys. y ∷ ys) (kept_push marks xs m x (omega (arith, same)))
kept_push {X} (false ∷ marks) (y ∷ xs) m x same = kept_push marks xs m x (omega (arith, same))

-- of those before a place some are kept, and the others left out
pub number_left : (marks : List Bool) (k : ℕ) → k ≤ length marks → number_of marks k + left_out marks k ≡ k
number_left [] zero le = refl
number_left [] (suc k) le = absurd (omega (arith, le))
number_left (mark ∷ marks) zero le = refl
number_left (true ∷ marks) (suc k) le = let rest = number_left marks k (omega (arith, le)) in omega (arith, rest)
number_left (false ∷ marks) (suc k) le = let rest = number_left marks k (omega (arith, le)) in omega (arith, rest)

left_out-front : (marks rest : List Bool) (k : ℕ) → k ≤ length marks → left_out (marks ++ rest) k ≡ left_out marks k
left_out-front [] rest zero le = left_out-none rest
left_out-front [] rest (suc k) le = absurd (omega (arith, le))
left_out-front (mark ∷ marks) rest zero le = refl
left_out-front (true ∷ marks) rest (suc k) le = left_out-front marks rest k (omega (arith, le))
left_out-front (false ∷ marks) rest (suc k) le = ap suc (left_out-front marks rest k (omega (arith, le)))

pub count_at : (marks : List Bool) (k : ℕ) → k < length marks → slice_index_or (all_left_out marks) k 0 ≡ left_out marks k
count_at marks k below = get_or-map-range_with_len (left_out marks) 0 (length marks) k k 0 below (omega arith)

-- a number, less what is left out before it, is how many are kept before it
pub lowered_number : (marks rest : List Bool) (n : ℕ) → n < length marks → lowered (all_left_out (marks ++ rest)) n ≡ number_of marks n
lowered_number marks rest n below =
    omega (arith, count_at (marks ++ rest) n (omega (arith, below, length-append marks rest)), left_out-front marks rest n (omega (arith, below)), number_left marks n (omega (arith, below)))

-- what is kept from a place on
number_drop : (marks : List Bool) (s m : ℕ) → s + m ≤ length marks → number_of marks s + number_of (drop s marks) m ≡ number_of marks (s + m)
number_drop marks zero m le =
    let same : m ≡ 0 + m = omega arith in
    let first : number_of marks 0 + number_of marks m ≡ number_of marks m = omega (arith, number_of-none marks) in
    first ∙ ap (number_of marks) same
number_drop [] (suc s) m le = absurd (omega (arith, le))
number_drop (true ∷ marks) (suc s) m le =
    let next : suc s + m ≡ suc (s + m) = omega arith in
    let whole : number_of (true ∷ marks) (suc s + m) ≡ suc (number_of marks (s + m)) = ap (number_of (true ∷ marks)) next in
    let rest = number_drop marks s m (omega (arith, le)) in
    omega (arith, rest, whole)
number_drop (false ∷ marks) (suc s) m le =
    let next : suc s + m ≡ suc (s + m) = omega arith in
    number_drop marks s m (omega (arith, le)) ∙ sym (ap (number_of (false ∷ marks)) next)

-- the marks from a place on, up to another one
abbrev pub between : List Bool → ℕ → ℕ → List Bool
between marks s k = drop s (take k marks)

pub between_length : (marks : List Bool) (s k : ℕ) → k ≤ length marks → length (between marks s k) ≡ k - s
between_length marks s k le = omega (arith, length-drop s (take k marks), length-take-le k marks le)

pub between_bit : (marks : List Bool) (s k m : ℕ) → s + m < k → bit (between marks s k) m ≡ bit marks (s + m)
between_bit marks s k m below = get_or-drop s (take k marks) m false ∙ get_or-take k marks (s + m) false below

pub between_number : (marks : List Bool) (s k m : ℕ) → k ≤ length marks → s + m ≤ k → number_of marks s + number_of (between marks s k) m ≡ number_of marks (s + m)
between_number marks s k m within le =
    omega (arith, number_drop (take k marks) s m (omega (arith, le, length-take-le k marks within)), number_of-take marks k s (omega (arith, le)), number_of-take marks k (s + m) le)

drop_push : {X : Type 0} (s : ℕ) (xs : List X) (x : X) → s ≤ length xs → drop s (xs ++ x ∷ []) ≡ drop s xs ++ x ∷ []
drop_push {X} zero xs x le = refl
drop_push {X} (suc s) [] x le = absurd (omega (arith, le))
drop_push {X} (suc s) (y ∷ xs) x le = drop_push s xs x (omega (arith, le))

pub between_more : (marks : List Bool) (s k : ℕ) → s ≤ k → k < length marks → between marks s (k + 1) ≡ between marks s k ++ bit marks k ∷ []
between_more marks s k le below = ap (drop s) (take_more marks k false below) ∙ drop_push s (take k marks) (bit marks k) (omega (arith, le, length-take-le k marks (omega (arith, below))))

pub between_none : (marks : List Bool) (s k : ℕ) → k ≤ s → between marks s k ≡ []
between_none marks s k le = drop_all s (take k marks) (omega (arith, le, length-take k marks))

neither : (a b : Bool) → (a || b) ≡ false → (a ≡ false) × (b ≡ false)
neither true b e = absurd (false≢true (sym e))
neither false b e = (refl, e)

-- none of what is kept is of a kind, where none was
pub none_kept : {X : Type 0} (f : X → Bool) (marks : List Bool) (xs : List X) → list_any f xs ≡ false → list_any f (kept marks xs) ≡ false
none_kept {X} f [] xs none = refl
none_kept {X} f (mark ∷ marks) [] none = refl
none_kept {X} f (true ∷ marks) (x ∷ xs) none =
    let both = neither (f x) (list_any f xs) none in
    ap (λ b. b || list_any f (kept marks xs)) both.0 ∙ none_kept f marks xs both.1
none_kept {X} f (false ∷ marks) (x ∷ xs) none = none_kept f marks xs (neither (f x) (list_any f xs) none).1

-- ---- what was given at places, and is kept under new numbers

-- Things were given at places before k, and are kept where these are marked.
pub record AreNumbered {X : Type 0} (marks : List Bool) (k : ℕ) (places own : List ℕ) (old new : List X) : Type 0 where
  pub many : length places ≡ length old
  pub early : All (λ p. p < k) places
  pub own_is : own ≡ map (number_of marks) (kept (marks_at marks places) places)
  pub new_is : new ≡ kept (marks_at marks places) old

marks_many : (marks : List Bool) (places : List ℕ) → length (marks_at marks places) ≡ length places
marks_many marks places = length-map places (λ p. slice_index_or marks p true)

pub none_numbered : {X : Type 0} (marks : List Bool) → AreNumbered {X = X} marks 0 [] [] [] []
none_numbered {X} marks = record {
  many = refl;
  early = λ i d below. absurd (omega (arith, below));
  own_is = refl;
  new_is = refl;
}

pub later_numbered : {X : Type 0} (marks : List Bool) (k : ℕ) (places own : List ℕ) (old new : List X) → AreNumbered marks k places own old new → AreNumbered marks (k + 1) places own old new
later_numbered {X} marks k places own old new was = record {
  many = was.many;
  early = All-weaker (λ p. p < k) (λ p. p < k + 1) (λ p less. omega (arith, less)) places was.early;
  own_is = was.own_is;
  new_is = was.new_is;
}

mark_there : (marks : List Bool) (k : ℕ) (mark : Bool) → k < length marks → bit marks k ≡ mark → slice_index_or marks k true ≡ mark
mark_there marks k mark below is = get_or_default marks k true false below ∙ is

marks_push : (marks : List Bool) (places : List ℕ) (k : ℕ) (mark : Bool) → k < length marks → bit marks k ≡ mark → marks_at marks (places ++ k ∷ []) ≡ marks_at marks places ++ mark ∷ []
marks_push marks places k mark below is =
    map-append (λ p. slice_index_or marks p true) places (k ∷ []) ∙ ap (λ b. marks_at marks places ++ b ∷ []) (mark_there marks k mark below is)

module _ {X : Type 0} (marks : List Bool) (k : ℕ) (places own : List ℕ) (old new : List X) (was : AreNumbered marks k places own old new) (below : k < length marks) where
  many_more : (x : X) → length (places ++ k ∷ []) ≡ length (old ++ x ∷ [])
  many_more x = omega (arith, was.many, length-append places (k ∷ []), length-append old (x ∷ []))

  early_more : All (λ p. p < k + 1) (places ++ k ∷ [])
  early_more = All-push (λ p. p < k + 1) places k (All-weaker (λ p. p < k) (λ p. p < k + 1) (λ p less. omega (arith, less)) places was.early) (omega arith)

  -- one more at place k
  pub one_numbered : (x : X) → bit marks k ≡ true → AreNumbered marks (k + 1) (places ++ k ∷ []) (own ++ number_of marks k ∷ []) (old ++ x ∷ []) (new ++ x ∷ [])
  one_numbered x marked = record {
    many = many_more x;
    early = early_more;
    own_is =
        ap (λ l. l ++ number_of marks k ∷ []) was.own_is
        ∙ (sym (map-append (number_of marks) (kept (marks_at marks places) places) (k ∷ []))
        ∙ (ap (map (number_of marks)) (sym (kept_push (marks_at marks places) places true k (marks_many marks places)))
        ∙ ap (λ ms. map (number_of marks) (kept ms (places ++ k ∷ []))) (sym (marks_push marks places k true below marked))));
    new_is =
        ap (λ l. l ++ x ∷ []) was.new_is
        ∙ (sym (kept_push (marks_at marks places) old true x (marks_many marks places ∙ was.many))
        ∙ ap (λ ms. kept ms (old ++ x ∷ [])) (sym (marks_push marks places k true below marked)));
  }

  pub one_left_out : (x : X) → bit marks k ≡ false → AreNumbered marks (k + 1) (places ++ k ∷ []) own (old ++ x ∷ []) new
  one_left_out x unmarked = record {
    many = many_more x;
    early = early_more;
    own_is =
        was.own_is
        ∙ (ap (map (number_of marks)) (sym (kept_push (marks_at marks places) places false k (marks_many marks places) ∙ append-nil (kept (marks_at marks places) places)))
        ∙ ap (λ ms. map (number_of marks) (kept ms (places ++ k ∷ []))) (sym (marks_push marks places k false below unmarked)));
    new_is =
        was.new_is
        ∙ (sym (kept_push (marks_at marks places) old false x (marks_many marks places ∙ was.many) ∙ append-nil (kept (marks_at marks places) old))
        ∙ ap (λ ms. kept ms (old ++ x ∷ [])) (sym (marks_push marks places k false below unmarked)));
  }

-- One of them stands under its new number.
pub record IsCarried {X : Type 0} (marks : List Bool) (places own : List ℕ) (old new : List X) (n : ℕ) : Type 0 where
  pub there : number_of (marks_at marks places) n < length new
  pub same : (d : X) → slice_index_or new (number_of (marks_at marks places) n) d ≡ slice_index_or old n d
  pub place : (d e : ℕ) → slice_index_or own (number_of (marks_at marks places) n) d ≡ number_of marks (slice_index_or places n e)

pub carried : {X : Type 0} (marks : List Bool) (k : ℕ) (places own : List ℕ) (old new : List X) (n : ℕ) → AreNumbered marks k places own old new → n < length places → bit marks (slice_index_or places n 0) ≡ true → k ≤ length marks → IsCarried marks places own old new n
carried {X} marks k places own old new n was below marked whole = record {
  there = omega (arith, ap length was.new_is, kept_below ms old n (many ∙ was.many) (omega (arith, below, was.many)) here);
  same = λ d. ap (λ l. slice_index_or l (number_of ms n) d) was.new_is ∙ kept_at ms old n d (many ∙ was.many) (omega (arith, below, was.many)) here;
  place = λ d e.
      ap (λ l. slice_index_or l (number_of ms n) d) was.own_is
      ∙ (get_or-map (number_of marks) (kept ms places) (number_of ms n) e d (kept_below ms places n many below here)
      ∙ ap (number_of marks) (kept_at ms places n e many below here));
}
  where
    ms : List Bool
    ms = marks_at marks places

    many : length (marks_at marks places) ≡ length places
    many = marks_many marks places

    here : bit (marks_at marks places) n ≡ true
    here =
        get_or-map (λ p. slice_index_or marks p true) places n 0 false below
        ∙ mark_there marks (slice_index_or places n 0) true (omega (arith, was.early n 0 below, whole)) marked
