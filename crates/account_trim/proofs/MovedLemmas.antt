-- What a record names stands under its new number where it is kept.
use Rattle.std.proofs.Common.{◌≡◌, ℕ, suc, ◌+◌, ◌-◌, ◌<◌, ◌≤◌, Bool, true, false, cond, List, [], ◌∷◌, ◌++◌, length, map, All, Option, None, Some, nat_lt, slice_index_or, inl, inr, refl, sym, ap, subst, ◌∙◌, arith}
use Rattle.std.specs.Prelude.{option_to_list}
use Rattle.std.specs.List.{flat_map}
use Rattle.std.specs.Option.{option_map}
use Rattle.std.proofs.lemmas.Bool.{cases_lt, le-ltb, lt-ltb}
use Rattle.std.proofs.lemmas.List.{get_or_default, map-append}
use Rattle.std.proofs.lemmas.List.Elements.{All-append, All-cons, All-head, All-nil, All-tail}
use Rattle.circuits.specs.Literals.{bit}
use Rattle.circuits.proofs.Lists.{All-back, All-front}
use Rattle.net_core.specs.Sides.{Graphs}
use Rattle.account_core.specs.declared.step.Step.{Step}
use Rattle.account_core.specs.declared.step.Step.TheVariants.{Vector, Mismatch, Tally, Cover}
use Rattle.account_core.specs.Given.{Given}
use Rattle.account_core.specs.Steps.{AreNamesKnown}
use Rattle.refusal_core.specs.Names.{AreMarked, bans_named, facts_named}
use Rattle.refusal_core.specs.Numbered.{step_by}
use Rattle.refusal_core.specs.Trims.{number_of}
use Rattle.refusal_core.proofs.KeptLemmas.{number_of-later, number_of-more, number_of-within}
use Rattle.refusal_core.proofs.ValidLemmas.{all_referred}
use Rattle.account_trim.specs.declared.links.Links.{Links}
use Rattle.account_trim.specs.declared.places.Places.{Places}
use Rattle.account_trim.specs.Links.{earlier, hinted, listed}
use Rattle.account_trim.specs.Lowered.{all_left_out, left_out, lowered_hint, marks_at}
use Rattle.account_trim.proofs.HintLemmas.{IsNewHint}
use Rattle.account_trim.proofs.KeptLemmas.{AreNumbered, between, between_bit, between_length, between_number, carried, count_at, number_left}

-- the number of what comes after a place
pub next_kept : (marks : List Bool) (k : ℕ) → k < length marks → bit marks k ≡ true → number_of marks (k + 1) ≡ number_of marks k + 1
next_kept marks k below marked =
    let next : k + 1 ≡ suc k = omega arith in
    ap (number_of marks) next ∙ (number_of-more marks k below ∙ ap (λ b. number_of marks k + cond b 1 0) marked)

pub next_left_out : (marks : List Bool) (k : ℕ) → k < length marks → bit marks k ≡ false → number_of marks (k + 1) ≡ number_of marks k
next_left_out marks k below unmarked =
    let next : k + 1 ≡ suc k = omega arith in
    let same = number_of-more marks k below ∙ ap (λ b. number_of marks k + cond b 1 0) unmarked in
    omega (arith, ap (number_of marks) next, same)

pub number_before : (marks : List Bool) (p k : ℕ) → p < k → k ≤ length marks → bit marks p ≡ true → number_of marks p < number_of marks k
number_before marks p k before whole marked =
    omega (arith, next_kept marks p (omega (arith, before, whole)) marked, number_of-later marks (p + 1) k (omega (arith, before)))

-- what holds of all that elements lead to
pub flat_each : {X : Type 0} (P : ℕ → Type 0) (f : X → List ℕ) (xs : List X) → All P (flat_map f xs) → All (λ x. All P (f x)) xs
flat_each {X} P f [] each = All-nil (λ x. All P (f x))
flat_each {X} P f (x ∷ xs) each = All-cons (λ y. All P (f y)) x xs (All-front P (f x) (flat_map f xs) each) (flat_each P f xs (All-back P (f x) (flat_map f xs) each))

-- elements with new numbers lead to the new numbers of what they led to
pub flat_moved : {X Y : Type 0} (f : X → List ℕ) (g : Y → List ℕ) (h : X → Y) (number : ℕ → ℕ) (xs : List X) → All (λ x. g (h x) ≡ map number (f x)) xs → flat_map g (map h xs) ≡ map number (flat_map f xs)
flat_moved {X} {Y} f g h number [] each = refl
flat_moved {X} {Y} f g h number (x ∷ xs) each =
    ap (λ l. l ++ flat_map g (map h xs)) (All-head (λ y. g (h y) ≡ map number (f y)) x xs each)
    ∙ (ap (λ l. map number (f x) ++ l) (flat_moved f g h number xs (All-tail (λ y. g (h y) ≡ map number (f y)) x xs each))
    ∙ sym (map-append number (f x) (flat_map f xs)))

-- ---- steps by other numbers

map_same : (f g : ℕ → ℕ) (xs : List ℕ) → All (λ n. f n ≡ g n) xs → map f xs ≡ map g xs
map_same f g [] each = refl
map_same f g (x ∷ xs) each =
    ap (λ y. y ∷ map f xs) (All-head (λ n. f n ≡ g n) x xs each) ∙ ap (λ ys. g x ∷ ys) (map_same f g xs (All-tail (λ n. f n ≡ g n) x xs each))

reference_same : (f g : ℕ → ℕ) (r : Option ℕ) → All (λ n. f n ≡ g n) (option_to_list r) → option_map f r ≡ option_map g r
reference_same f g None each = refl
reference_same f g (Some n) each = ap Some (All-head (λ n. f n ≡ g n) n [] each)

references_same : (f g : ℕ → ℕ) (rs : List (Option ℕ)) → All (λ n. f n ≡ g n) (flat_map option_to_list rs) → map (option_map f) rs ≡ map (option_map g) rs
references_same f g [] each = refl
references_same f g (r ∷ rs) each =
    ap (λ s. s ∷ map (option_map f) rs) (reference_same f g r (All-front (λ n. f n ≡ g n) (option_to_list r) (flat_map option_to_list rs) each))
    ∙ ap (λ ss. option_map g r ∷ ss) (references_same f g rs (All-back (λ n. f n ≡ g n) (option_to_list r) (flat_map option_to_list rs) each))

pub step_same : (f g of_fact of_ban : ℕ → ℕ) (step : Step) → All (λ n. f n ≡ of_fact n) (facts_named step) → All (λ n. g n ≡ of_ban n) (bans_named step) → step_by f g step ≡ step_by of_fact of_ban step
step_same f g of_fact of_ban (Vector output values) facts bans = refl
step_same f g of_fact of_ban (Mismatch fails holds) facts bans =
    ap (λ n. Mismatch n (f holds)) (All-head (λ n. f n ≡ of_fact n) fails (holds ∷ []) facts)
    ∙ ap (λ n. Mismatch (of_fact fails) n) (All-head (λ n. f n ≡ of_fact n) holds [] (All-tail (λ n. f n ≡ of_fact n) fails (holds ∷ []) facts))
step_same f g of_fact of_ban (Tally kind have lack) facts bans =
    ap (λ ns. Tally kind ns (map f lack)) (map_same f of_fact have (All-front (λ n. f n ≡ of_fact n) have lack facts))
    ∙ ap (λ ns. Tally kind (map of_fact have) ns) (map_same f of_fact lack (All-back (λ n. f n ≡ of_fact n) have lack facts))
step_same f g of_fact of_ban (Cover kind from to refs) facts bans = ap (λ rs. Cover kind from to rs) (references_same g of_ban refs bans)

-- what a step names is named by its new number
pub facts_moved : (f g : ℕ → ℕ) (step : Step) → facts_named (step_by f g step) ≡ map f (facts_named step)
facts_moved f g (Vector output values) = refl
facts_moved f g (Mismatch fails holds) = refl
facts_moved f g (Tally kind have lack) = sym (map-append f have lack)
facts_moved f g (Cover kind from to refs) = refl

references_moved : (g : ℕ → ℕ) (rs : List (Option ℕ)) → flat_map option_to_list (map (option_map g) rs) ≡ map g (flat_map option_to_list rs)
references_moved g [] = refl
references_moved g (None ∷ rs) = references_moved g rs
references_moved g (Some n ∷ rs) = ap (λ ns. g n ∷ ns) (references_moved g rs)

pub bans_moved : (f g : ℕ → ℕ) (step : Step) → bans_named (step_by f g step) ≡ map g (bans_named step)
bans_moved f g (Vector output values) = refl
bans_moved f g (Mismatch fails holds) = refl
bans_moved f g (Tally kind have lack) = refl
bans_moved f g (Cover kind from to refs) = references_moved g refs

-- ---- what a step names was given

pub facts_given : (graphs : Graphs) (given : Given) (step : Step) → AreNamesKnown graphs given step → All (λ f. f < length given.facts) (facts_named step)
facts_given graphs given (Vector output values) known = All-nil (λ f. f < length given.facts)
facts_given graphs given (Mismatch fails holds) known = All-cons (λ f. f < length given.facts) fails (holds ∷ []) known.0 (All-cons (λ f. f < length given.facts) holds [] known.1 (All-nil (λ f. f < length given.facts)))
facts_given graphs given (Tally kind have lack) known = All-append (λ f. f < length given.facts) have lack known.0 known.1
facts_given graphs given (Cover kind from to refs) known = All-nil (λ f. f < length given.facts)

pub bans_given : (graphs : Graphs) (given : Given) (step : Step) → AreNamesKnown graphs given step → All (λ b. b < length given.bans) (bans_named step)
bans_given graphs given (Vector output values) known = All-nil (λ b. b < length given.bans)
bans_given graphs given (Mismatch fails holds) known = All-nil (λ b. b < length given.bans)
bans_given graphs given (Tally kind have lack) known = All-nil (λ b. b < length given.bans)
bans_given graphs given (Cover kind from to refs) known = all_referred refs (length given.bans) known.given_bans

-- ---- where they stand

earlier_is : (k place : ℕ) → place < k → earlier k place ≡ place ∷ []
earlier_is k place before = ap (λ b. cond b (place ∷ []) []) (lt-ltb place k before)

-- what was given under a number stands before, and is marked where what names it is
pub listed_marked : {X : Type 0} (marks : List Bool) (k : ℕ) (places own : List ℕ) (old new : List X) (n : ℕ) → AreNumbered marks k places own old new → n < length places → AreMarked marks (listed k places n) → bit marks (slice_index_or places n 0) ≡ true
listed_marked {X} marks k places own old new n was below each =
    let place = slice_index_or places n k in
    let before : place < k = was.early n k below in
    ap (bit marks) (get_or_default places n 0 k below) ∙ All-head (λ p. bit marks p ≡ true) place [] (subst (AreMarked marks) (earlier_is k place before) each)

pub listed_moved : {X : Type 0} (marks : List Bool) (k : ℕ) (places own : List ℕ) (old new : List X) (n : ℕ) → AreNumbered marks k places own old new → n < length places → k ≤ length marks → bit marks (slice_index_or places n 0) ≡ true → listed (number_of marks k) own (number_of (marks_at marks places) n) ≡ map (number_of marks) (listed k places n)
listed_moved {X} marks k places own old new n was below whole marked =
    let place = slice_index_or places n k in
    let before : place < k = was.early n k below in
    let there = ap (bit marks) (get_or_default places n k 0 below) ∙ marked in
    let is = (carried marks k places own old new n was below marked whole).place (number_of marks k) k in
    ap (earlier (number_of marks k)) is
    ∙ (earlier_is (number_of marks k) (number_of marks place) (number_before marks place k before whole there)
    ∙ ap (map (number_of marks)) (sym (earlier_is k place before)))

-- ---- hints

hint_low : (counts : List ℕ) (link : Links) (hint : ℕ) → hint < link.base → lowered_hint counts link hint ≡ hint
hint_low counts link hint low =
    ap (λ b. cond b hint (cond (nat_lt (hint - link.base) (length counts - link.start)) (hint - (slice_index_or counts (link.start + (hint - link.base)) 0 - slice_index_or counts link.start 0)) hint)) (lt-ltb hint link.base low)

hint_high : (counts : List ℕ) (link : Links) (hint : ℕ) → link.base ≤ hint → hint - link.base < length counts - link.start → lowered_hint counts link hint ≡ hint - (slice_index_or counts (link.start + (hint - link.base)) 0 - slice_index_or counts link.start 0)
hint_high counts link hint high within =
    ap (λ b. cond b hint (cond (nat_lt (hint - link.base) (length counts - link.start)) (hint - (slice_index_or counts (link.start + (hint - link.base)) 0 - slice_index_or counts link.start 0)) hint)) (le-ltb hint link.base high)
    ∙ ap (λ b. cond b (hint - (slice_index_or counts (link.start + (hint - link.base)) 0 - slice_index_or counts link.start 0)) hint) (lt-ltb (hint - link.base) (length counts - link.start) within)

low_names : (places : Places) (k hint : ℕ) → hint < places.base → hinted places k hint ≡ []
low_names places k hint low = ap (λ b. cond b [] (cond (nat_lt (hint - places.base) (k - places.start)) ((places.start + (hint - places.base)) ∷ []) [])) (lt-ltb hint places.base low)

high_names : (places : Places) (k hint : ℕ) → places.base ≤ hint → hint - places.base < k - places.start → hinted places k hint ≡ (places.start + (hint - places.base)) ∷ []
high_names places k hint high near =
    ap (λ b. cond b [] (cond (nat_lt (hint - places.base) (k - places.start)) ((places.start + (hint - places.base)) ∷ []) [])) (le-ltb hint places.base high)
    ∙ ap (λ b. cond b ((places.start + (hint - places.base)) ∷ []) []) (lt-ltb (hint - places.base) (k - places.start) near)

module _ (marks : List Bool) (k : ℕ) (below : k < length marks) (spots : Places) (link : Links) (counts : List ℕ) (counts_are : counts ≡ all_left_out marks) (many : length counts ≡ length marks) (start_is : link.start ≡ spots.start) (base_is : link.base ≡ spots.base) (begun : spots.start ≤ k) where
  -- the mark of the line that a hint names
  hint_marked : (hint : ℕ) → AreMarked marks (hinted spots k hint) → spots.base ≤ hint → hint - spots.base < k - spots.start → bit marks (spots.start + (hint - spots.base)) ≡ true
  hint_marked hint each high near = All-head (λ p. bit marks p ≡ true) (spots.start + (hint - spots.base)) [] (subst (AreMarked marks) (high_names spots k hint high near) each)

  high_is : (hint : ℕ) → spots.base ≤ hint → hint - spots.base < k - spots.start → lowered_hint counts link hint ≡ spots.base + number_of (between marks spots.start k) (hint - spots.base)
  high_is hint high near =
      let m = hint - spots.base in
      let s = spots.start in
      let same_m : hint - link.base ≡ m = omega (arith, base_is) in
      let first = count_at marks s (omega (arith, below, begun)) in
      let second = count_at marks (s + m) (omega (arith, below, near)) in
      let at_first : slice_index_or counts link.start 0 ≡ left_out marks s = ap (λ n. slice_index_or counts n 0) start_is ∙ (ap (λ l. slice_index_or l s 0) counts_are ∙ first) in
      let place : link.start + (hint - link.base) ≡ s + m = omega (arith, start_is, base_is) in
      let at_second : slice_index_or counts (link.start + (hint - link.base)) 0 ≡ left_out marks (s + m) = ap (λ n. slice_index_or counts n 0) place ∙ (ap (λ l. slice_index_or l (s + m) 0) counts_are ∙ second) in
      let is = hint_high counts link hint (omega (arith, high, base_is)) (omega (arith, near, below, start_is, base_is, many)) in
      let a = number_left marks s (omega (arith, below, begun)) in
      let b = number_left marks (s + m) (omega (arith, below, near)) in
      let c = between_number marks s k m (omega (arith, below)) (omega (arith, near)) in
      omega (arith, is, at_first, at_second, a, b, c, high, number_of-within (between marks s k) m)

  pub new_hint : (hint : ℕ) → AreMarked marks (hinted spots k hint) → IsNewHint spots.base (between marks spots.start k) (lowered_hint counts link) hint
  new_hint hint each = record {
    low = λ low. hint_low counts link hint (omega (arith, low, base_is));
    line = λ high within.
        let near : hint - spots.base < k - spots.start = omega (arith, within, between_length marks spots.start k (omega (arith, below))) in
        between_bit marks spots.start k (hint - spots.base) (omega (arith, near)) ∙ hint_marked hint each high near;
    high = λ high within. high_is hint high (omega (arith, within, between_length marks spots.start k (omega (arith, below))));
  }

  pub hint_moved : (own : Places) (hint : ℕ) → own.start ≡ number_of marks spots.start → own.base ≡ spots.base → AreMarked marks (hinted spots k hint) → hint < spots.base + (k - spots.start)
      → hinted own (number_of marks k) (lowered_hint counts link hint) ≡ map (number_of marks) (hinted spots k hint)
  hint_moved own hint own_start own_base each there =
      elim (cases_lt hint spots.base) [
        | inl low ↦
            let same = hint_low counts link hint (omega (arith, low, base_is)) in
            ap (hinted own (number_of marks k)) same
            ∙ (low_names own (number_of marks k) hint (omega (arith, low, own_base))
            ∙ ap (map (number_of marks)) (sym (low_names spots k hint low)))
        | inr high ↦
            let m = hint - spots.base in
            let near : hint - spots.base < k - spots.start = omega (arith, high, there) in
            let is = high_is hint high near in
            let number = number_of (between marks spots.start k) m in
            let c = between_number marks spots.start k m (omega (arith, below)) (omega (arith, near)) in
            let before = number_before marks (spots.start + m) k (omega (arith, near)) (omega (arith, below)) (hint_marked hint each high near) in
            let place : own.start + (lowered_hint counts link hint - own.base) ≡ number_of marks (spots.start + m) = omega (arith, is, own_start, own_base, c) in
            high_names own (number_of marks k) (lowered_hint counts link hint) (omega (arith, is, own_base)) (omega (arith, is, own_start, own_base, c, before))
            ∙ (ap (λ n. n ∷ []) place
            ∙ ap (map (number_of marks)) (sym (high_names spots k hint high near)))
      ]
