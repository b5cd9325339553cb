-- What is listed is what is marked.
use Rattle.std.proofs.Common.{◌≡◌, ℕ, ◌<◌, ◌||◌, nat_eq, cond, Bool, true, false, List, [], ◌∷◌, ◌++◌, length, set, replicate, All, slice_index_or, if◌then◌else◌, inl, inr, refl, sym, ap, ◌∙◌, arith}
use Rattle.std.specs.List.{list_any}
use Rattle.std.proofs.lemmas.Bool.{or_right}
use Rattle.std.proofs.lemmas.Bool.Decides.{eqb_tells}
use Rattle.std.proofs.lemmas.List.{ext_get_or, get_or-replicate, get_or-set_other, get_or-set_same, length-replicate, length-set, set-get_or}
use Rattle.std.proofs.lemmas.List.Elements.{All-push}
use Rattle.std.proofs.lemmas.List.Folds.{list_any-append}
use Rattle.std.proofs.lemmas.List.FromFn.{get_or-map-range_with_len, length-map-range_with_len}
use Rattle.indexmap.specs.IndexSet.{insert_key}
use Rattle.bit_list.specs.Marking.{listed_marks}

pub length-listed : (count : ℕ) (numbers : List ℕ) → length (listed_marks count numbers) ≡ count
length-listed count numbers = length-map-range_with_len (λ k. list_any (nat_eq k) numbers) 0 count

pub listed_at : (count : ℕ) (numbers : List ℕ) (k : ℕ) → k < count → slice_index_or (listed_marks count numbers) k false ≡ list_any (nat_eq k) numbers
listed_at count numbers k below = get_or-map-range_with_len (λ j. list_any (nat_eq j) numbers) 0 count k k false below (omega arith)

pub none_listed : (count : ℕ) → listed_marks count [] ≡ replicate count false
none_listed count =
    ext_get_or false (listed_marks count []) (replicate count false) (length-listed count [] ∙ sym (length-replicate count false)) (λ k below.
    let low : k < count = omega (arith, below, length-listed count []) in
    listed_at count [] k low ∙ sym (get_or-replicate count k false false low))

-- one number more
pub listed_more : (count : ℕ) (numbers : List ℕ) (n : ℕ) → n < count → listed_marks count (numbers ++ n ∷ []) ≡ set (listed_marks count numbers) n true
listed_more count numbers n there =
    ext_get_or false (listed_marks count (numbers ++ n ∷ [])) (set (listed_marks count numbers) n true) (length-listed count (numbers ++ n ∷ []) ∙ sym (length-set (listed_marks count numbers) n true ∙ length-listed count numbers)) (λ k below.
    let old = listed_marks count numbers in
    let low : k < count = omega (arith, below, length-listed count (numbers ++ n ∷ [])) in
    let among = list_any (nat_eq k) numbers in
    listed_at count (numbers ++ n ∷ []) k low ∙ (list_any-append (nat_eq k) numbers (n ∷ []) ∙ elim (eqb_tells k n) [
      | inl (found, e) ↦
          ap (λ b. among || (b || false)) found ∙ (or_right among true refl ∙ sym (ap (λ j. slice_index_or (set old n true) j false) e ∙ get_or-set_same old n true false (omega (arith, there, length-listed count numbers))))
      | inr (found, apart) ↦
          ap (λ b. among || (b || false)) found ∙ (or_false among ∙ sym (get_or-set_other old n k true false apart ∙ listed_at count numbers k low))
    ]))
  where
    or_false : (b : Bool) → (b || false) ≡ b
    or_false true = refl
    or_false false = refl

-- a number that is there may be marked again
listed_again : (count : ℕ) (numbers : List ℕ) (n : ℕ) → n < count → list_any (nat_eq n) numbers ≡ true → listed_marks count numbers ≡ set (listed_marks count numbers) n true
listed_again count numbers n there found =
    let old = listed_marks count numbers in
    sym (ap (set old n) (sym (listed_at count numbers n there ∙ found)) ∙ set-get_or old n false)

-- a number is put into the set
pub listed_put : (count : ℕ) (numbers : List ℕ) (n : ℕ) → n < count → listed_marks count (insert_key nat_eq numbers n) ≡ set (listed_marks count numbers) n true
listed_put count numbers n there = by_case (list_any (nat_eq n) numbers) refl
  where
    by_case : (found : Bool) → list_any (nat_eq n) numbers ≡ found → listed_marks count (cond found numbers (numbers ++ n ∷ [])) ≡ set (listed_marks count numbers) n true
    by_case true e = listed_again count numbers n there e
    by_case false e = listed_more count numbers n there

pub below_put : (count : ℕ) (numbers : List ℕ) (n : ℕ) → n < count → All (λ k. k < count) numbers → All (λ k. k < count) (insert_key nat_eq numbers n)
below_put count numbers n there all = by_case (list_any (nat_eq n) numbers)
  where
    by_case : (found : Bool) → All (λ k. k < count) (cond found numbers (numbers ++ n ∷ []))
    by_case true = all
    by_case false = All-push (λ k. k < count) numbers n all there

-- where a number isn't marked, a mark that a test decides on is the test's answer written there
pub marked_where : (marks : List Bool) (n : ℕ) (is_so : Bool) → slice_index_or marks n false ≡ false → (if is_so then set marks n true else marks) ≡ set marks n is_so
marked_where marks n true unmarked = refl
marked_where marks n false unmarked = sym (ap (set marks n) (sym unmarked) ∙ set-get_or marks n false)
