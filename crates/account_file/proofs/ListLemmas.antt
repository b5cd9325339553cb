-- The words of a list, written one after the other.
use Rattle.std.proofs.Common.{◌≡◌, ℕ, ◌+◌, ◌<◌, ◌≤◌, List, [], ◌∷◌, ◌++◌, length, map, take, All, slice_index_or, sym, ap, subst, ◌∙◌, append_assoc, append-nil}
use Rattle.std.proofs.lemmas.List.{map-append, take_all, take_more}
use Rattle.std.proofs.lemmas.List.Elements.{All-push}
use Rattle.std.proofs.lemmas.Grind.{flat_map-append}
use Rattle.account_file.specs.Spelling.{spaced}

-- The words of the first elements of a list were written, and each of these is in its range.
pub record Written {X : Type 0} (word : X → List ℕ) (Fits : X → Type 0) (xs : List X) (count : ℕ) (start now : List ℕ) : Type 0 where
  pub text : now ≡ start ++ spaced (map word (take count xs))
  pub fit : All Fits (take count xs)

spaced_more : (words : List (List ℕ)) (word : List ℕ) → spaced (words ++ word ∷ []) ≡ spaced words ++ 32 ∷ word
spaced_more words word =
    flat_map-append (λ (w : List ℕ). 32 ∷ w) words (word ∷ []) ∙ ap (λ l. spaced words ++ l) (append-nil (32 ∷ word))

-- the next word
pub written_next : {X : Type 0} (word : X → List ℕ) (Fits : X → Type 0) (xs : List X) (i : ℕ) (d : X) (start now next : List ℕ) → i < length xs → Written word Fits xs i start now
    → next ≡ now ++ 32 ∷ word (slice_index_or xs i d) → Fits (slice_index_or xs i d) → Written word Fits xs (i + 1) start next
written_next {X} word Fits xs i d start now next below so_far is fits =
    let x = slice_index_or xs i d in
    let done = take i xs in
    let words = map word done in
    let more : take (i + 1) xs ≡ done ++ x ∷ [] = take_more xs i d below in
    let all : spaced (map word (take (i + 1) xs)) ≡ spaced words ++ 32 ∷ word x =
    ap (λ l. spaced (map word l)) more ∙ (ap spaced (map-append word done (x ∷ [])) ∙ spaced_more words (word x)) in record {
      text = is ∙ (ap (λ l. l ++ 32 ∷ word x) so_far.text ∙ (append_assoc start (spaced words) (32 ∷ word x) ∙ ap (λ l. start ++ l) (sym all)));
      fit = subst (All Fits) (sym more) (All-push Fits done x so_far.fit fits);
    }

-- all words
pub written_all : {X : Type 0} (word : X → List ℕ) (Fits : X → Type 0) (xs : List X) (i : ℕ) (start now : List ℕ) → length xs ≤ i → Written word Fits xs i start now → now ≡ start ++ spaced (map word xs)
written_all {X} word Fits xs i start now whole so_far =
    so_far.text ∙ ap (λ l. start ++ spaced (map word l)) (take_all i xs whole)

pub fit_all : {X : Type 0} (word : X → List ℕ) (Fits : X → Type 0) (xs : List X) (i : ℕ) (start now : List ℕ) → length xs ≤ i → Written word Fits xs i start now → All Fits xs
fit_all {X} word Fits xs i start now whole so_far = subst (All Fits) (take_all i xs whole) so_far.fit
