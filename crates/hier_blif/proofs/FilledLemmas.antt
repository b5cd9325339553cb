-- Tables of names that are filled word by word.
use Rattle.std.proofs.Common.{◌≡◌, ℕ, ◌+◌, ◌<◌, ◌≤◌, ◌||◌, Bool, true, false, cond, List, [], ◌∷◌, ◌++◌, length, get_or, take, Contains, Option, None, Some, refl, ap, sym, subst, ◌∙◌, append-nil, arith}
use Rattle.std.specs.Prelude.{is_some, filter, option_map}
use Rattle.std.specs.Option.{option_or}
use Rattle.std.specs.List.{find, list_any}
use Rattle.std.specs.Str.{bytes_eq}
use Rattle.std.proofs.lemmas.List.{take_all}
use Rattle.std.proofs.lemmas.List.Elements.{filter-append}
use Rattle.std.proofs.lemmas.List.Folds.{find-append}
use Rattle.text_core.specs.Piece.{Piece}
use Rattle.circuits.proofs.Lists.{contains_cons}
use Rattle.hier_blif.specs.Scopes.{number_of, with_number}
use Rattle.hier_blif.specs.Drivers.{IsFilled}
use Rattle.hier_blif.proofs.ElementLemmas.{some_same}
use Rattle.hier_blif.proofs.LookUpLemmas.{or_none, with_by}
use Rattle.hier_blif.proofs.PushLemmas.{next_taken}

-- what is found first
pub find_told : {X : Type 0} (p : X → Bool) (xs : List X) → is_some (find p xs) ≡ list_any p xs
find_told p [] = refl
find_told p (x ∷ xs) = by_test (p x) x (find p xs) (list_any p xs) (find_told p xs)
  where
    by_test : {X : Type 0} (t : Bool) (x : X) (o : Option X) (b : Bool) → is_some o ≡ b → is_some (cond t (Some x) o) ≡ (t || b)
    by_test true x o b h = refl
    by_test false x o b h = h

abbrev pub IsFound : {X : Type 0} → (X → Bool) → List X → X → Type 0
IsFound p xs x = Contains xs x × (p x ≡ true)

found_by : {X : Type 0} (t : Bool) (p : X → Bool) (y : X) (xs : List X) (x : X) → p y ≡ t → cond t (Some y) (find p xs) ≡ Some x → (find p xs ≡ Some x → IsFound p xs x) → IsFound p (y ∷ xs) x
found_by {X} true p y xs x e h rest =
    let same : y ≡ x = some_same y x h in
    ((0, omega arith, same), ap p (sym same) ∙ e)
found_by false p y xs x e h rest = let on = rest h in (contains_cons xs y x on.0, on.1)

pub find_found : {X : Type 0} (p : X → Bool) (xs : List X) (x : X) → find p xs ≡ Some x → IsFound p xs x
find_found p [] x h = absurd (cc h)
find_found p (y ∷ xs) x h = found_by (p y) p y xs x refl h (find_found p xs x)

-- one word more
more_found : (number : Piece → ℕ) (begun : Option ℕ) (o : Option Piece) (t : Bool) (word : Piece) → option_or (option_or begun (option_map number o)) (cond t (Some (number word)) None) ≡ option_or begun (option_map number (option_or o (cond t (Some word) None)))
more_found number (Some n) o t word = refl
more_found number None (Some w) t word = refl
more_found number None None true word = refl
more_found number None None false word = refl

filled_push : (t : Bool) (test : Piece → Bool) (key : Piece → List ℕ) (number : Piece → ℕ) (begun : List (List ℕ × ℕ)) (words : List Piece) (word : Piece) (old new : List (List ℕ × ℕ)) → test word ≡ t → new ≡ cond t (with_number old (key word) (number word)) old → IsFilled test key number begun words old → IsFilled test key number begun (words ++ word ∷ []) new
filled_push true test key number begun words word old new e adds filled name =
    let q = λ (w : Piece). bytes_eq name (key w) in
    let more : filter test (words ++ word ∷ []) ≡ filter test words ++ word ∷ [] = filter-append test words (word ∷ []) ∙ ap (λ t. filter test words ++ cond t (word ∷ []) []) e in
    ap (λ ns. number_of ns name) adds
    ∙ (with_by (is_some (number_of old (key word))) old (key word) (number word) name refl
    ∙ (ap (λ o. option_or o (cond (q word) (Some (number word)) None)) (filled name)
    ∙ (more_found number (number_of begun name) (find q (filter test words)) (q word) word
    ∙ ap (λ o. option_or (number_of begun name) (option_map number o)) (sym (find-append q (filter test words) (word ∷ [])) ∙ ap (find q) (sym more)))))
filled_push false test key number begun words word old new e adds filled name =
    let q = λ (w : Piece). bytes_eq name (key w) in
    let same : filter test (words ++ word ∷ []) ≡ filter test words = filter-append test words (word ∷ []) ∙ (ap (λ t. filter test words ++ cond t (word ∷ []) []) e ∙ append-nil (filter test words)) in
    ap (λ ns. number_of ns name) adds
    ∙ (filled name ∙ ap (λ ws. option_or (number_of begun name) (option_map number (find q ws))) (sym same))

pub filled_more : (test : Piece → Bool) (key : Piece → List ℕ) (number : Piece → ℕ) (begun : List (List ℕ × ℕ)) (words : List Piece) (k : ℕ) (word : Piece) (old new : List (List ℕ × ℕ)) → k < length words → word ≡ get_or words k word → new ≡ cond (test word) (with_number old (key word) (number word)) old → IsFilled test key number begun (take k words) old → IsFilled test key number begun (take (k + 1) words) new
filled_more test key number begun words k word old new below is adds filled =
    subst (λ ws. IsFilled test key number begun ws new) (next_taken words k word below is) (filled_push (test word) test key number begun (take k words) word old new refl adds filled)

pub filled_none : (test : Piece → Bool) (key : Piece → List ℕ) (number : Piece → ℕ) (begun : List (List ℕ × ℕ)) → IsFilled test key number begun [] begun
filled_none test key number begun name = or_none (number_of begun name)

pub filled_all : (test : Piece → Bool) (key : Piece → List ℕ) (number : Piece → ℕ) (begun : List (List ℕ × ℕ)) (words : List Piece) (k : ℕ) (now : List (List ℕ × ℕ)) → length words ≤ k → IsFilled test key number begun (take k words) now → IsFilled test key number begun words now
filled_all test key number begun words k now past filled =
    subst (λ ws. IsFilled test key number begun ws now) (take_all k words past) filled
