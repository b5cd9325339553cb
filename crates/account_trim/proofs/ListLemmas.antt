-- What the elements of a list lead to, one after another.
use Rattle.std.proofs.Common.{◌≡◌, ℕ, ◌+◌, ◌<◌, ◌≤◌, List, [], ◌∷◌, ◌++◌, length, take, slice_index_or, append-nil, append_assoc, sym, ap, ◌∙◌}
use Rattle.std.specs.List.{flat_map}
use Rattle.std.proofs.lemmas.Grind.{flat_map-append}
use Rattle.std.proofs.lemmas.List.{take_all, take_more}

pub flat_none : {X Y : Type 0} (f : X → List Y) (start : List Y) → start ≡ start ++ flat_map f []
flat_none {X} {Y} f start = sym (append-nil start)

more_of : {X Y : Type 0} (f : X → List Y) (xs : List X) (i : ℕ) (d : X) → i < length xs → flat_map f (take (i + 1) xs) ≡ flat_map f (take i xs) ++ f (slice_index_or xs i d)
more_of {X} {Y} f xs i d below =
    let x = slice_index_or xs i d in
    ap (flat_map f) (take_more xs i d below)
    ∙ (flat_map-append f (take i xs) (x ∷ [])
    ∙ ap (λ l. flat_map f (take i xs) ++ l) (append-nil (f x)))

-- one element more
pub flat_next : {X Y : Type 0} (f : X → List Y) (xs : List X) (start : List Y) (i : ℕ) (d : X) (now new : List Y)
    → i < length xs
    → now ≡ start ++ flat_map f (take i xs)
    → new ≡ now ++ f (slice_index_or xs i d)
    → new ≡ start ++ flat_map f (take (i + 1) xs)
flat_next {X} {Y} f xs start i d now new below was is =
    let x = slice_index_or xs i d in
    is
    ∙ (ap (λ l. l ++ f x) was
    ∙ (append_assoc start (flat_map f (take i xs)) (f x)
    ∙ ap (λ l. start ++ l) (sym (more_of f xs i d below))))

-- all of them
pub flat_all : {X Y : Type 0} (f : X → List Y) (xs : List X) (start : List Y) (i : ℕ) (now : List Y)
    → length xs ≤ i
    → now ≡ start ++ flat_map f (take i xs)
    → now ≡ start ++ flat_map f xs
flat_all {X} {Y} f xs start i now whole was = was ∙ ap (λ l. start ++ flat_map f l) (take_all i xs whole)
