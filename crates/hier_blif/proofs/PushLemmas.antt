-- For `names`: lists that grow by what each element of another gives.
use Rattle.std.proofs.Common.{◌≡◌, ℕ, zero, suc, ◌+◌, ◌<◌, ◌≤◌, Bool, true, false, cond, List, [], ◌∷◌, ◌++◌, length, map, get_or, take, refl, ap, sym, subst, ◌∙◌, arith, append_assoc}
use Rattle.std.specs.Prelude.{filter}
use Rattle.std.specs.List.{AllZip, flat_map}
use Rattle.std.proofs.lemmas.List.{take_more, take_all, flat_map_more, map-append}

pub next_taken : {X : Type 0} (xs : List X) (k : ℕ) (x : X) → k < length xs → x ≡ get_or xs k x → take k xs ++ x ∷ [] ≡ take (k + 1) xs
next_taken xs k x below is = sym (take_more xs k x below ∙ ap (λ y. take k xs ++ y ∷ []) (sym is))

pub flat_more : {X Y : Type 0} (f : X → List Y) (begun : List Y) (xs : List X) (k : ℕ) (x : X) (old new : List Y) → k < length xs → x ≡ get_or xs k x → old ≡ begun ++ flat_map f (take k xs) → new ≡ old ++ f x → new ≡ begun ++ flat_map f (take (k + 1) xs)
flat_more f begun xs k x old new below is so_far adds =
    adds
    ∙ (ap (λ ys. ys ++ f x) so_far
    ∙ (flat_map_more f begun (take k xs) x ∙ ap (λ ys. begun ++ flat_map f ys) (next_taken xs k x below is)))

pub flat_all : {X Y : Type 0} (f : X → List Y) (begun : List Y) (xs : List X) (k : ℕ) (now : List Y) → length xs ≤ k → now ≡ begun ++ flat_map f (take k xs) → now ≡ begun ++ flat_map f xs
flat_all f begun xs k now past so_far = so_far ∙ ap (λ ys. begun ++ flat_map f ys) (take_all k xs past)

-- one element each
pub map_more : {X Y : Type 0} (f : X → Y) (begun : List Y) (xs : List X) (k : ℕ) (x : X) (old new : List Y) → k < length xs → x ≡ get_or xs k x → old ≡ begun ++ map f (take k xs) → new ≡ old ++ f x ∷ [] → new ≡ begun ++ map f (take (k + 1) xs)
map_more f begun xs k x old new below is so_far adds =
    adds
    ∙ (ap (λ ys. ys ++ f x ∷ []) so_far
    ∙ (append_assoc begun (map f (take k xs)) (f x ∷ [])
    ∙ ap (λ ys. begun ++ ys) (sym (map-append f (take k xs) (x ∷ [])) ∙ ap (map f) (next_taken xs k x below is))))

pub map_all : {X Y : Type 0} (f : X → Y) (begun : List Y) (xs : List X) (k : ℕ) (now : List Y) → length xs ≤ k → now ≡ begun ++ map f (take k xs) → now ≡ begun ++ map f xs
map_all f begun xs k now past so_far = so_far ∙ ap (λ ys. begun ++ map f ys) (take_all k xs past)

-- one each for those that pass
abbrev pub those : {X Y : Type 0} → (X → Y) → (X → Bool) → X → List Y
those f p x = cond (p x) (f x ∷ []) []

those_by : {X Y : Type 0} (t : Bool) (f : X → Y) (x : X) (kept : List X) (rest : List Y) → rest ≡ map f kept → cond t (f x ∷ []) [] ++ rest ≡ map f (cond t (x ∷ kept) kept)
those_by true f x kept rest h = ap (λ ys. f x ∷ ys) h
those_by false f x kept rest h = h

pub those_all : {X Y : Type 0} (f : X → Y) (p : X → Bool) (xs : List X) → flat_map (those f p) xs ≡ map f (filter p xs)
those_all f p [] = refl
those_all f p (x ∷ xs) = those_by (p x) f x (filter p xs) (flat_map (those f p) xs) (those_all f p xs)

pub those_end : {X Y : Type 0} (f : X → Y) (p : X → Bool) (begun : List Y) (xs : List X) (k : ℕ) (now : List Y) → length xs ≤ k → now ≡ begun ++ flat_map (those f p) (take k xs) → now ≡ begun ++ map f (filter p xs)
those_end f p begun xs k now past so_far =
    flat_all (those f p) begun xs k now past so_far ∙ ap (λ ys. begun ++ ys) (those_all f p xs)

-- elements of two lists that go together
zip_push : {A B : Type 0} (R : A → B → Type 0) (xs : List A) (ys : List B) (x : A) (y : B) → AllZip R xs ys → R x y → AllZip R (xs ++ x ∷ []) (ys ++ y ∷ [])
zip_push R [] [] x y all r = (r, tt)
zip_push R [] (b ∷ ys) x y all r = absurd all
zip_push R (a ∷ xs) [] x y all r = absurd all
zip_push R (a ∷ xs) (b ∷ ys) x y all r = (all.0, zip_push R xs ys x y all.1 r)

pub zip_more : {A B : Type 0} (R : A → B → Type 0) (xs : List A) (ys : List B) (k : ℕ) (x : A) (y : B) → k < length xs → x ≡ get_or xs k x → AllZip R (take k xs) ys → R x y → AllZip R (take (k + 1) xs) (ys ++ y ∷ [])
zip_more R xs ys k x y below is all r =
    subst (λ zs. AllZip R zs (ys ++ y ∷ [])) (next_taken xs k x below is) (zip_push R (take k xs) ys x y all r)

pub zip_all : {A B : Type 0} (R : A → B → Type 0) (xs : List A) (ys : List B) (k : ℕ) → length xs ≤ k → AllZip R (take k xs) ys → AllZip R xs ys
zip_all R xs ys k past all = subst (λ zs. AllZip R zs ys) (take_all k xs past) all

pub zip_length : {A B : Type 0} (R : A → B → Type 0) (xs : List A) (ys : List B) → AllZip R xs ys → length xs ≡ length ys
zip_length R [] [] all = refl
zip_length R [] (b ∷ ys) all = absurd all
zip_length R (a ∷ xs) [] all = absurd all
zip_length R (a ∷ xs) (b ∷ ys) all = ap (λ n. suc n) (zip_length R xs ys all.1)

pub zip_at : {A B : Type 0} (R : A → B → Type 0) (xs : List A) (ys : List B) (k : ℕ) (x : A) (y : B) → AllZip R xs ys → k < length xs → x ≡ get_or xs k x → y ≡ get_or ys k y → R x y
zip_at R [] ys k x y all below is_x is_y = absurd (omega (arith, below))
zip_at R (a ∷ xs) [] k x y all below is_x is_y = absurd all
zip_at R (a ∷ xs) (b ∷ ys) zero x y all below is_x is_y =
    subst (λ z. R z y) (sym is_x) (subst (R a) (sym is_y) all.0)
zip_at R (a ∷ xs) (b ∷ ys) (suc k) x y all below is_x is_y =
    zip_at R xs ys k x y all.1 (omega (arith, below)) is_x is_y
