-- What is in lists that were made of lists.
use Rattle.std.proofs.Common.{◌≡◌, ℕ, zero, suc, ◌<◌, List, [], ◌∷◌, length, get_or, refl, sym, subst, arith}
use Rattle.std.specs.Prelude.{Contains}
use Rattle.std.specs.List.{AllZip, flat_map}
use Rattle.std.proofs.lemmas.List.Elements.{Contains-append_left, Contains-append_right}

-- an element of the first of two lists that go together has its partner in the second
zipped_at : {A B : Type 0} (R : A → B → Type 0) (xs : List A) (ys : List B) (x : A) (k : ℕ) → AllZip R xs ys → k < length xs → get_or xs k x ≡ x → (y : B) × Contains ys y × R x y
zipped_at R [] ys x k zip below is = absurd (omega arith)
zipped_at R (a ∷ xs) [] x k zip below is = absurd zip
zipped_at R (a ∷ xs) (b ∷ ys) x zero zip below is = (b, (0, omega arith, refl), subst (λ a. R a b) is zip.0)
zipped_at R (a ∷ xs) (b ∷ ys) x (suc k) zip below is =
    let later = zipped_at R xs ys x k zip.1 (omega arith) is in
    (later.0, (suc later.1.0, omega (arith, later.1.1), later.1.2), later.2)

pub zipped : {A B : Type 0} (R : A → B → Type 0) (xs : List A) (ys : List B) (x : A) → AllZip R xs ys → Contains xs x → (y : B) × Contains ys y × R x y
zipped R xs ys x zip held = zipped_at R xs ys x held.0 zip held.1 held.2

-- what an element gives is in the list of all that the elements give
given_at : {A B : Type 0} (h : A → List B) (xs : List A) (x : A) (y : B) (k : ℕ) → k < length xs → get_or xs k x ≡ x → Contains (h x) y → Contains (flat_map h xs) y
given_at h [] x y k below is held = absurd (omega arith)
given_at h (a ∷ xs) x y zero below is held =
    Contains-append_left (h a) (flat_map h xs) y (subst (λ a. Contains (h a) y) (sym is) held)
given_at h (a ∷ xs) x y (suc k) below is held =
    Contains-append_right (h a) (flat_map h xs) y (given_at h xs x y k (omega arith) is held)

pub given_by : {A B : Type 0} (h : A → List B) (xs : List A) (x : A) (y : B) → Contains xs x → Contains (h x) y → Contains (flat_map h xs) y
given_by h xs x y at held = given_at h xs x y at.0 at.1 at.2 held
