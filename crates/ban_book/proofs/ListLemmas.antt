-- Lists that grow at their end.
use Rattle.std.proofs.Common.{◌≡◌, ℕ, ◌+◌, ◌<◌, List, [], ◌∷◌, ◌++◌, length, take, get_or, sym, ap, ◌∙◌, subst}
use Rattle.std.specs.List.{AllZip, flat_map}
use Rattle.std.proofs.lemmas.List.{flat_map_more, take_more}
use Rattle.std.proofs.lemmas.Slice.Zip.{all_zipped_more}

pub zip_map : {A B : Type 0} (R S : A → B → Type 0) (xs : List A) (ys : List B) → ((x : A) (y : B) → R x y → S x y) → AllZip R xs ys → AllZip S xs ys
zip_map R S [] [] then are = tt
zip_map R S [] (y ∷ ys) then are = absurd are
zip_map R S (x ∷ xs) [] then are = absurd are
zip_map R S (x ∷ xs) (y ∷ ys) then are = (then x y are.0, zip_map R S xs ys then are.1)

-- what the first elements give after others, and one more
pub flat_more : {A B : Type 0} (f : A → List B) (xs : List A) (index : ℕ) (d : A) (before now after : List B) → index < length xs → now ≡ before ++ flat_map f (take index xs) → after ≡ now ++ f (get_or xs index d) → after ≡ before ++ flat_map f (take (index + 1) xs)
flat_more f xs index d before now after below is more =
    more
    ∙ (ap (λ l. l ++ f (get_or xs index d)) is
    ∙ (flat_map_more f before (take index xs) (get_or xs index d)
    ∙ ap (λ l. before ++ flat_map f l) (sym (take_more xs index d below))))

-- .. after none
pub flat_taken : {A B : Type 0} (f : A → List B) (xs : List A) (index : ℕ) (d : A) (before after : List B) → index < length xs → before ≡ flat_map f (take index xs) → after ≡ before ++ f (get_or xs index d) → after ≡ flat_map f (take (index + 1) xs)
flat_taken f xs index d before after below is more = flat_more f xs index d [] before after below is more

-- one more of two lists that go together
pub zip_taken : {A B : Type 0} (R : A → B → Type 0) (xs : List A) (index : ℕ) (d : A) (ys : List B) (y : B) → index < length xs → AllZip R (take index xs) ys → R (get_or xs index d) y → AllZip R (take (index + 1) xs) (ys ++ y ∷ [])
zip_taken R xs index d ys y below are here =
    subst (λ l. AllZip R l (ys ++ y ∷ [])) (sym (take_more xs index d below)) (all_zipped_more R (take index xs) ys (get_or xs index d) y are here)
