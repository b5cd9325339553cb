-- What a test for an empty list says.
use Rattle.std.proofs.Common.{◌≡◌, ◌==◌, ◌<◌, Bool, true, false, cond, List, length, Some, None, refl, arith}
use Rattle.std.proofs.lemmas.Bool.Decides.{nat_tests}

pub empty_by_test : {X : Type 0} (xs : List X) → (length xs == 0) ≡ true → length xs ≡ 0
empty_by_test xs h = grind (arith, nat_tests)

pub filled_by_test : {X : Type 0} (xs : List X) → (length xs == 0) ≡ false → 0 < length xs
filled_by_test xs h = grind (arith, nat_tests)

-- an answer that is there unless a test holds
pub some_by_test : {X : Type 0} (t : Bool) (x y : X) → cond t None (Some x) ≡ Some y → (t ≡ false) × (x ≡ y)
some_by_test true x y h = cc h
some_by_test false x y h = (refl, cc h)

pub none_by_test : {X : Type 0} (t : Bool) (x : X) → cond t None (Some x) ≡ None → t ≡ true
none_by_test true x h = refl
none_by_test false x h = cc h
