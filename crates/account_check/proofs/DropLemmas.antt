-- Marks of what was dropped: more of them at the end, and one of them set.
use Rattle.std.proofs.Common.{◌≡◌, ℕ, zero, suc, ◌≤◌, ◌<◌, Bool, true, false, List, [], ◌∷◌, ◌++◌, length, take, set, refl, ap, ◌∙◌, arith, length-append}
use Rattle.std.proofs.Math.Seq.{take-length}
use Rattle.std.proofs.lemmas.List.{take-append-le}
use Rattle.account_check.specs.Drops.{marked}

-- a number more that isn't marked
marked_longer : (marks : List Bool) (number : ℕ) → length marks ≤ number → marked (marks ++ false ∷ []) number ≡ marked marks number
marked_longer [] zero few = refl
marked_longer [] (suc number) few = refl
marked_longer (mark ∷ marks) zero few = absurd (omega (arith, few))
marked_longer (mark ∷ marks) (suc number) few = ap (λ l. mark ∷ l) (marked_longer marks number (omega (arith, few)))

-- a number that has a mark
pub marked_there : (marks : List Bool) (number : ℕ) → number < length marks → set marks number true ≡ marked marks number
marked_there [] number below = absurd (omega (arith, below))
marked_there (mark ∷ marks) zero below = refl
marked_there (mark ∷ marks) (suc number) below = ap (λ l. mark ∷ l) (marked_there marks number (omega (arith, below)))

-- Marks that were lengthened up to a number, or on the way there.
pub record IsLengthened (old now : List Bool) (number : ℕ) : Type 0 where
  pub count : length old ≤ length now
  pub before : take (length old) now ≡ old
  pub same : marked now number ≡ marked old number

pub not_lengthened : (old : List Bool) (number : ℕ) → IsLengthened old old number
not_lengthened old number = record { count = omega arith; before = take-length old; same = refl }

pub lengthened_more : (old now : List Bool) (number : ℕ) → IsLengthened old now number → length now ≤ number → IsLengthened old (now ++ false ∷ []) number
lengthened_more old now number is few = record {
  count = omega (arith, is.count, length-append now (false ∷ []));
  before = take-append-le (length old) now (false ∷ []) is.count ∙ is.before;
  same = marked_longer now number few ∙ is.same;
}
