-- Marked ports, one after the other: they ascend, and are below a number.
use Rattle.std.proofs.Common.{◌≡◌, ℕ, ◌+◌, ◌<◌, List, [], ◌∷◌, ◌++◌, All, sym, subst, arith}
use Rattle.std.proofs.lemmas.List.Elements.{All-push}
use Rattle.std.proofs.lemmas.List.Quantifiers.{all_pairs_push}
use Rattle.account_core.specs.Tallies.{Ascend}

pub below_push : (numbers : List ℕ) (next : ℕ) → All (λ number. number < next) numbers → All (λ number. number < next + 1) (numbers ++ next ∷ [])
below_push numbers next below = All-push (λ number. number < next + 1) numbers next (λ k d within. omega (arith, below k d within)) (omega arith)

pub below_more : (numbers : List ℕ) (next : ℕ) → All (λ number. number < next) numbers → All (λ number. number < next + 1) numbers
below_more numbers next below k d within = omega (arith, below k d within)

-- numbers below one that comes after them ascend
pub ascends : (numbers after : List ℕ) (next : ℕ) → Ascend numbers → All (λ number. number < next) numbers → after ≡ numbers ++ next ∷ [] → Ascend after
ascends numbers after next ascend below is = subst Ascend (sym is) (all_pairs_push (λ one other. one < other) numbers next ascend below)

pub below : (numbers after : List ℕ) (next : ℕ) → All (λ number. number < next) numbers → after ≡ numbers ++ next ∷ [] → All (λ number. number < next + 1) after
below numbers after next less is = subst (All (λ number. number < next + 1)) (sym is) (below_push numbers next less)

pub marked_none : (numbers : List ℕ) → numbers ≡ [] → Ascend numbers × All (λ number. number < 0) numbers
marked_none numbers none = subst (λ l. Ascend l × All (λ number. number < 0) l) (sym none) (λ i j d less below. absurd (omega (arith, below)), λ k d below. absurd (omega (arith, below)))
