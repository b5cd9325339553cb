-- Tests in their order, of which the first that isn't passed says what is wrong.
use Rattle.std.specs.Prelude.{◌≡◌, ◌⊎◌, Option, None, Some}
use Rattle.account_check.specs.declared.reject.Reject.{Reject}

-- all tests are passed
abbrev pub Passed : Option Reject → Type 0
Passed fault = fault ≡ None

-- a test: what doesn't pass it has this fault, and what passes it has the fault that the tests after it find
abbrev pub Unless : Type 0 → Reject → (Option Reject → Type 0) → Option Reject → Type 0
Unless Test reject Rest fault = ((Test → ⊥) × (fault ≡ Some reject)) ⊎ (Test × Rest fault)
