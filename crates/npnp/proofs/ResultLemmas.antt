-- Results that are errors.
use Rattle.std.proofs.Common.{◌≡◌, Result, Ok, Err, ap}
use Rattle.std.specs.Prelude.{IsErrAnd}

-- the error that a result is said to be
pub err_is : {X E : Type 0} (result : Result X E) {e : E} → IsErrAnd result (λ x. x ≡ e) → result ≡ Err e
err_is (Ok x) is = absurd is
err_is (Err x) is = ap Err is
