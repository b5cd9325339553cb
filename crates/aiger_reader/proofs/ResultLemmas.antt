-- What the result of a call says of the same result with another error.
use Rattle.std.proofs.Common.{◌≡◌, Result, Ok, Err, IfErr, sym, subst}
use Rattle.std.specs.Result.{MatchResult, IsErrAnd}

-- s is r with an error that is made of r's
abbrev pub IsMapped : {T E D : Type 0} → Result T E → Result T D → (E → D → Type 0) → Type 0
IsMapped r s made = MatchResult r (λ x. s ≡ Ok x) (λ e. IsErrAnd s (made e))

pub ok_before : {T E D : Type 0} (r : Result T E) (s : Result T D) (made : E → D → Type 0) (x : T) → IsMapped r s made → s ≡ Ok x → r ≡ Ok x
ok_before (Ok y) s made x same is = cc
ok_before (Err e) (Ok y) made x same is = absurd same
ok_before (Err e) (Err d) made x same is = cc

pub err_made : {T E D : Type 0} (r : Result T E) (s : Result T D) (made : E → D → Type 0) (P : E → Type 0) (Q : D → Type 0) → IsMapped r s made → IfErr r P → ((e : E) (d : D) → made e d → P e → Q d) → IfErr s Q
err_made (Ok x) s made P Q same is turn = subst (λ t. IfErr t Q) (sym same) tt
err_made (Err e) (Ok y) made P Q same is turn = absurd same
err_made (Err e) (Err d) made P Q same is turn = turn e d same is
