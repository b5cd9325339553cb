-- What follows of what a call may have found.
use Rattle.std.proofs.Common.{Option, None, Some, Result, Ok, Err}
use Rattle.std.specs.Prelude.{IfNone, IfOk, IfSome}

pub none_so : {X E : Type 0} (result : Result (Option X) E) (P Q : Type 0) → (P → Q) → IfOk result (λ found. IfNone found P) → IfOk result (λ found. IfNone found Q)
none_so (Ok None) P Q then is = then is
none_so (Ok (Some x)) P Q then is = is
none_so (Err e) P Q then is = is

pub some_so : {X E : Type 0} (result : Result (Option X) E) (P Q : X → Type 0) → ((x : X) → P x → Q x) → IfOk result (λ found. IfSome found P) → IfOk result (λ found. IfSome found Q)
some_so (Ok None) P Q then is = is
some_so (Ok (Some x)) P Q then is = then x is
some_so (Err e) P Q then is = is

pub both_none : {X E : Type 0} (result : Result (Option X) E) (P Q R : Type 0) → (P → Q → R) → IfOk result (λ found. IfNone found P) → IfOk result (λ found. IfNone found Q) → IfOk result (λ found. IfNone found R)
both_none (Ok None) P Q R then one other = then one other
both_none (Ok (Some x)) P Q R then one other = one
both_none (Err e) P Q R then one other = one
