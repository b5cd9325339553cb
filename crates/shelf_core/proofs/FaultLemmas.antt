-- Counts of failures over several calls.
use Rattle.std.proofs.Common.{◌≡◌, ℕ, ◌+◌, Result, Ok, Err, OnOk, subst, arith}
use Rattle.shelf_core.specs.Fault.{NoCallFollows, Rose}
use Rattle.shelf_core.specs.State.{ShelfState}

-- a count that rose after calls that didn't fail
pub rose_after : (a b c : ℕ) → b ≡ a → Rose b c → Rose a c
rose_after a b c same rose = subst (λ n. Rose n c) same rose

-- no call failed
pub none_failed : (old new : ShelfState) → new.faults ≡ old.faults → NoCallFollows old new
none_failed old new same = omega (arith, same)

-- there was one call
pub one_call : (old new : ShelfState) → new.faults ≡ old.faults + new.latest → NoCallFollows old new
one_call old new counted = omega (arith, counted)

-- calls that didn't fail came before
pub none_before : (old middle new : ShelfState) → middle.faults ≡ old.faults → NoCallFollows middle new → NoCallFollows old new
none_before old middle new same later = omega (arith, same, later)

-- what is so whatever the answer is
pub if_ok : {T E P : Type 0} (result : Result T E) → P → OnOk result P
if_ok (Ok value) p = p
if_ok (Err stop) p = tt
