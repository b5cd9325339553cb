-- Bans that are within some pairs are within more.
use Rattle.std.proofs.Common.{ℕ, List, [], ◌∷◌, All, Contains, Result, Option, None, Some}
use Rattle.std.specs.Prelude.{IfOk, IfSome}
use Rattle.std.proofs.lemmas.Result.{IfOk-weaker}
use Rattle.std.proofs.lemmas.List.Elements.{All-cons, All-nil}
use Rattle.cnf_core.specs.declared.stop.Stop.{Stop}
use Rattle.circuits.specs.declared.port.Pair.{Pair}
use Rattle.account_core.specs.declared.step.Ban.{Ban}
use Rattle.ban_book.specs.Covering.{Covers}
use Rattle.ban_book.proofs.BookLemmas.{covers_wider}

pub one_among : (pair : Pair) (more : List Pair) → Contains more pair → All (Contains more) (pair ∷ [])
one_among pair more is = All-cons (Contains more) pair [] is (All-nil (Contains more))

pub two_among : (one other : Pair) (more : List Pair) → Contains more one → Contains more other → All (Contains more) (one ∷ other ∷ [])
two_among one other more is are = All-cons (Contains more) one (other ∷ []) is (one_among other more are)

pub three_among : (one other third : Pair) (more : List Pair) → Contains more one → Contains more other → Contains more third → All (Contains more) (one ∷ other ∷ third ∷ [])
three_among one other third more is are too = All-cons (Contains more) one (other ∷ third ∷ []) is (two_among other third more are too)

some_wider : (bans : List Ban) (few more : List Pair) (found : Option ℕ) → All (Contains more) few → IfSome found (Covers bans few) → IfSome found (Covers bans more)
some_wider bans few more None among is = is
some_wider bans few more (Some number) among is = covers_wider bans few more number among is

pub all_wider : (bans : List Ban) (few more : List Pair) (result : Result (Option ℕ) Stop) → All (Contains more) few → IfOk result (λ found. IfSome found (Covers bans few)) → IfOk result (λ found. IfSome found (Covers bans more))
all_wider bans few more result among is =
    IfOk-weaker result (λ found. IfSome found (Covers bans few)) (λ found. IfSome found (Covers bans more)) (λ found. some_wider bans few more found among) is
