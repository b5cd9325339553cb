-- A mismatch's ban is valid by two facts of which one holds.
use Rattle.std.proofs.Common.{◌≡◌, ◌≢◌, ℕ, Bool, true, false, List, [], All, refl, sym, ap, subst, inl, inr}
use Rattle.std.specs.Bool.{beq}
use Rattle.circuits.specs.declared.port.Pair.{Pair}
use Rattle.net_core.specs.Sides.{Graphs}
use Rattle.claim_core.specs.declared.claims.Claim.{Claim}
use Rattle.account_core.specs.declared.step.Ban.{Ban}
use Rattle.account_core.specs.Given.{Decided, fact_at, given_of}
use Rattle.account_core.specs.Mismatches.{IsImage}
use Rattle.account_core.specs.Ports.{AreOrdered, IsKnown}
use Rattle.account_core.specs.Steps.{IsValidBan}
use Rattle.ban_book.specs.DecidedClaims.{IsDecidedAs}
use Rattle.ban_book.specs.Mismatched.{IsBanBy, mismatch_of, unlike_of}

-- two facts of which one holds, of a claim and its image under pairs
pub mismatch_valid : (graphs : Graphs) (facts : List Decided) (pairs : List Pair) (claim image : Claim) (one_holds other_holds : Bool) (one other : ℕ) → All (IsKnown graphs) pairs → AreOrdered pairs → IsImage pairs claim image → IsDecidedAs facts claim one_holds one → IsDecidedAs facts image other_holds other → one_holds ≢ other_holds → IsBanBy graphs facts pairs (mismatch_of pairs (unlike_of one_holds one other))
mismatch_valid graphs facts pairs claim image one_holds other_holds one other known ordered carried decided_one decided_other differ = record {
  pairs_are = refl;
  valid = λ bans. by_holds one_holds other_holds decided_one decided_other differ bans;
}
  where
    is_image : IsImage pairs (fact_at (given_of facts []) one).claim (fact_at (given_of facts []) other).claim
    is_image =
        subst (λ (c : Claim). IsImage pairs c (fact_at (given_of facts []) other).claim) (sym (ap (λ (f : Decided). f.claim) decided_one.says))
        (subst (IsImage pairs claim) (sym (ap (λ (f : Decided). f.claim) decided_other.says)) carried)

    by_holds : (p q : Bool) → IsDecidedAs facts claim p one → IsDecidedAs facts image q other → p ≢ q → (bans : List Ban) → IsValidBan graphs (given_of facts bans) (mismatch_of pairs (unlike_of p one other))
    by_holds true true t u d bans = absurd (d refl)
    by_holds false false t u d bans = absurd (d refl)
    by_holds true false t u d bans = record {
      known = known;
      ordered = ordered;
      names = (u.within, t.within);
      rule = record { one_fails = ap (λ (f : Decided). f.holds) u.says; other_holds = ap (λ (f : Decided). f.holds) t.says; image = inr is_image };
      shown = tt;
    }
    by_holds false true t u d bans = record {
      known = known;
      ordered = ordered;
      names = (t.within, u.within);
      rule = record { one_fails = ap (λ (f : Decided). f.holds) t.says; other_holds = ap (λ (f : Decided). f.holds) u.says; image = inl is_image };
      shown = tt;
    }

-- a test whether two truths are one that fails
pub unlike : (p q : Bool) → beq p q ≡ false → p ≢ q
unlike true true e same = cc
unlike false false e same = cc
unlike true false e same = cc
unlike false true e same = cc
