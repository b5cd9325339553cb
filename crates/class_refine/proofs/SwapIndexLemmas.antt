-- An index of facts by their claims.
use Rattle.std.proofs.Common.{◌≡◌, ◌≢◌, ℕ, ◌+◌, ◌<◌, Bool, true, false, List, [], length, AllPairs, None, Some, inl, inr, refl, sym, ap, subst, ◌∙◌, arith}
use Rattle.std.specs.Prelude.{IfSome, IsSome, if◌then◌else◌}
use Rattle.std.proofs.lemmas.Bool.{cases_order, false≢true}
use Rattle.claim_core.specs.declared.claims.Claim.{Claim}
use Rattle.claim_core.specs.contracts.claims.ClaimPartialEq.TheImpl.{eq-value as claim_eq}
use Rattle.claim_core.proofs.EqualLemmas.{claim_decides}
use Rattle.account_core.specs.Given.{Decided, fact_at, given_of}
use Rattle.ban_book.specs.DecidedClaims.{IsDecidedAs}
use Rattle.class_refine.specs.Stable.{HasTwoInputs}
use Rattle.class_refine.specs.Swaps.{IsIndexOfFirst, IsSwapIndex, SaysOf, number_in}
use borrow.Author.Count.{below_more}

module _ (facts : List Decided) where
  abbrev claim_at : ℕ → Claim
  claim_at k = (fact_at (given_of facts []) k).claim

  abbrev pub IsOf : Claim → ℕ → Type 0
  IsOf claim number = (number < length facts) × (claim_at number ≡ claim)

  pub index_none : (entries : List (Claim × ℕ)) → entries ≡ [] → IsIndexOfFirst facts 0 entries
  index_none entries none = record {
    each = λ claim. subst (λ (es : List (Claim × ℕ)). IfSome (number_in es claim) (IsOf claim)) (sym none) tt;
    all = λ k below. absurd (omega (arith, below));
  }

  -- a fact more that isn't of two inputs
  pub index_kept : (n : ℕ) (entries : List (Claim × ℕ)) → (HasTwoInputs (claim_at n).shape → ⊥) → IsIndexOfFirst facts n entries → IsIndexOfFirst facts (n + 1) entries
  index_kept n entries one is = record {
    each = is.each;
    all = below_more (λ k. HasTwoInputs (claim_at k).shape → IsSome (number_in entries (claim_at k))) n is.all (λ two. absurd (one two));
  }

  module _ (n : ℕ) (claim : Claim) (before after : List (Claim × ℕ)) (puts : (other : Claim) → number_in after other ≡ (if claim_eq.it claim other then Some n else number_in before other)) where
    here : (other : Claim) → claim_eq.it claim other ≡ true → number_in after other ≡ Some n
    here other same = puts other ∙ ap (λ (b : Bool). if b then Some n else number_in before other) same

    there : (other : Claim) → claim_eq.it claim other ≡ false → number_in after other ≡ number_in before other
    there other differ = puts other ∙ ap (λ (b : Bool). if b then Some n else number_in before other) differ

    each_put : n < length facts → claim ≡ claim_at n → (other : Claim) → IfSome (number_in before other) (IsOf other) → IfSome (number_in after other) (IsOf other)
    each_put below is other was = by_test (claim_eq.it claim other) refl
      where
        by_test : (b : Bool) → claim_eq.it claim other ≡ b → IfSome (number_in after other) (IsOf other)
        by_test true same = subst (λ r. IfSome r (IsOf other)) (sym (here other same)) (below, sym is ∙ (claim_decides claim other).0 same)
        by_test false differ = subst (λ r. IfSome r (IsOf other)) (sym (there other differ)) was

    some_put : (other : Claim) → IsSome (number_in before other) → IsSome (number_in after other)
    some_put other was = by_test (claim_eq.it claim other) refl
      where
        by_test : (b : Bool) → claim_eq.it claim other ≡ b → IsSome (number_in after other)
        by_test true same = subst (λ r. IsSome r) (sym (here other same)) refl
        by_test false differ = subst (λ r. IsSome r) (sym (there other differ)) was

    -- a fact more that is of two inputs
    pub index_more : n < length facts → claim ≡ claim_at n → IsIndexOfFirst facts n before → IsIndexOfFirst facts (n + 1) after
    index_more below is index = record {
      each = λ other. each_put below is other (index.each other);
      all = below_more (λ k. HasTwoInputs (claim_at k).shape → IsSome (number_in after (claim_at k))) n (λ k less two. some_put (claim_at k) (index.all k less two)) (λ two. subst (λ (c : Claim). IsSome (number_in after c)) is (subst (λ r. IsSome r) (sym (here claim ((claim_decides claim claim).1 refl))) refl));
    }

  -- a claim of two inputs that no fact is of
  pub says_none : (entries : List (Claim × ℕ)) (claim : Claim) (holds : Bool) → IsSwapIndex facts entries → HasTwoInputs claim.shape → number_in entries claim ≡ None → (k : ℕ) → k < length facts → SaysOf facts claim holds k
  says_none entries claim holds index two none k below same =
      let some = subst (λ (c : Claim). IsSome (number_in entries c)) same (index.all k below (subst (λ (c : Claim). HasTwoInputs c.shape) (sym same) two)) in
      absurd (false≢true (subst (λ r. IsSome r) none some))

  pub found_in : (entries : List (Claim × ℕ)) (claim : Claim) (number : ℕ) → IsSwapIndex facts entries → number_in entries claim ≡ Some number → IsOf claim number
  found_in entries claim number index is = subst (λ r. IfSome r (IsOf claim)) is (index.each claim)

  -- one that a fact is of: no other one is
  pub says_one : (claim : Claim) (holds decided_holds : Bool) (number : ℕ) → AllPairs (λ (one other : Decided). one.claim ≢ other.claim) facts → IsDecidedAs facts claim decided_holds number → decided_holds ≡ holds → (k : ℕ) → k < length facts → SaysOf facts claim holds k
  says_one claim holds decided_holds number distinct decided_one says k below same =
      let of_claim : claim_at number ≡ claim = ap (λ (fact : Decided). fact.claim) decided_one.says in
      elim (cases_order k number) [
        | inl one ↦ subst (λ n. (fact_at (given_of facts []) n).holds ≡ holds) (sym one) (ap (λ (fact : Decided). fact.holds) decided_one.says ∙ says)
        | inr (inl less) ↦ absurd (distinct k number _ less decided_one.within (same ∙ sym of_claim))
        | inr (inr more) ↦ absurd (distinct number k _ more below (of_claim ∙ sym same))
      ]
