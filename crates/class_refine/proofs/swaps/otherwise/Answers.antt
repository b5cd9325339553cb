use Rattle.std.proofs.Common.{◌≡◌, ◌<◌, ℕ, Option, length, map, sym, subst, ◌∙◌, arith}
use Rattle.std.specs.Prelude.{IfNone}
use Rattle.std.proofs.lemmas.List.{length-map}
use Rattle.account_core.specs.Given.{decided_by}
use Rattle.claim_core.specs.declared.claims.Claim.{Claim}
use Rattle.ban_book.specs.declared.input_claims.DecidedClaim.{DecidedClaim}
use Rattle.ban_book.specs.DecidedClaims.{IsDecidedAs}
use Rattle.class_refine.specs.Swaps.{SaysOf}
use Rattle.class_refine.proofs.SwapIndexLemmas.{found_in, says_none, says_one}
use Rattle.class_refine.proofs.swaps.otherwise.Goals as goal

pub returns-in_err-number-clause-none : goal.returns-in_err-number-clause-none
returns-in_err-number-clause-none c =
    let facts = map decided_by c.args.facts.now in
    let none = says_none facts c.args.swaps.now.entries c.args.claim c.args.holds c.requires.index c.requires.two (sym c.number_of.ensures ∙ c.in_err-number.was) in
    subst (λ (r : Option DecidedClaim). IfNone r ((k : ℕ) → k < length c.args.facts.now → SaysOf facts c.args.claim c.args.holds k)) (sym c.from_residual.ensures) (λ k below. none k (omega (arith, below, length-map c.args.facts.now decided_by)))

pub decided_at-fact-requires : goal.decided_at-fact-requires
decided_at-fact-requires c =
    let of = found_in (map decided_by c.args.facts.now) c.args.swaps.now.entries c.args.claim c.in_ok-number.number c.requires.index (sym c.number_of.ensures ∙ c.in_ok-number.was) in
    record { below = omega (arith, of.0, length-map c.args.facts.now decided_by) }

pub returns-then-fact-holds-clause-none : goal.returns-then-fact-holds-clause-none
returns-then-fact-holds-clause-none c =
    let facts = map decided_by c.args.facts.now in
    let of = found_in facts c.args.swaps.now.entries c.args.claim c.in_ok-number.number c.requires.index (sym c.number_of.ensures ∙ c.in_ok-number.was) in
    let fact = subst (λ (claim : Claim). IsDecidedAs facts claim c.decided_at-fact.result.holds c.decided_at-fact.result.number) of.1 c.decided_at-fact.ensures.decided in
    let says : c.decided_at-fact.result.holds ≡ c.args.holds = grind arith in
    λ k below. says_one facts c.args.claim c.args.holds c.decided_at-fact.result.holds c.decided_at-fact.result.number c.requires.distinct fact says k (omega (arith, below, length-map c.args.facts.now decided_by))

pub returns-clause-found : goal.returns-clause-found
returns-clause-found c =
    let facts = map decided_by c.args.facts.now in
    let of = found_in facts c.args.swaps.now.entries c.args.claim c.in_ok-number.number c.requires.index (sym c.number_of.ensures ∙ c.in_ok-number.was) in
    subst (λ (claim : Claim). IsDecidedAs facts claim c.decided_at-fact.result.holds c.decided_at-fact.result.number) of.1 c.decided_at-fact.ensures.decided
