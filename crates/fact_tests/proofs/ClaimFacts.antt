-- What claims that hold or fail say of an output.
use Rattle.std.proofs.Common.{◌≡◌, ℕ, ◌<◌, Bool, true, false, not, List, get_or, refl, sym, subst, ap, ◌∙◌, inl, inr}
use Rattle.std.proofs.lemmas.Bool.{false≢true}
use Rattle.std.specs.Bool.{Decides}
use Rattle.circuits.specs.Netlists.{Net}
use Rattle.net_core.specs.Sides.{Graphs}
use Rattle.claim_core.specs.declared.claims.Claim.{Claim}
use Rattle.claim_core.specs.declared.claims.Shape.{Shape}
use Rattle.claim_core.specs.declared.claims.Shape.TheVariants.{Up, Down}
use Rattle.cnf_core.proofs.DerivationLaws.{refuted_unmet}
use Rattle.net_core.specs.Graph.{IsGraph}
use Rattle.net_core.specs.Sides.{graph_of}
use Rattle.account_core.specs.declared.fact.Evidence.{Evidence}
use Rattle.account_core.specs.declared.fact.Evidence.TheVariants.{Fails, Holds as HoldsBy}
use Rattle.account_core.specs.declared.fact.Fact.{Fact}
use Rattle.account_core.specs.Facts.{AreFacts, IsEvidence, IsFact}
use Rattle.account_core.specs.Given.{decided_by, shown_by}
use Rattle.oracle_core.specs.Oracles.{IsNumberOf}
use Rattle.claim_core.specs.ClaimQueries.{claim_query}
use Rattle.claim_core.specs.Claims.{output_bit, Holds, IsClaim, IsPlaced, ShapeHolds, ShapeFails}
use Rattle.claim_core.specs.Formulas.{formula_of}
use Rattle.claim_core.specs.Queries.{IsQuery, IsUnmet}
use Rattle.claim_core.proofs.AssignmentLemmas.{assignment_there}
use Rattle.claim_core.proofs.ClaimQueryLemmas.{claim_query_fits, holds-unmet}
use Rattle.claim_core.proofs.ClaimLaws.{no_break, inside-fails, holds_or_fails, symmetric-swaps, skew-swaps}
use Rattle.fact_tests.specs.Outputs.{IsAlike, IsDependence, dependence, half_swap}
use Rattle.claim_core.specs.Facts.{InSupport}

-- an input is outside the support where both claims hold, and inside where one of them doesn't
outside : (net : Net) (k i : ℕ) → i < net.inputs → ShapeHolds net k (Up i) → ShapeHolds net k (Down i) → InSupport net.inputs (output_bit net k) i → ⊥
outside net k i there up down inside =
    elim ((inside-fails net k i there).0 inside) [
      | inl fails ↦ no_break net k (Up i) up fails
      | inr fails ↦ no_break net k (Down i) down fails
    ]

failing : (net : Net) (k : ℕ) (shape : Shape) → IsPlaced net.inputs shape → (ShapeHolds net k shape → ⊥) → ShapeFails net k shape
failing net k shape placed never = elim (holds_or_fails net k shape placed) [ inl holds ↦ absurd (never holds) | inr fails ↦ fails ]

-- what isn't answered true is false
not_decided : {P : Type 0} → Decides false P → P → ⊥
not_decided decides p = false≢true (decides.1 p)

pub dependence_is : (net : Net) (k i : ℕ) (never_falls never_rises : Bool) → i < net.inputs
    → Decides never_falls (ShapeHolds net k (Up i))
    → Decides never_rises (ShapeHolds net k (Down i))
    → IsDependence net.inputs (output_bit net k) i (dependence never_falls never_rises)
dependence_is net k i true true there up down = outside net k i there (up.0 refl) (down.0 refl)
dependence_is net k i true false there up down =
    ((inside-fails net k i there).1 (inr (failing net k (Down i) there (not_decided down))), up.0 refl)
dependence_is net k i false true there up down =
    ((inside-fails net k i there).1 (inl (failing net k (Up i) there (not_decided up))), down.0 refl)
dependence_is net k i false false there up down =
    ((inside-fails net k i there).1 (inl (failing net k (Up i) there (not_decided up))), (not_decided up, not_decided down))

-- two inputs may be exchanged where both swaps hold
alike_both : (net : Net) (k i j : ℕ) (inverted from : Bool)
    → ShapeHolds net k (half_swap i j inverted from)
    → ShapeHolds net k (half_swap i j inverted (not from))
    → IsAlike net.inputs (output_bit net k) i j inverted
alike_both net k i j false false one other = (symmetric-swaps net k i j).1 (one, other)
alike_both net k i j false true one other = (symmetric-swaps net k i j).1 (other, one)
alike_both net k i j true false one other = (skew-swaps net k i j).1 (one, other)
alike_both net k i j true true one other = (skew-swaps net k i j).1 (other, one)

-- and only there
alike_half : (net : Net) (k i j : ℕ) (inverted from : Bool) → IsAlike net.inputs (output_bit net k) i j inverted → ShapeHolds net k (half_swap i j inverted from)
alike_half net k i j false false alike = ((symmetric-swaps net k i j).0 alike).0
alike_half net k i j false true alike = ((symmetric-swaps net k i j).0 alike).1
alike_half net k i j true false alike = ((skew-swaps net k i j).0 alike).0
alike_half net k i j true true alike = ((skew-swaps net k i j).0 alike).1

-- where one of them holds, the other decides
pub alike_then : (net : Net) (k i j : ℕ) (inverted from second : Bool) (one other : Shape)
    → one ≡ half_swap i j inverted from
    → other ≡ half_swap i j inverted (not from)
    → ShapeHolds net k one
    → Decides second (ShapeHolds net k other)
    → Decides second (IsAlike net.inputs (output_bit net k) i j inverted)
alike_then net k i j inverted from second one other is also holds decides = (
  λ so. alike_both net k i j inverted from (subst (ShapeHolds net k) is holds) (subst (ShapeHolds net k) also (decides.0 so)),
  λ alike. decides.1 (subst (ShapeHolds net k) (sym also) (alike_half net k i j inverted (not from) alike)),
)

-- and they may not where one of them doesn't
pub alike_never : (net : Net) (k i j : ℕ) (inverted from : Bool) (one : Shape)
    → one ≡ half_swap i j inverted from
    → (ShapeHolds net k one → ⊥)
    → Decides false (IsAlike net.inputs (output_bit net k) i j inverted)
alike_never net k i j inverted from one is never =
    (λ so. absurd (false≢true so), λ alike. absurd (never (subst (ShapeHolds net k) (sym is) (alike_half net k i j inverted from alike))))

-- what a fact's evidence says of its claim
pub told_by : (graphs : Graphs) (claim : Claim) (evidence : Evidence) → IsGraph graphs.first → IsGraph graphs.second → IsClaim graphs claim
    → IsEvidence graphs claim evidence
    → Decides (shown_by claim evidence).holds (Holds graphs claim)
told_by graphs claim (Fails vector) first second placed breaks =
    (λ is. absurd (false≢true is), λ holds. absurd (no_break (graph_of graphs claim.side) claim.output claim.shape holds (vector, breaks)))
told_by graphs claim (HoldsBy log) first second placed refutes =
    (λ is. (holds-unmet graphs claim).1 (unmet (claim_query_fits graphs claim placed)), λ holds. refl)
  where
    unmet : IsQuery graphs (claim_query graphs claim) → IsUnmet graphs (claim_query graphs claim)
    unmet fits x same meets =
        let there = assignment_there graphs (claim_query graphs claim) x first second fits same meets in
        refuted_unmet (formula_of graphs (claim_query graphs claim)) log.lines there.0 refutes there.1

-- what the fact of a number says of its claim
pub told : (graphs : Graphs) (facts : List Fact) (claim : Claim) (number : ℕ) (fact : Fact) → IsGraph graphs.first → IsGraph graphs.second
    → AreFacts graphs facts
    → IsNumberOf facts claim number
    → fact ≡ get_or facts number fact
    → Decides (decided_by fact).holds (Holds graphs claim)
told graphs facts claim number fact first second lawful is same =
    let here : IsFact graphs fact = subst (IsFact graphs) (sym same) (lawful.each number fact is.within) in
    let of : fact.claim ≡ claim = ap (λ (fact : Fact). fact.claim) same ∙ is.claim_is fact in
    subst (λ claim. Decides (decided_by fact).holds (Holds graphs claim)) of (told_by graphs fact.claim fact.evidence first second here.placed here.evidence)
