-- Each query of a claim or of a matching has a number of its own: first those of claims, then those of matchings.
use Rattle.std.proofs.Common.{◌≡◌, ℕ, ◌+◌, ◌⊎◌, Bool, false, length, inl, inr, refl, sym, ap, subst, ◌∙◌, arith}
use Rattle.net_core.specs.Sides.{Graphs, graph_of}
use Rattle.net_core.specs.declared.graphs.Side.{Side}
use Rattle.net_core.specs.declared.graphs.Side.TheVariants.{First, Second}
use Rattle.net_core.specs.declared.matching.Matching.{Matching}
use Rattle.claim_core.specs.declared.claims.Claim.{Claim}
use Rattle.claim_core.specs.declared.query.Query.{Query}
use Rattle.claim_core.specs.Claims.{IsClaim, IsPlaced}
use Rattle.claim_core.specs.ClaimQueries.{claim_query}
use Rattle.claim_core.specs.MatchQueries.{match_query}
use Rattle.account_core.specs.Ports.{HaveAsMany}
use Rattle.oracle_core.specs.Work.{IsOfClaim, IsOfMatch}
use Rattle.oracle_core.specs.Enough.{claims_of, matches_of}
use Rattle.work_bound.proofs.ClaimNumbers.{claim_number, claim_number_below, same_claim, IsAmong}
use Rattle.work_bound.proofs.EntryLemmas.{IsCounted}
use Rattle.work_bound.proofs.MatchNumbers.{match_number, match_number_below, same_match, IsSent}

-- The number of a claim's query.
pub record IsClaimsNumber (n m : ℕ) (graphs : Graphs) (query : Query) (number : ℕ) : Type 0 where
  pub claim : Claim
  pub among : IsAmong n m claim
  pub query_is : query ≡ claim_query graphs claim
  pub number_is : number ≡ claim_number n m claim

-- The number of a query of a matching.
pub record IsMatchsNumber (n m : ℕ) (query : Query) (number : ℕ) : Type 0 where
  pub matching : Matching
  pub output : ℕ
  pub value : Bool
  pub sent : IsSent n m matching output
  pub query_is : query ≡ match_query n matching output value
  pub number_is : number ≡ claims_of n m + match_number n m matching output value

abbrev pub HasNumber : ℕ → ℕ → Graphs → Query → ℕ → Type 0
HasNumber n m graphs query number = IsClaimsNumber n m graphs query number ⊎ IsMatchsNumber n m query number

-- queries of one number are the same
pub same_query : (n m : ℕ) (graphs : Graphs) (one other : Query) (number : ℕ) → HasNumber n m graphs one number → HasNumber n m graphs other number → one ≡ other
same_query n m graphs one other number (inl is) (inl also) =
    is.query_is ∙ (ap (claim_query graphs) (same_claim n m is.claim also.claim is.among also.among (sym is.number_is ∙ also.number_is)) ∙ sym also.query_is)
same_query n m graphs one other number (inl is) (inr also) = absurd (omega (arith, claim_number_below n m is.claim is.among, is.number_is, also.number_is))
same_query n m graphs one other number (inr is) (inl also) = absurd (omega (arith, claim_number_below n m also.claim also.among, is.number_is, also.number_is))
same_query n m graphs one other number (inr is) (inr also) =
    is.query_is ∙ (same_match n m is.matching also.matching is.output also.output is.value also.value is.sent also.sent (omega (arith, is.number_is, also.number_is)) ∙ sym also.query_is)

outputs_on : (graphs : Graphs) → HaveAsMany graphs.first graphs.second → (side : Side) → length (graph_of graphs side).outputs ≡ length graphs.first.outputs
outputs_on graphs same First = refl
outputs_on graphs same Second = sym same.outputs

pub inputs_on : (graphs : Graphs) → HaveAsMany graphs.first graphs.second → (side : Side) → (graph_of graphs side).inputs ≡ graphs.first.inputs
inputs_on graphs same First = refl
inputs_on graphs same Second = sym same.inputs

among_of : (graphs : Graphs) (claim : Claim) → HaveAsMany graphs.first graphs.second → IsClaim graphs claim → IsAmong graphs.first.inputs (length graphs.first.outputs) claim
among_of graphs claim same is = record {
  output = omega (arith, is.output, outputs_on graphs same claim.side);
  placed = subst (λ n. IsPlaced n claim.shape) (inputs_on graphs same claim.side) is.placed;
}

sent_of : (graphs : Graphs) (query : Query) → (is : IsOfMatch graphs query) → IsSent graphs.first.inputs (length graphs.first.outputs) is.matching is.output
sent_of graphs query is = record {
  output = is.there;
  place = is.ports.outputs.in_range is.output (0, false) (omega (arith, is.there, is.ports.outputs.entries));
  inputs = is.ports.inputs.entries;
  places = is.ports.inputs.in_range;
}

pub is_numbered : (graphs : Graphs) (query : Query) → HaveAsMany graphs.first graphs.second → IsOfClaim graphs query ⊎ IsOfMatch graphs query → IsCounted (HasNumber graphs.first.inputs (length graphs.first.outputs) graphs) (claims_of graphs.first.inputs (length graphs.first.outputs) + matches_of graphs.first.inputs (length graphs.first.outputs)) query
is_numbered graphs query same (inl of) =
    let n = graphs.first.inputs in
    let m = length graphs.first.outputs in
    let among = among_of graphs of.0 same of.1 in
    record {
      number = claim_number n m of.0;
      below = omega (arith, claim_number_below n m of.0 among);
      is = inl (record { claim = of.0; among = among; query_is = of.2; number_is = refl });
    }
is_numbered graphs query same (inr of) =
    let n = graphs.first.inputs in
    let m = length graphs.first.outputs in
    let sent = sent_of graphs query of in
    record {
      number = claims_of n m + match_number n m of.matching of.output of.value;
      below = omega (arith, match_number_below n m of.matching of.output of.value sent);
      is = inr (record { matching = of.matching; output = of.output; value = of.value; sent = sent; query_is = of.query_is; number_is = refl });
    }
