-- A vector that meets a query of a match: its output differs from its partner there.
use Rattle.std.proofs.Common.{◌≡◌, ℕ, not, Bool, List, length, sym, ap, subst, ◌∙◌}
use Rattle.circuits.specs.Bijections.{IsSignedBijection, moved, place_of, sign_of}
use Rattle.circuits.specs.Literals.{bit, differ}
use Rattle.circuits.specs.Matches.{HavePorts}
use Rattle.circuits.specs.Netlists.{function_of}
use Rattle.net_core.specs.Sides.{Graphs}
use Rattle.net_core.specs.declared.matching.Matching.{Matching}
use Rattle.claim_core.specs.Queries.{MeetsQuery}
use Rattle.claim_core.specs.MatchQueries.{match_query}
use Rattle.claim_core.proofs.MatchLemmas.{left_bit, not_both, right_bit}
use Rattle.oracle_core.specs.Oracles.{IsDifference}

pub met_difference : (graphs : Graphs) (matching : Matching) (k : ℕ) (value : Bool) (x : List Bool) → HavePorts graphs.first graphs.second matching.inputs matching.outputs → length x ≡ graphs.first.inputs → MeetsQuery graphs (match_query graphs.first.inputs matching k value) x → IsDifference graphs matching k x
met_difference graphs matching k value x ports same meets = record {
  inputs = same;
  unlike = λ agree.
      let p = matching.inputs in
      let q = matching.outputs in
      let shape : IsSignedBijection (length x) p = subst (λ n. IsSignedBijection n p) (sym same) ports.inputs in
      let left : bit (function_of graphs.first x) k ≡ value = sym (left_bit graphs matching k value x same) ∙ meets.left in
      let right : bit (function_of graphs.second (moved p x)) (place_of q k) ≡ differ (not value) (sign_of q k) = sym (right_bit graphs matching k value x shape) ∙ meets.right in
      not_both (bit (function_of graphs.first x) k) (bit (function_of graphs.second (moved p x)) (place_of q k)) (sign_of q k) agree (right ∙ ap (λ b. differ (not b) (sign_of q k)) (sym left));
}
