-- What is asked of a claim: whether its output can be 1 with its shape's values where it is 0 with the opposite ones.
use Rattle.std.specs.Prelude.{true, false, not}
use Rattle.net_core.specs.Sides.{Graphs}
use Rattle.net_core.specs.Sides.{graph_of}
use Rattle.claim_core.specs.declared.claims.Shape.{Shape}
use Rattle.claim_core.specs.declared.claims.Shape.TheVariants.{Up, Down, Swap}
use Rattle.claim_core.specs.declared.claims.Claim.{Claim}
use Rattle.claim_core.specs.declared.query.Query.{Query}
pub use Rattle.claim_core.specs.Feeds.{values_feed, with_fixed}

-- the shape with the opposite values
abbrev pub opposite_shape : Shape → Shape
opposite_shape (Up i) = Down i
opposite_shape (Down i) = Up i
opposite_shape (Swap i j a b) = Swap i j (not a) (not b)

-- The left cone has the shape's values, the right one the opposite ones.
abbrev pub claim_query : Graphs → Claim → Query
claim_query graphs claim =
    let n = (graph_of graphs claim.side).inputs in
    record {
      left = record { side = claim.side; output = claim.output; feed = values_feed n claim.shape };
      left_value = true;
      right = record { side = claim.side; output = claim.output; feed = values_feed n (opposite_shape claim.shape) };
      right_value = false;
    }
