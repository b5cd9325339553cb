-- What the query of a claim asks for.
use Rattle.std.proofs.Common.{◌≡◌, ◌↔◌, ℕ, Bool, true, false, List, All, length, map, inl, inr, refl, sym, ap, ◌∙◌}
use Rattle.std.proofs.lemmas.Bool.{cases_Bool, false≢true}
use Rattle.std.proofs.lemmas.List.{length-set, map-set}
use Rattle.std.proofs.lemmas.List.Elements.{All-set}
use Rattle.net_core.specs.Sides.{Graphs}
use Rattle.net_core.specs.Sides.{graph_of}
use Rattle.claim_core.specs.declared.claims.Shape.{Shape}
use Rattle.claim_core.specs.declared.claims.Shape.TheVariants.{Up, Down, Swap}
use Rattle.claim_core.specs.declared.claims.Claim.{Claim}
use Rattle.claim_core.specs.declared.query.Feed.{Feed}
use Rattle.claim_core.specs.declared.query.Feed.TheVariants.{Fixed}
use Rattle.claim_core.specs.Claims.{Breaks, Holds, IsClaim, output_bit, with_input, with_opposites, with_values}
use Rattle.claim_core.specs.ClaimQueries.{claim_query, opposite_shape, values_feed, with_fixed}
use Rattle.claim_core.specs.MatchQueries.{straight}
use Rattle.claim_core.specs.Queries.{IsQuery, IsUnmet, IsWired, MeetsQuery, cone_bit, feed_bit}
use Rattle.claim_core.proofs.ClaimLaws.{fall}
use Rattle.claim_core.proofs.MatchLemmas.{straight_bits, straight_count, straight_wired}

-- a feed with one input fixed gives the vector with that bit
fixed_bits : (x : List Bool) (feed : List Feed) (i : ℕ) (b : Bool) (y : List Bool) → map (feed_bit x) feed ≡ y → map (feed_bit x) (with_fixed i b feed) ≡ with_input i b y
fixed_bits x feed i b y is = map-set (feed_bit x) feed i (Fixed b) ∙ ap (with_input i b) is

fed_values : (x : List Bool) (n : ℕ) (shape : Shape) → length x ≡ n → map (feed_bit x) (values_feed n shape) ≡ with_values shape x
fed_values x n (Up i) same = fixed_bits x (straight n) i false x (straight_bits x n same)
fed_values x n (Down i) same = fixed_bits x (straight n) i true x (straight_bits x n same)
fed_values x n (Swap i j a b) same =
    fixed_bits x (with_fixed i a (straight n)) j b (with_input i a x) (fixed_bits x (straight n) i a x (straight_bits x n same))

opposite_values : (shape : Shape) (x : List Bool) → with_values (opposite_shape shape) x ≡ with_opposites shape x
opposite_values (Up i) x = refl
opposite_values (Down i) x = refl
opposite_values (Swap i j a b) x = refl

-- the bits that the two cones have
left_is : (graphs : Graphs) (claim : Claim) (x : List Bool) → length x ≡ (graph_of graphs claim.side).inputs → cone_bit graphs x (claim_query graphs claim).left ≡ output_bit (graph_of graphs claim.side) claim.output (with_values claim.shape x)
left_is graphs claim x same =
    ap (output_bit (graph_of graphs claim.side) claim.output) (fed_values x (graph_of graphs claim.side).inputs claim.shape same)

right_is : (graphs : Graphs) (claim : Claim) (x : List Bool) → length x ≡ (graph_of graphs claim.side).inputs → cone_bit graphs x (claim_query graphs claim).right ≡ output_bit (graph_of graphs claim.side) claim.output (with_opposites claim.shape x)
right_is graphs claim x same =
    ap (output_bit (graph_of graphs claim.side) claim.output) (fed_values x (graph_of graphs claim.side).inputs (opposite_shape claim.shape) same ∙ opposite_values claim.shape x)

pub holds-unmet : (graphs : Graphs) (claim : Claim) → Holds graphs claim ↔ IsUnmet graphs (claim_query graphs claim)
holds-unmet graphs claim = (
  λ holds x same meets.
      let after = holds x same (sym (left_is graphs claim x same) ∙ meets.left) in
      false≢true (sym (sym (right_is graphs claim x same) ∙ meets.right) ∙ after),
  λ unmet x same before.
      elim (cases_Bool (output_bit (graph_of graphs claim.side) claim.output (with_opposites claim.shape x))) [
        | inl after ↦ after
        | inr falls ↦ absurd (unmet x same (record { left = left_is graphs claim x same ∙ before; right = right_is graphs claim x same ∙ falls }))
      ],
)

pub meets-breaks : (graphs : Graphs) (claim : Claim) (x : List Bool) → IsClaim graphs claim → length x ≡ (graph_of graphs claim.side).inputs → MeetsQuery graphs (claim_query graphs claim) x → Breaks graphs claim (with_values claim.shape x)
meets-breaks graphs claim x is same meets =
    fall (graph_of graphs claim.side) claim.output claim.shape x is.placed same (sym (left_is graphs claim x same) ∙ meets.left) (sym (right_is graphs claim x same) ∙ meets.right)

-- the query fits the circuits
values_keep : (P : List Feed → Type 0) (n : ℕ) (shape : Shape) → ((feed : List Feed) (i : ℕ) (b : Bool) → P feed → P (with_fixed i b feed)) → P (straight n) → P (values_feed n shape)
values_keep P n (Up i) fixed start = fixed (straight n) i false start
values_keep P n (Down i) fixed start = fixed (straight n) i true start
values_keep P n (Swap i j a b) fixed start = fixed (with_fixed i a (straight n)) j b (fixed (straight n) i a start)

pub values_count : (n : ℕ) (shape : Shape) → length (values_feed n shape) ≡ n
values_count n shape = values_keep (λ feed. length feed ≡ n) n shape (λ feed i b count. length-set feed i (Fixed b) ∙ count) (straight_count n)

pub values_wired : (n : ℕ) (shape : Shape) → All (IsWired n) (values_feed n shape)
values_wired n shape = values_keep (All (IsWired n)) n shape (λ feed i b wired. All-set (IsWired n) feed i (Fixed b) tt wired) (straight_wired n)

pub claim_query_fits : (graphs : Graphs) (claim : Claim) → IsClaim graphs claim → IsQuery graphs (claim_query graphs claim)
claim_query_fits graphs claim is =
    let n = (graph_of graphs claim.side).inputs in
    record {
      left = record { inputs = refl; output = is.output; feed = values_count n claim.shape; wires = values_wired n claim.shape };
      right = record {
        inputs = refl;
        output = is.output;
        feed = values_count n (opposite_shape claim.shape);
        wires = values_wired n (opposite_shape claim.shape);
      };
    }
