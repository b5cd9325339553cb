-- How many inputs feeds have, and what one of them gets, by the form in which they are kept.
use Rattle.std.proofs.Common.{◌≡◌, ℕ, ◌<◌, ◌==◌, cond, Bool, true, false, List, length, slice_index_or, inl, inr, sym, ap, ◌∙◌, arith}
use Rattle.std.proofs.lemmas.Bool.Decides.{eqb_tells}
use Rattle.std.proofs.lemmas.List.{get_or-set_other, get_or-set_same, length-set}
use Rattle.std.proofs.lemmas.List.FromFn.{get_or-map-range_with_len}
use Rattle.claim_core.specs.declared.claims.Shape.{Shape}
use Rattle.claim_core.specs.declared.claims.Shape.TheVariants.{Up, Down, Swap}
use Rattle.claim_core.specs.declared.query.Feed.{Feed}
use Rattle.claim_core.specs.declared.query.Feed.TheVariants.{Fixed, Wire}
use Rattle.claim_core.specs.Feeds.{straight, value_at, values_feed, with_fixed}
use Rattle.claim_core.proofs.MatchLemmas.{straight_count}

pub straight_at : (n k : ℕ) (d : Feed) → k < n → slice_index_or (straight n) k d ≡ Wire k false
straight_at n k d below = get_or-map-range_with_len (λ i. Wire i false) 0 n k k d below (omega arith)

fixed_at : (feed : List Feed) (i k : ℕ) (b : Bool) (d : Feed) → k < length feed → slice_index_or (with_fixed i b feed) k d ≡ cond (k == i) (Fixed b) (slice_index_or feed k d)
fixed_at feed i k b d below =
    elim (eqb_tells k i) [
      | inl (found, same) ↦
          ap (λ j. slice_index_or (with_fixed i b feed) j d) same ∙ (get_or-set_same feed i (Fixed b) d (omega (arith, below, same)) ∙ sym (ap (λ t. cond t (Fixed b) (slice_index_or feed k d)) found))
      | inr (found, apart) ↦
          get_or-set_other feed i k (Fixed b) d apart ∙ sym (ap (λ t. cond t (Fixed b) (slice_index_or feed k d)) found)
    ]

pub values_at : (n k : ℕ) (shape : Shape) (d : Feed) → k < n → slice_index_or (values_feed n shape) k d ≡ value_at shape k
values_at n k (Up i) d below =
    fixed_at (straight n) i k false d (omega (arith, below, straight_count n)) ∙ ap (λ f. cond (k == i) (Fixed false) f) (straight_at n k d below)
values_at n k (Down i) d below =
    fixed_at (straight n) i k true d (omega (arith, below, straight_count n)) ∙ ap (λ f. cond (k == i) (Fixed true) f) (straight_at n k d below)
values_at n k (Swap i j a b) d below =
    fixed_at (with_fixed i a (straight n)) j k b d (omega (arith, below, length-set (straight n) i (Fixed a), straight_count n)) ∙ ap (λ f. cond (k == j) (Fixed b) f) (fixed_at (straight n) i k a d (omega (arith, below, straight_count n)) ∙ ap (λ f. cond (k == i) (Fixed a) f) (straight_at n k d below))
