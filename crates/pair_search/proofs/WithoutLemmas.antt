-- Pairs in order but for one.
use Rattle.std.proofs.Common.{◌≡◌, ◌≢◌, ◌⊎◌, ℕ, suc, ◌+◌, ◌-◌, ◌<◌, ◌≤◌, List, ◌∷◌, length, take, drop, get_or, All, sym, ap, ◌∙◌, inl, inr, arith}
use Rattle.std.specs.Prelude.{Contains, remove}
use Rattle.std.proofs.lemmas.Bool.{cases_lt, cases_order}
use Rattle.std.proofs.lemmas.List.{get_or_default}
use Rattle.std.proofs.lemmas.List.Edits.{length-remove, get_or-remove_below, get_or-remove_above}
use Rattle.std.proofs.lemmas.List.Elements.{All-append, All-contains_itself, All-drop, All-take}
use Rattle.circuits.specs.declared.port.Pair.{Pair}
use Rattle.account_core.specs.Ports.{AreOrdered, StandInOrder}
use Rattle.circuits.proofs.Lists.{contains_cons}

-- what is left was there
pub rest_among : (pairs : List Pair) (place : ℕ) → All (Contains pairs) (remove pairs place)
rest_among pairs place = All-append (Contains pairs) (take place pairs) (drop (suc place) pairs) (All-take (Contains pairs) place pairs (All-contains_itself pairs)) (All-drop (Contains pairs) (suc place) pairs (All-contains_itself pairs))

not_itself : (p q : Pair) → StandInOrder p q → p ≢ q
not_itself p q order same = omega (arith, order.ascending (ap (λ (x : Pair). x.kind) same), ap (λ (x : Pair). x.from) same)

-- the pair that was taken out is gone
pub rest_others : (pairs : List Pair) (place : ℕ) (pair : Pair) → place < length pairs → get_or pairs place pair ≡ pair → AreOrdered pairs → All (λ other. other ≢ pair) (remove pairs place)
rest_others pairs place pair within is ordered k d below = by_place (cases_lt k place)
  where
    size : length (remove pairs place) + 1 ≡ length pairs
    size = omega (arith, length-remove pairs place within, within)

    here : get_or pairs place d ≡ pair
    here = get_or_default pairs place d pair within ∙ is

    by_place : (k < place) ⊎ (place ≤ k) → get_or (remove pairs place) k d ≢ pair
    by_place (inl less) same = not_itself (get_or pairs k d) (get_or pairs place d) (ordered k place d less within) (sym (get_or-remove_below pairs place d k less within) ∙ (same ∙ sym here))
    by_place (inr past) same = not_itself (get_or pairs place d) (get_or pairs (k + 1) d) (ordered place (k + 1) d (omega (arith, past)) (omega (arith, below, size))) (here ∙ (sym same ∙ get_or-remove_above pairs place d k past within))

-- each pair is that one, or left
pub rest_or : (pairs : List Pair) (place : ℕ) (pair : Pair) → place < length pairs → get_or pairs place pair ≡ pair → All (Contains (pair ∷ remove pairs place)) pairs
rest_or pairs place pair within is k d below = by_place (cases_order k place)
  where
    size : length (remove pairs place) + 1 ≡ length pairs
    size = omega (arith, length-remove pairs place within, within)

    at : Pair
    at = get_or pairs k d

    later : (j : ℕ) → k ≡ j + 1 → place ≤ j → Contains (remove pairs place) at
    later j same past = (j, omega (arith, below, same, size), get_or-remove_above pairs place at j past within ∙ (ap (λ n. get_or pairs n at) (sym same) ∙ get_or_default pairs k at d below))

    by_place : (k ≡ place) ⊎ ((k < place) ⊎ (place < k)) → Contains (pair ∷ remove pairs place) at
    by_place (inl same) = (0, omega arith, sym (get_or_default pairs k d pair below ∙ (ap (λ n. get_or pairs n pair) same ∙ is)))
    by_place (inr (inl less)) = contains_cons (remove pairs place) pair at (k, omega (arith, less, within, size), get_or-remove_below pairs place at k less within ∙ get_or_default pairs k at d below)
    by_place (inr (inr more)) = contains_cons (remove pairs place) pair at (later (k - 1) (omega (arith, more)) (omega (arith, more)))

pub all_or : (pair : Pair) (pairs : List Pair) → All (Contains (pair ∷ pairs)) pairs
all_or pair pairs k d below = contains_cons pairs pair (get_or pairs k d) (k, below, get_or_default pairs k (get_or pairs k d) d below)
