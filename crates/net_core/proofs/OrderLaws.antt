-- From the levels of a netlist's definitions to the ordered netlist.
use Rattle.std.proofs.Common.{ℕ, ◌+◌, ◌<◌, ◌≤◌, ◌≡◌, ◌≢◌, ◌⊎◌, false, eqb, List, [], ◌∷◌, ◌++◌, length, get_or, map, All, AllPairs, IsPermutation, IsSorted, refl, sym, ap, subst, ◌∙◌, inl, inr, arith, ext_get_or}
use Rattle.std.specs.declared.cmp.Ordering.{Ordering}
use Rattle.std.specs.declared.cmp.Ordering.TheVariants.{Less, Equal, Greater}
use Rattle.std.specs.Ordering.{nat_cmp, ordering_then, is_lt}
use Rattle.std.specs.Cmp.{IsTotalOrder}
use Rattle.std.specs.List.{IsDistinct, range_with_len}
use Rattle.std.proofs.lemmas.Bool.{cases_lt, false≢true}
use Rattle.std.proofs.lemmas.Bool.Decides.{Decides-eqb}
use Rattle.std.proofs.lemmas.Cmp.{ranked, by_ranked, nat_cmp_total, nat_eq_equiv, then_total, on_total}
use Rattle.std.proofs.lemmas.List.{get_or_append_left, get_or_push, length-map, get_or-map}
use Rattle.std.proofs.lemmas.List.Sorted.{sorted_far, ranks_by, IsPermutation-map, All-permutation}
use Rattle.std.proofs.lemmas.List.FromFn.{length-range_with_len, get_or-range_with_len}
use Rattle.std.proofs.lemmas.Map.Keys.{IsDistinct-IsPermutation, ge_from_not_lt}
use Rattle.std.proofs.lemmas.Map.Made.{AllPairs-from_IsDistinct, IsDistinct-from_AllPairs}
use Rattle.circuits.specs.Circuits.{Circuit, signal_at}
use Rattle.circuits.specs.Levels.{HasLevel, IsAcyclic, IsLevelOrder}
use Rattle.circuits.proofs.LevelLaws.{HasLevel-only}
use Rattle.net_core.specs.declared.levels.Placed.{Placed}
use Rattle.net_core.specs.declared.levels.Visit.TheVariants.{Level}
use Rattle.net_core.specs.Orders.{AreListed, AreLevels, IsSortedOrder, placed_cmp}

abbrev IsListedAs : Circuit → ℕ → Placed → Type 0
IsListedAs circuit k entry = (entry.position ≡ k) × HasLevel circuit (signal_at circuit k) entry.level

pub AreListed-push : (circuit : Circuit) (count : ℕ) (placed : List Placed) (entry : Placed) → length placed ≡ count → entry.position ≡ count → HasLevel circuit (signal_at circuit count) entry.level → AreListed circuit count placed → AreListed circuit (count + 1) (placed ++ entry ∷ [])
AreListed-push circuit count placed entry len at has listed k d h =
    elim (cases_lt k count) [
      | inl less ↦
          let same = get_or_append_left placed (entry ∷ []) d k (omega arith) in
          subst (IsListedAs circuit k) (sym same) (listed k d less)
      | inr past ↦
          let e : count ≡ k = omega arith in
          let same = get_or_push placed entry d k (len ∙ e) in
          subst (IsListedAs circuit k) (sym same) (at ∙ e, subst (λ n. HasLevel circuit (signal_at circuit n) entry.level) e has)
    ]

pub level_of : (l m : ℕ) → Level l ≡ Level m → l ≡ m
level_of l m same = cc

pub IsAcyclic-levels : (circuit : Circuit) (placed : List Placed) → AreLevels circuit placed → IsAcyclic circuit
IsAcyclic-levels circuit placed levels d h =
    let default : Placed = record { level = 0; position = 0 } in
    ((get_or placed d default).level, (levels.listed d default h).1)

-- an entry that does not come after another one
pub placed-le : (one other : Placed) → is_lt (placed_cmp other one) ≡ false → (one.level < other.level) ⊎ ((one.level ≡ other.level) × (one.position ≤ other.position))
placed-le one other h =
    by_ranked (other.level < one.level) (other.level ≡ one.level) (one.level < other.level) (nat_cmp other.level one.level) (ranked other.level one.level (nat_cmp other.level one.level) refl) lower same higher
  where
    at : (o : Ordering) → nat_cmp other.level one.level ≡ o → is_lt (ordering_then o (nat_cmp other.position one.position)) ≡ false
    at o e = subst (λ o. is_lt (ordering_then o (nat_cmp other.position one.position)) ≡ false) e h

    lower : nat_cmp other.level one.level ≡ Less → other.level < one.level → (one.level < other.level) ⊎ ((one.level ≡ other.level) × (one.position ≤ other.position))
    lower e less = absurd (false≢true (sym (at Less e)))

    same : nat_cmp other.level one.level ≡ Equal → other.level ≡ one.level → (one.level < other.level) ⊎ ((one.level ≡ other.level) × (one.position ≤ other.position))
    same e tied = inr (sym tied, ge_from_not_lt other.position one.position (at Equal e))

    higher : nat_cmp other.level one.level ≡ Greater → one.level < other.level → (one.level < other.level) ⊎ ((one.level ≡ other.level) × (one.position ≤ other.position))
    higher e less = inl less

pub placed_cmp-total : IsTotalOrder placed_cmp
placed_cmp-total = then_total (on_total (λ (entry : Placed). entry.level) nat_cmp_total) (on_total (λ (entry : Placed). entry.position) nat_cmp_total)

-- sorted by level, then by position
pub sorted-le : (sorted : List Placed) (i j : ℕ) (d : Placed) → IsSorted placed_cmp sorted → i ≤ j → j < length sorted → ((get_or sorted i d).level < (get_or sorted j d).level) ⊎ (((get_or sorted i d).level ≡ (get_or sorted j d).level) × ((get_or sorted i d).position ≤ (get_or sorted j d).position))
sorted-le sorted i j d up le h =
    placed-le (get_or sorted i d) (get_or sorted j d) (sorted_far (λ x y. is_lt (placed_cmp x y)) (ranks_by placed_cmp-total (λ (x : Placed). x)) sorted up i j d le h)

-- each position stands once
pub positions-distinct : (circuit : Circuit) (placed : List Placed) (order : List ℕ) → AreLevels circuit placed → IsSortedOrder placed order → AllPairs (λ d e. d ≢ e) order
positions-distinct circuit placed order levels is =
    AllPairs-from_IsDistinct Decides-eqb order (subst (IsDistinct eqb) (sym is.positions) (IsDistinct-IsPermutation eqb (λ x y. nat_eq_equiv.symm x y) (map (λ (entry : Placed). entry.position) placed) (map (λ (entry : Placed). entry.position) is.sorted) (IsPermutation-map (λ (entry : Placed). entry.position) placed is.sorted is.permutation) (IsDistinct-from_AllPairs Decides-eqb (map (λ (entry : Placed). entry.position) placed) apart)))
  where
    at : (k d : ℕ) → k < length (map (λ (entry : Placed). entry.position) placed) → get_or (map (λ (entry : Placed). entry.position) placed) k d ≡ k
    at k d h =
        let default : Placed = record { level = 0; position = 0 } in
        let within : k < length placed = omega (arith, length-map placed (λ (entry : Placed). entry.position)) in
        get_or-map (λ (entry : Placed). entry.position) placed k default d within ∙ (levels.listed k default (omega (arith, levels.entries))).0

    apart : AllPairs (λ d e. d ≢ e) (map (λ (entry : Placed). entry.position) placed)
    apart i j d l h same = omega (arith, at i d (omega arith), at j d h, same)

-- an entry whose level is that of the definition at its position
abbrev IsEntry : Circuit → Placed → Type 0
IsEntry circuit entry = (entry.position < length circuit.defs) × HasLevel circuit (signal_at circuit entry.position) entry.level

pub IsLevelOrder-sorted : (circuit : Circuit) (placed : List Placed) (order : List ℕ) → AreLevels circuit placed → IsSortedOrder placed order → IsLevelOrder circuit order
IsLevelOrder-sorted circuit placed order levels is = record {
  each_once = subst (IsPermutation (range_with_len 0 (length circuit.defs))) (sym is.positions) (subst (λ xs. IsPermutation xs (map (λ (entry : Placed). entry.position) is.sorted)) in_text (IsPermutation-map (λ (entry : Placed). entry.position) placed is.sorted is.permutation));
  ascending = λ i j d less h l m one other.
      let default : Placed = record { level = 0; position = d } in
      let first = listed i d (omega arith) in
      let second = listed j d h in
      let l_is : l ≡ (get_or is.sorted i default).level = HasLevel-only circuit (signal_at circuit (get_or order i d)) l (get_or is.sorted i default).level one first.2 in
      let m_is : m ≡ (get_or is.sorted j default).level = HasLevel-only circuit (signal_at circuit (get_or order j d)) m (get_or is.sorted j default).level other second.2 in
      let apart = positions-distinct circuit placed order levels is i j d less h in
      elim (sorted-le is.sorted i j default is.ascending (omega arith) (omega (arith, len_sorted))) [
        | inl lower ↦ inl (omega (arith, lower, l_is, m_is))
        | inr tied ↦ inr (omega (arith, tied.0, l_is, m_is), omega (arith, tied.1, first.0, second.0, apart))
      ];
}
  where
    len_sorted : length order ≡ length is.sorted
    len_sorted = ap length is.positions ∙ length-map is.sorted (λ (entry : Placed). entry.position)

    in_text : map (λ (entry : Placed). entry.position) placed ≡ range_with_len 0 (length circuit.defs)
    in_text =
        let len = length-map placed (λ (entry : Placed). entry.position) in
        ext_get_or 0 (map (λ (entry : Placed). entry.position) placed) (range_with_len 0 (length circuit.defs)) (omega (arith, len, levels.entries, length-range_with_len 0 (length circuit.defs))) (λ k h. let default : Placed = record { level = 0; position = 0 } in
        let k_in : k < length placed = omega (arith, len) in
        let k_def : k < length circuit.defs = omega (arith, levels.entries) in
        omega (arith, get_or-map (λ (entry : Placed). entry.position) placed k default 0 k_in, (levels.listed k default k_def).0, get_or-range_with_len 0 (length circuit.defs) k 0 k_def))

    entries : All (IsEntry circuit) placed
    entries k entry h =
        let listed = levels.listed k entry (omega (arith, levels.entries)) in
        (omega (arith, listed.0, levels.entries), subst (λ n. HasLevel circuit (signal_at circuit n) (get_or placed k entry).level) (sym listed.0) listed.1)

    listed : (k d : ℕ) → k < length order → (get_or order k d ≡ (get_or is.sorted k (record { level = 0; position = d })).position) × ((get_or is.sorted k (record { level = 0; position = d })).position < length circuit.defs) × HasLevel circuit (signal_at circuit (get_or order k d)) (get_or is.sorted k (record { level = 0; position = d })).level
    listed k d h =
        let default : Placed = record { level = 0; position = d } in
        let within : k < length is.sorted = omega (arith, len_sorted) in
        let at : get_or order k d ≡ (get_or is.sorted k default).position = ap (λ xs. get_or xs k d) is.positions ∙ get_or-map (λ (entry : Placed). entry.position) is.sorted k default d within in
        let entry = All-permutation (IsEntry circuit) placed is.sorted is.permutation entries k default within in
        (at, entry.0, subst (λ n. HasLevel circuit (signal_at circuit n) (get_or is.sorted k default).level) (sym at) entry.1)
