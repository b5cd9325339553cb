-- What stands in a list under a key, and the numbers of keys.
use Rattle.std.proofs.Common.{◌≡◌, ◌≢◌, ℕ, ◌<◌, Bool, false, List, [], ◌∷◌, ◌++◌, length, map, cond, All, Some, sym, ap, ◌∙◌, slice_index_or, arith, position}
use Rattle.std.specs.Bool.{Decides}
use Rattle.std.specs.List.{list_any}
use Rattle.std.proofs.lemmas.Bool.{false≢true, false_from_ne_true}
use Rattle.std.proofs.lemmas.List.{get_or-map, length-map, map_push}
use Rattle.std.proofs.lemmas.List.Quantifiers.{position-Some}
use Rattle.std.proofs.lemmas.List.Elements.{All-map}
use Rattle.std.proofs.lemmas.List.Folds.{list_any_none, list_any-from_Any}
use Rattle.indexmap.specs.IndexSet.{insert_key}

module _ {K X : Type 0} (eq : K → K → Bool) (decides : (x y : K) → Decides (eq x y) (x ≡ y)) (key : X → K) where
  -- the place that is found has the key
  pub found : (xs : List X) (k : K) (i : ℕ) → position (eq k) (map key xs) ≡ Some i → (i < length xs) × ((d : X) → key (slice_index_or xs i d) ≡ k)
  found xs k i at =
      let p = position-Some (eq k) (map key xs) i k at in
      let within : i < length xs = omega (arith, p.0, length-map xs key) in
      (within, λ d. sym ((decides k (key (slice_index_or xs i d))).0 (ap (eq k) (sym (get_or-map key xs i d k within)) ∙ p.1)))

  -- none of them has the key
  pub none : (xs : List X) (k : K) → list_any (eq k) (map key xs) ≡ false → All (λ x. key x ≢ k) xs
  none xs k missing i d below same =
      let x = key (slice_index_or xs i d) in
      let there : i < length (map key xs) = omega (arith, below, length-map xs key) in
      let at = get_or-map key xs i d x below in
      false≢true (sym missing ∙ list_any-from_Any (eq k) (map key xs) (i, x, there, at, (decides k x).1 (sym same)))

  absent : (xs : List X) (x : X) → All (λ other. key other ≢ key x) xs → list_any (eq (key x)) (map key xs) ≡ false
  absent xs x apart =
      list_any_none (eq (key x)) (map key xs) (All-map (λ k. eq (key x) k ≡ false) key xs (λ i d below.
      let k = key (slice_index_or xs i d) in
      false_from_ne_true (eq (key x) k) (λ same. apart i d below (sym ((decides (key x) k).0 same)))))

  -- a key that none of them has comes last
  pub added : (xs : List X) (x : X) → All (λ other. key other ≢ key x) xs → insert_key eq (map key xs) (key x) ≡ map key (xs ++ x ∷ [])
  added xs x apart =
      let missing = absent xs x apart in
      ap (λ b. cond b (map key xs) (map key xs ++ key x ∷ [])) missing ∙ sym (map_push key xs x)
