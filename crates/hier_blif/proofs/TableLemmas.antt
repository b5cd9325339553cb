-- Tables by places that are filled in some order.
use Rattle.std.proofs.Common.{◌≡◌, ℕ, ◌+◌, ◌<◌, ◌≤◌, List, [], ◌∷◌, ◌++◌, length, get_or, set, take, All, Contains, refl, ap, sym, subst, ◌∙◌, inl, inr}
use Rattle.std.proofs.lemmas.Bool.{cases_eq}
use Rattle.std.proofs.lemmas.List.{get_or-set_same, get_or-set_other, take_more, take_all}
use Rattle.std.proofs.lemmas.List.Elements.{All-push, All-weaker, All-contains}

-- what a table has at a place is so
abbrev pub HoldsAt : {X : Type 0} → (ℕ → X → Type 0) → List X → ℕ → Type 0
HoldsAt {X} P table place = (d : X) → P place (get_or table place d)

-- one place more
pub table_more : {X : Type 0} (P : ℕ → X → Type 0) (order : List ℕ) (k place : ℕ) (table : List X) (x : X) → k < length order → place ≡ get_or order k place → place < length table → P place x → All (HoldsAt P table) (take k order) → All (HoldsAt P (set table place x)) (take (k + 1) order)
table_more {X} P order k place table x below is there here so_far =
    let next : take (k + 1) order ≡ take k order ++ place ∷ [] = take_more order k place below ∙ ap (λ q. take k order ++ q ∷ []) (sym is) in
    let new = set table place x in
    subst (All (HoldsAt P new)) (sym next) (All-push (HoldsAt P new) (take k order) place (All-weaker (HoldsAt P table) (HoldsAt P new) (λ q was d. kept q d (was d)) (take k order) so_far) (at place refl))
  where
    at : (q : ℕ) → q ≡ place → HoldsAt P (set table place x) q
    at q same =
        λ d. subst (λ n. P n (get_or (set table place x) n d)) (sym same) (subst (P place) (sym (get_or-set_same table place x d there)) here)

    kept : (q : ℕ) (d : X) → P q (get_or table q d) → P q (get_or (set table place x) q d)
    kept q d was =
        elim (cases_eq q place) [
          | inl same ↦ at q same d
          | inr other ↦ subst (P q) (sym (get_or-set_other table place q x d other)) was
        ]

-- places among those that are done
pub table_held : {X : Type 0} (P : ℕ → X → Type 0) (table : List X) (places found : List ℕ) → All (HoldsAt P table) places → All (Contains places) found → All (HoldsAt P table) found
table_held P table places found holds held =
    All-weaker (Contains places) (HoldsAt P table) (λ q h. All-contains (HoldsAt P table) places q holds h) found held

-- all places are done
pub table_all : {X : Type 0} (P : ℕ → X → Type 0) (table : List X) (order : List ℕ) (k place : ℕ) → length order ≤ k → Contains order place → All (HoldsAt P table) (take k order) → HoldsAt P table place
table_all P table order k place past held holds =
    All-contains (HoldsAt P table) order place (subst (All (HoldsAt P table)) (take_all k order past) holds) held
