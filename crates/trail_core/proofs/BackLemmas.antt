-- A trail after going back.
use Rattle.std.proofs.Common.{◌≡◌, ℕ, zero, suc, ◌<◌, ◌≤◌, cond, Bool, true, List, [], ◌∷◌, length, filter, nat_le, slice_index_or, inl, inr, sym, ◌∙◌, ap, subst, arith}
use Rattle.std.proofs.lemmas.Bool.{cases_Bool, le-leb, leb-true}
use Rattle.std.proofs.lemmas.List.{get_or-take, length-take}
use Rattle.std.proofs.lemmas.List.Elements.{filter_passes}
use Rattle.trail_core.specs.declared.assigned.Assigned.{Assigned}
use Rattle.trail_core.specs.Trails.{IsBack, Trailing, entry_at, nothing}

-- what passes a test is kept by a filter
filter_keeps : {X : Type 0} (p : X → Bool) (xs : List X) (i : ℕ) (d : X) → i < length xs → p (slice_index_or xs i d) ≡ true → (k : ℕ) × (k < length (filter p xs)) × (slice_index_or (filter p xs) k d ≡ slice_index_or xs i d)
filter_keeps {X} p [] i d within passes = absurd (omega (arith, within))
filter_keeps {X} p (x ∷ xs) zero d within passes =
    (0, subst (λ ys. 0 < length ys) (sym (ap (λ b. cond b (x ∷ filter p xs) (filter p xs)) passes)) (omega arith), ap (λ b. slice_index_or (cond b (x ∷ filter p xs) (filter p xs)) 0 d) passes)
filter_keeps {X} p (x ∷ xs) (suc i) d within passes =
    let rest = filter_keeps p xs i d (omega (arith, within)) passes in
    elim (cases_Bool (p x)) [
      | inl yes_x ↦ (suc rest.0, subst (λ ys. suc rest.0 < length ys) (sym (ap (λ b. cond b (x ∷ filter p xs) (filter p xs)) yes_x)) (omega (arith, rest.1)), ap (λ b. slice_index_or (cond b (x ∷ filter p xs) (filter p xs)) (suc rest.0) d) yes_x ∙ rest.2)
      | inr no_x ↦ (rest.0, subst (λ ys. rest.0 < length ys) (sym (ap (λ b. cond b (x ∷ filter p xs) (filter p xs)) no_x)) rest.1, ap (λ b. slice_index_or (cond b (x ∷ filter p xs) (filter p xs)) rest.0 d) no_x ∙ rest.2)
    ]

-- what stands after going back stood there before, at a level that isn't greater
pub front_at : (old back : Trailing) (level : ℕ) → IsBack old back level → (k : ℕ) → k < length back.entries → entry_at back.entries k ≡ entry_at old.entries k
front_at old back level is k within =
    ap (λ es. entry_at es k) is.front ∙ get_or-take (length back.entries) old.entries k nothing within

pub front_within : (old back : Trailing) (level : ℕ) → IsBack old back level → (k : ℕ) → k < length back.entries → k < length old.entries
front_within old back level is k within =
    omega (arith, within, ap length is.front, length-take (length back.entries) old.entries)

pub low_at : (old back : Trailing) (level : ℕ) → IsBack old back level → (k : ℕ) → k < length back.entries → (entry_at back.entries k).level ≤ level
low_at old back level is k within =
    let passes = filter_passes (λ (e : Assigned). nat_le e.level level) old.entries k nothing (subst (λ (es : List Assigned). k < length es) is.entries within) in
    leb-true (entry_at back.entries k).level level (ap (λ (es : List Assigned). nat_le (entry_at es k).level level) is.entries ∙ passes)

-- and what is of such a level still stands
pub kept_at : (old back : Trailing) (level : ℕ) → IsBack old back level → (i : ℕ) → i < length old.entries → (entry_at old.entries i).level ≤ level → (k : ℕ) × (k < length back.entries) × (entry_at back.entries k ≡ entry_at old.entries i)
kept_at old back level is i within low =
    let found = filter_keeps (λ (e : Assigned). nat_le e.level level) old.entries i nothing within (le-leb (entry_at old.entries i).level level low) in
    (found.0, subst (λ (es : List Assigned). found.0 < length es) (sym is.entries) found.1, ap (λ es. entry_at es found.0) is.entries ∙ found.2)
