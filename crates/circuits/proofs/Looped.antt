-- For readers of netlists: that a netlist has no cycle, or a first definition on one or above one.
use Rattle.std.proofs.Common.{ℕ, zero, suc, ◌+◌, ◌<◌, ◌≤◌, ◌≡◌, ◌⊎◌, length, get_or, refl, sym, subst, inl, inr, arith}
use Rattle.std.proofs.lemmas.Bool.{cases_lt}
use Rattle.circuits.specs.Circuits.{Circuit, signal_at, names_of}
use Rattle.circuits.specs.Levels.{IsWithin, HasLevel, HasNoLevel, IsAcyclic, IsFirstLooped}
use Rattle.circuits.proofs.LevelLaws.{IsWithin-suc, IsWithin-le, IsWithin-told, least_level}

-- 1 where it holds
abbrev weight : {A : Type 0} → A ⊎ (A → ⊥) → ℕ
weight (inl told) = 1
weight (inr told_not) = 0

weight-le : {A : Type 0} (tell : A ⊎ (A → ⊥)) → weight tell ≤ 1
weight-le (inl told) = omega arith
weight-le (inr told_not) = omega arith

-- definition d is within a level
abbrev At : Circuit → ℕ → ℕ → Type 0
At circuit l d = IsWithin circuit l (signal_at circuit d)

-- how many of the first n definitions are within a level
abbrev count : Circuit → ℕ → ℕ → ℕ
count circuit l zero = 0
count circuit l (suc n) = count circuit l n + weight (IsWithin-told circuit l (signal_at circuit n))

count-le : (circuit : Circuit) (l n : ℕ) → count circuit l n ≤ n
count-le circuit l zero = omega arith
count-le circuit l (suc n) =
    omega (arith, count-le circuit l n, weight-le (IsWithin-told circuit l (signal_at circuit n)))

-- none of the first n definitions is within the next level alone
abbrev IsStable : Circuit → ℕ → ℕ → Type 0
IsStable circuit l n = (d : ℕ) → d < n → At circuit (suc l) d → At circuit l d

IsStable-more : (circuit : Circuit) (l n : ℕ) → IsStable circuit l n → (At circuit (suc l) n → At circuit l n) → IsStable circuit l (suc n)
IsStable-more circuit l n stable here d below h =
    elim (cases_lt d n) [
      | inl less ↦ stable d less h
      | inr past ↦ let e : d ≡ n = omega arith in subst (At circuit l) (sym e) (here (subst (At circuit (suc l)) e h))
    ]

-- from one level to the next nothing changes, or the count grows
abbrev Grows : Circuit → ℕ → ℕ → ℕ → ℕ → Type 0
Grows circuit l n low high = (IsStable circuit l n × (low ≤ high)) ⊎ (low < high)

Grows-more : (circuit : Circuit) (l n low high : ℕ) (at_low : At circuit l n ⊎ (At circuit l n → ⊥)) (at_high : At circuit (suc l) n ⊎ (At circuit (suc l) n → ⊥)) → Grows circuit l n low high → Grows circuit l (suc n) (low + weight at_low) (high + weight at_high)
Grows-more circuit l n low high (inl told) (inl next) (inl stable) = inl (IsStable-more circuit l n stable.0 (λ h. told), omega (arith, stable.1))
Grows-more circuit l n low high (inl told) (inl next) (inr less) = inr (omega arith)
Grows-more circuit l n low high (inl told) (inr not_next) grows = absurd (not_next (IsWithin-suc circuit l (signal_at circuit n) told))
Grows-more circuit l n low high (inr told_not) (inl next) (inl stable) = inr (omega (arith, stable.1))
Grows-more circuit l n low high (inr told_not) (inl next) (inr less) = inr (omega arith)
Grows-more circuit l n low high (inr told_not) (inr not_next) (inl stable) = inl (IsStable-more circuit l n stable.0 (λ h. absurd (not_next h)), omega (arith, stable.1))
Grows-more circuit l n low high (inr told_not) (inr not_next) (inr less) = inr (omega arith)

count-grows : (circuit : Circuit) (l n : ℕ) → Grows circuit l n (count circuit l n) (count circuit (suc l) n)
count-grows circuit l zero = inl ((λ d below h. absurd (omega arith)), omega arith)
count-grows circuit l (suc n) =
    Grows-more circuit l n (count circuit l n) (count circuit (suc l) n) (IsWithin-told circuit l (signal_at circuit n)) (IsWithin-told circuit (suc l) (signal_at circuit n)) (count-grows circuit l n)

-- some level is the last
last_level : (circuit : Circuit) (n fuel l : ℕ) → n < count circuit l n + fuel → (m : ℕ) × IsStable circuit m n
last_level circuit n zero l h = absurd (omega (arith, count-le circuit l n))
last_level circuit n (suc fuel) l h =
    elim (count-grows circuit l n) [
      | inl stable ↦ (l, stable.0)
      | inr less ↦ last_level circuit n fuel (suc l) (omega arith)
    ]

-- what has a level is within the last
within_last : (circuit : Circuit) (m : ℕ) → IsStable circuit m (length circuit.defs) → (l s : ℕ) → IsWithin circuit l s → IsWithin circuit m s
within_last circuit m stable zero s h = IsWithin-le circuit 0 m s (omega arith) h
within_last circuit m stable (suc l) s (inl h) = IsWithin-le circuit 0 m s (omega arith) h
within_last circuit m stable (suc l) s (inr only) =
    subst (IsWithin circuit m) (sym only.at) (stable only.place only.there (inr (record {
      place = only.place;
      there = only.there;
      at = refl;
      named = λ k e h. within_last circuit m stable l (get_or (names_of circuit only.place) k e) (only.named k e h);
    })))

abbrev HasSomeLevel : Circuit → ℕ → Type 0
HasSomeLevel circuit d = (level : ℕ) × HasLevel circuit (signal_at circuit d) level

-- a definition has a level, or none
level_or_none : (circuit : Circuit) (d : ℕ) → HasSomeLevel circuit d ⊎ HasNoLevel circuit (signal_at circuit d)
level_or_none circuit d =
    let last = last_level circuit (length circuit.defs) (suc (length circuit.defs)) 0 (omega arith) in
    elim (IsWithin-told circuit last.0 (signal_at circuit d)) [
      | inl within ↦ inl (least_level circuit last.0 (signal_at circuit d) within)
      | inr told_not ↦ inr (λ l h. told_not (within_last circuit last.0 last.1 l (signal_at circuit d) h))
    ]

-- the first n definitions have levels, or one of them is the first without
first_looped : (circuit : Circuit) (n : ℕ) → n ≤ length circuit.defs → ((d : ℕ) → d < n → HasSomeLevel circuit d) ⊎ ((d : ℕ) × IsFirstLooped circuit d)
first_looped circuit zero h = inl (λ d below. absurd (omega arith))
first_looped circuit (suc n) h =
    elim (first_looped circuit n (omega arith)) [
      | inr looped ↦ inr looped
      | inl levels ↦ elim (level_or_none circuit n) [
        | inr none ↦ inr (n, record { there = omega arith; looped = none; first = levels })
        | inl level ↦ inl (λ d below. elim (cases_lt d n) [
          | inl less ↦ levels d less
          | inr past ↦ let e : n ≡ d = omega arith in subst (HasSomeLevel circuit) e level
        ])
      ]
    ]

pub acyclic_or_looped : (circuit : Circuit) → IsAcyclic circuit ⊎ ((d : ℕ) × IsFirstLooped circuit d)
acyclic_or_looped circuit = first_looped circuit (length circuit.defs) (omega arith)
