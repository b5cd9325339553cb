-- That levels are what they are called: they grow along a netlist, and what reaches a cycle has none.
use Rattle.std.proofs.Common.{ℕ, zero, suc, ◌+◌, ◌-◌, ◌<◌, ◌≤◌, ◌≡◌, ◌⊎◌, max, List, [], ◌∷◌, ◌++◌, length, All, get_or, refl, sym, subst, inl, inr, arith}
use Rattle.std.proofs.lemmas.Bool.{cases_lt}
use Rattle.std.proofs.lemmas.List.{get_or_append_left, get_or_push, length_push}
use Rattle.std.proofs.lemmas.List.Elements.{All-nil, All-push, All-cons}
use Rattle.circuits.specs.declared.definition.Def.TheVariants.{Cover}
use Rattle.std.specs.Prelude.{true}
use Rattle.circuits.specs.Circuits.{Circuit, IsClosed, signals_in, signal_at, names_of}
use Rattle.circuits.specs.Levels.{NamesOnly, IsWithin, HasLevel, HaveLevel, HasNoLevel, Names, Reaches}

-- what is within a level is within the next
pub IsWithin-suc : (circuit : Circuit) (l s : ℕ) → IsWithin circuit l s → IsWithin circuit (suc l) s
IsWithin-suc circuit zero s h = inl h
IsWithin-suc circuit (suc l) s (inl h) = inl h
IsWithin-suc circuit (suc l) s (inr only) =
    inr (record {
      place = only.place;
      there = only.there;
      at = only.at;
      named = λ k e h. IsWithin-suc circuit l (get_or (names_of circuit only.place) k e) (only.named k e h);
    })

pub IsWithin-add : (circuit : Circuit) (l k s : ℕ) → IsWithin circuit l s → IsWithin circuit (l + k) s
IsWithin-add circuit l zero s h = let e : l ≡ l + 0 = omega arith in subst (λ n. IsWithin circuit n s) e h
IsWithin-add circuit l (suc k) s h =
    let e : suc (l + k) ≡ l + suc k = omega arith in
    subst (λ n. IsWithin circuit n s) e (IsWithin-suc circuit (l + k) s (IsWithin-add circuit l k s h))

-- and within each higher one
pub IsWithin-le : (circuit : Circuit) (l m s : ℕ) → l ≤ m → IsWithin circuit l s → IsWithin circuit m s
IsWithin-le circuit l m s le h =
    let e : l + (m - l) ≡ m = omega arith in
    subst (λ n. IsWithin circuit n s) e (IsWithin-add circuit l (m - l) s h)

pub HasLevel-input : (circuit : Circuit) (s : ℕ) → s < 1 + circuit.inputs → HasLevel circuit s 0
HasLevel-input circuit s h = record { within = h; least = λ l _. omega arith }

pub HasLevel-only : (circuit : Circuit) (s l m : ℕ) → HasLevel circuit s l → HasLevel circuit s m → l ≡ m
HasLevel-only circuit s l m one other = omega (arith, one.least m other.within, other.least l one.within)

-- what a definition names is within the level below its own
pub IsWithin-named : (circuit : Circuit) (d l : ℕ) → IsWithin circuit (suc l) (signal_at circuit d) → All (IsWithin circuit l) (names_of circuit d)
IsWithin-named circuit d l (inl h) = absurd (omega arith)
IsWithin-named circuit d l (inr only) =
    let e : only.place ≡ d = omega (arith, only.at) in
    subst (λ n. All (IsWithin circuit l) (names_of circuit n)) e only.named

pub HaveLevel-none : (circuit : Circuit) → HaveLevel circuit [] 0
HaveLevel-none circuit = record { within = All-nil (IsWithin circuit 0); least = λ l _. omega arith }

-- one signal more
pub HaveLevel-more : (circuit : Circuit) (signals : List ℕ) (s l m : ℕ) → HaveLevel circuit signals l → HasLevel circuit s m → HaveLevel circuit (signals ++ s ∷ []) (max l m)
HaveLevel-more circuit signals s l m have has = record {
  within = All-push (IsWithin circuit (max l m)) signals s (λ k d h. IsWithin-le circuit l (max l m) (get_or signals k d) (omega arith) (have.within k d h)) (IsWithin-le circuit m (max l m) s (omega arith) has.within);
  least = at_least;
}
  where
    at_least : (n : ℕ) → All (IsWithin circuit n) (signals ++ s ∷ []) → max l m ≤ n
    at_least n all =
        let before : All (IsWithin circuit n) signals = λ k d h. subst (IsWithin circuit n) (get_or_append_left signals (s ∷ []) d k h) (all k d (omega (arith, length_push signals s))) in
        let last : IsWithin circuit n s = subst (IsWithin circuit n) (get_or_push signals s s (length signals) refl) (all (length signals) s (omega (arith, length_push signals s))) in
        omega (arith, have.least n before, has.least n last)

-- a definition is one level above what it names
pub HasLevel-above : (circuit : Circuit) (d n : ℕ) → d < length circuit.defs → HaveLevel circuit (names_of circuit d) n → HasLevel circuit (signal_at circuit d) (suc n)
HasLevel-above circuit d n h have = record {
  within = inr (record { place = d; there = h; at = refl; named = have.within });
  least = at_least;
}
  where
    at_least : (l : ℕ) → IsWithin circuit l (signal_at circuit d) → suc n ≤ l
    at_least zero within = absurd (omega arith)
    at_least (suc l) within = omega (arith, have.least l (IsWithin-named circuit d l within))

-- and where it has a level, what it names has the level below
pub HaveLevel-below : (circuit : Circuit) (d n : ℕ) → d < length circuit.defs → HasLevel circuit (signal_at circuit d) (suc n) → HaveLevel circuit (names_of circuit d) n
HaveLevel-below circuit d n h has = record {
  within = IsWithin-named circuit d n has.within;
  least = λ l all. omega (arith, has.least (suc l) (inr (record { place = d; there = h; at = refl; named = all })));
}

-- signals that each name one of them have no level
pub no_level : (circuit : Circuit) (P : ℕ → Type 0) → ((s : ℕ) → P s → (u : ℕ) × Names circuit s u × P u) → (l s : ℕ) → P s → IsWithin circuit l s → ⊥
no_level circuit P next zero s p h = let n = next s p in omega (arith, n.1.at)
no_level circuit P next (suc l) s p (inl h) = let n = next s p in omega (arith, n.1.at)
no_level circuit P next (suc l) s p (inr only) =
    let n = next s p in
    let same : only.place ≡ n.1.place = omega (arith, n.1.at, only.at) in
    let at = n.1.named in
    let named = subst (λ place. All (IsWithin circuit l) (names_of circuit place)) same only.named in
    no_level circuit P next l n.0 n.2 (subst (IsWithin circuit l) at.2 (named at.0 n.0 at.1))

-- what reaches a cycle has no level
pub no_level-cycle : (circuit : Circuit) (j k s t : ℕ) → Reaches circuit j s t → Reaches circuit (suc k) t t → HasNoLevel circuit s
no_level-cycle circuit j k s t way cycle =
    λ l. no_level circuit (λ u. (n : ℕ) × Reaches circuit n u t) on l s (j, way)
  where
    step : (u n : ℕ) → Reaches circuit n u t → (w : ℕ) × Names circuit u w × ((m : ℕ) × Reaches circuit m w t)
    step u zero here = (cycle.0, subst (λ w. Names circuit w cycle.0) (sym here) cycle.1, (k, cycle.2))
    step u (suc n) there = (there.0, there.1, (n, there.2))

    on : (u : ℕ) → ((n : ℕ) × Reaches circuit n u t) → (w : ℕ) × Names circuit u w × ((m : ℕ) × Reaches circuit m w t)
    on u way = step u way.0 way.1

-- whether all of a list has P, where P can be decided of each
pub All-told : (P : ℕ → Type 0) → ((s : ℕ) → P s ⊎ (P s → ⊥)) → (xs : List ℕ) → All P xs ⊎ (All P xs → ⊥)
All-told P tell [] = inl (All-nil P)
All-told P tell (x ∷ xs) = both (tell x) (All-told P tell xs)
  where
    both : P x ⊎ (P x → ⊥) → All P xs ⊎ (All P xs → ⊥) → All P (x ∷ xs) ⊎ (All P (x ∷ xs) → ⊥)
    both (inl first) (inl rest) = inl (All-cons P x xs first rest)
    both (inl first) (inr not_rest) = inr (λ all. not_rest (λ k d h. all (suc k) d (omega arith)))
    both (inr not_first) rest = inr (λ all. not_first (all 0 0 (omega arith)))

-- whether a signal is within a level
pub IsWithin-told : (circuit : Circuit) (l s : ℕ) → IsWithin circuit l s ⊎ (IsWithin circuit l s → ⊥)
IsWithin-told circuit zero s =
    elim (cases_lt s (1 + circuit.inputs)) [
      | inl less ↦ inl less
      | inr past ↦ inr (λ h. omega arith)
    ]
IsWithin-told circuit (suc l) s =
    elim (cases_lt s (1 + circuit.inputs)) [
      | inl less ↦ inl (inl less)
      | inr past ↦ elim (cases_lt (s - (1 + circuit.inputs)) (length circuit.defs)) [
        | inr outside ↦ inr (λ h. nowhere outside past h)
        | inl inside ↦ elim (All-told (IsWithin circuit l) (λ u. IsWithin-told circuit l u) (names_of circuit (s - (1 + circuit.inputs)))) [
          | inl all ↦ inl (inr (record {
            place = s - (1 + circuit.inputs);
            there = inside;
            at = omega arith;
            named = all;
          }))
          | inr told_not ↦ inr (λ h. not_all past told_not h)
        ]
      ]
    ]
  where
    nowhere : length circuit.defs ≤ s - (1 + circuit.inputs) → 1 + circuit.inputs ≤ s → ((s < 1 + circuit.inputs) ⊎ NamesOnly circuit (IsWithin circuit l) s) → ⊥
    nowhere outside past (inl h) = omega arith
    nowhere outside past (inr only) = omega (arith, only.there, only.at)

    not_all : 1 + circuit.inputs ≤ s → (All (IsWithin circuit l) (names_of circuit (s - (1 + circuit.inputs))) → ⊥) → ((s < 1 + circuit.inputs) ⊎ NamesOnly circuit (IsWithin circuit l) s) → ⊥
    not_all past told_not (inl h) = omega arith
    not_all past told_not (inr only) =
        let e : only.place ≡ s - (1 + circuit.inputs) = omega (arith, only.at) in
        told_not (subst (λ n. All (IsWithin circuit l) (names_of circuit n)) e only.named)

-- what is within a level has one
pub least_level : (circuit : Circuit) (l s : ℕ) → IsWithin circuit l s → (m : ℕ) × HasLevel circuit s m
least_level circuit zero s h = (0, HasLevel-input circuit s h)
least_level circuit (suc l) s h =
    elim (IsWithin-told circuit l s) [
      | inl lower ↦ least_level circuit l s lower
      | inr told_not ↦ (
        suc l,
        record {
          within = h;
          least = λ n within. elim (cases_lt n (suc l)) [
            | inl less ↦ absurd (told_not (IsWithin-le circuit n l s (omega arith) within))
            | inr past ↦ past
          ];
        },
      )
    ]

-- a closed netlist has the signals that its definitions name
pub IsClosed-named : (circuit : Circuit) (d : ℕ) → IsClosed circuit → d < length circuit.defs → All (λ s. s < signals_in circuit) (names_of circuit d)
IsClosed-named circuit d closed h = closed.defs d (Cover [] [] true) h
