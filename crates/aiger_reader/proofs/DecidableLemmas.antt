-- For laws over every list of bytes: what holds or doesn't, and the first place where something doesn't hold.
use Rattle.std.proofs.Common.{◌≡◌, ℕ, zero, suc, ◌+◌, ◌<◌, ◌≤◌, ◌⊎◌, Bool, true, false, IsTrue, List, [], ◌∷◌, map, All, Contains, Option, None, Some, inl, inr, refl, ap, subst, arith}
use Rattle.std.proofs.lemmas.Bool.{cases_lt}
use Rattle.std.proofs.lemmas.Bool.Decides.{eqb_tells}
use Rattle.std.proofs.lemmas.List.Elements.{All-nil, All-cons, All-head, All-tail}
use Rattle.circuits.proofs.Lists.{cons_cases}

-- it holds, or it doesn't
abbrev pub Decidable : Type 0 → Type 0
Decidable A = A ⊎ (A → ⊥)

pub decidable_both : {A B : Type 0} → Decidable A → Decidable B → Decidable (A × B)
decidable_both (inl a) (inl b) = inl (a, b)
decidable_both (inl a) (inr not_so) = inr (λ both. not_so both.1)
decidable_both (inr not_so) b = inr (λ both. not_so both.0)

pub decidable_by : {A B : Type 0} → (A → B) → (B → A) → Decidable A → Decidable B
decidable_by to from (inl a) = inl (to a)
decidable_by to from (inr not_so) = inr (λ b. not_so (from b))

pub decidable_if : {A B : Type 0} → Decidable A → Decidable B → Decidable (A → B)
decidable_if (inl a) (inl b) = inl (λ x. b)
decidable_if (inl a) (inr not_so) = inr (λ f. not_so (f a))
decidable_if (inr not_so) b = inl (λ a. absurd (not_so a))

pub decidable_not : {A : Type 0} → Decidable A → Decidable (A → ⊥)
decidable_not (inl a) = inr (λ not_so. not_so a)
decidable_not (inr not_so) = inl not_so

pub decidable_same : (m n : ℕ) → Decidable (m ≡ n)
decidable_same m n = elim (eqb_tells m n) [ inl (t, e) ↦ inl e | inr (f, apart) ↦ inr apart ]

pub decidable_le : (m n : ℕ) → Decidable (m ≤ n)
decidable_le m n = elim (cases_lt n m) [ inl more ↦ inr (λ h. omega (arith, more, h)) | inr most ↦ inl most ]

pub decidable_lt : (m n : ℕ) → Decidable (m < n)
decidable_lt m n = elim (cases_lt m n) [ inl less ↦ inl less | inr most ↦ inr (λ h. omega (arith, most, h)) ]

pub decidable_true : (b : Bool) → Decidable (IsTrue b)
decidable_true true = inl refl
decidable_true false = inr (λ h. cc)

pub decidable_all : {X : Type 0} (P : X → Type 0) → ((x : X) → Decidable (P x)) → (xs : List X) → Decidable (All P xs)
decidable_all P told [] = inl (All-nil P)
decidable_all P told (x ∷ xs) =
    decidable_by (λ both. All-cons P x xs both.0 both.1) (λ all. (All-head P x xs all, All-tail P x xs all)) (decidable_both (told x) (decidable_all P told xs))

pub decidable_list : (xs ys : List ℕ) → Decidable (xs ≡ ys)
decidable_list [] [] = inl refl
decidable_list [] (y ∷ ys) = inr (λ e. cc)
decidable_list (x ∷ xs) [] = inr (λ e. cc)
decidable_list (x ∷ xs) (y ∷ ys) =
    decidable_by (λ both. cc (both.0, both.1)) (λ e. (cc, cc)) (decidable_both (decidable_same x y) (decidable_list xs ys))

pub decidable_contains : (vs : List ℕ) (v : ℕ) → Decidable (Contains vs v)
decidable_contains [] v = inr (λ c. omega (arith, c.1))
decidable_contains (x ∷ vs) v =
    elim (decidable_same x v) [
      | inl e ↦ inl (zero, omega arith, e)
      | inr apart ↦ elim (decidable_contains vs v) [
        | inl c ↦ inl (suc c.0, omega (arith, c.1), c.2)
        | inr none ↦ inr (λ c. elim (cons_cases vs x v c) [ inl e ↦ apart e | inr more ↦ none more ])
      ]
    ]

-- the first place where it doesn't hold
abbrev pub IsFirstNot : (ℕ → Type 0) → ℕ → ℕ → Type 0
IsFirstNot P n k = (k < n) × (P k → ⊥) × ((j : ℕ) → j < k → P j)

-- all of the first n, or the first that isn't
pub all_or_first : (P : ℕ → Type 0) → ((k : ℕ) → Decidable (P k)) → (n : ℕ) → ((k : ℕ) → k < n → P k) ⊎ ((k : ℕ) × IsFirstNot P n k)
all_or_first P told zero = inl (λ k below. absurd (omega (arith, below)))
all_or_first P told (suc n) =
    elim (all_or_first P told n) [
      | inr found ↦ inr (found.0, (omega (arith, found.1.0), found.1.1, found.1.2))
      | inl all ↦ elim (told n) [
        | inr not_so ↦ inr (n, (omega arith, not_so, all))
        | inl here ↦ inl (λ k below. elim (cases_lt k n) [
          | inl less ↦ all k less
          | inr past ↦ let e : n ≡ k = omega (arith, past, below) in subst P e here
        ])
      ]
    ]

-- as many steps as are asked for, or what stops the first that can't be made
pub steps_or : (F : ℕ → Type 0) (B : Type 0) (count : ℕ) → F 0 → ((n : ℕ) → n < count → F n → F (n + 1) ⊎ B) → F count ⊎ B
steps_or F B zero first step = inl first
steps_or F B (suc n) first step =
    let e : n + 1 ≡ suc n = omega arith in
    elim (steps_or F B n first (λ k below. step k (omega (arith, below)))) [
      | inl before ↦ subst (λ m. F m ⊎ B) e (step n (omega arith) before)
      | inr bad ↦ inr bad
    ]

-- the words are all numbers
abbrev pub AreSome : List (Option ℕ) → Type 0
AreSome words = (numbers : List ℕ) × (words ≡ map Some numbers)

not_some : (words : List (Option ℕ)) (numbers : List ℕ) → None ∷ words ≡ map Some numbers → ⊥
not_some words [] e = cc
not_some words (n ∷ numbers) e = cc

some_after : (word : Option ℕ) (words : List (Option ℕ)) (numbers : List ℕ) → word ∷ words ≡ map Some numbers → AreSome words
some_after word words [] e = absurd (cc)
some_after word words (n ∷ numbers) e = (numbers, cc)

pub decidable_some : (words : List (Option ℕ)) → Decidable (AreSome words)
decidable_some [] = inl ([], refl)
decidable_some (None ∷ words) = inr (λ some. not_some words some.0 some.1)
decidable_some (Some n ∷ words) =
    decidable_by (λ some. (n ∷ some.0, ap (λ ws. Some n ∷ ws) some.1)) (λ some. some_after (Some n) words some.0 some.1) (decidable_some words)
