-- That a netlist without a cycle has at most one order by levels, and is in order as at most one netlist.
use Rattle.std.proofs.Common.{ℕ, zero, suc, ◌<◌, ◌≤◌, ◌≡◌, ◌⊎◌, List, length, get_or, All, AllPairs, Contains, sym, ap, subst, ◌∙◌, inl, inr, arith, ext_get_or}
use Rattle.std.proofs.lemmas.Bool.{cases_lt}
use Rattle.std.proofs.lemmas.List.{get_or_default}
use Rattle.circuits.specs.Netlists.{Net}
use Rattle.circuits.specs.Circuits.{Circuit, signal_at}
use Rattle.circuits.specs.Expansion.{expanded}
use Rattle.circuits.specs.Levels.{HasLevel, IsAcyclic, IsFirstLooped, ComesBefore, IsLevelOrder, IsOrderOf}
use Rattle.circuits.proofs.LevelOrders.{IsLevelOrder-entries, IsLevelOrder-in_range, IsLevelOrder-onto}

-- where a number stands, read at the default 0
place_in : (order : List ℕ) (d : ℕ) → Contains order d → (k : ℕ) × (k < length order) × (get_or order k 0 ≡ d)
place_in order d at = (at.0, at.1, get_or_default order at.0 0 d at.1 ∙ at.2)

-- the list has each number below n and no other, and R holds of each element and each later one
record IsAscending (R : ℕ → ℕ → Type 0) (n : ℕ) (xs : List ℕ) : Type 0 where
  pub entries : length xs ≡ n
  pub in_range : All (λ d. d < n) xs
  pub ascending : AllPairs R xs
  pub onto : (d : ℕ) → d < n → Contains xs d

-- R never holds of two numbers below n both ways
abbrev IsOneWay : (ℕ → ℕ → Type 0) → ℕ → Type 0
IsOneWay R n = (d e : ℕ) → d < n → e < n → R d e → R e d → ⊥

-- where the first k elements are the same, the first list doesn't have among them what the second has at k
following : (R : ℕ → ℕ → Type 0) (n : ℕ) (a b : List ℕ) (k p : ℕ) → IsOneWay R n → IsAscending R n b → k < n → get_or a p 0 ≡ get_or b k 0 → (p < k → get_or a p 0 ≡ get_or b p 0) → k ≤ p
following R n a b k p apart other h same agree =
    elim (cases_lt p k) [
      | inr past ↦ past
      | inl less ↦
          let within : k < length b = omega (arith, other.entries) in
          let below = other.in_range k 0 within in
          let e : get_or b p 0 ≡ get_or b k 0 = sym (agree less) ∙ same in
          let itself = subst (λ x. R x (get_or b k 0)) e (other.ascending p k 0 less within) in
          absurd (apart (get_or b k 0) (get_or b k 0) below below itself itself)
    ]

-- what stands at a place is what stands at one no earlier, or R holds of the two
ahead : (R : ℕ → ℕ → Type 0) (a : List ℕ) (k p d : ℕ) → AllPairs R a → k ≤ p → p < length a → get_or a p 0 ≡ d → (get_or a k 0 ≡ d) ⊎ R (get_or a k 0) d
ahead R a k p d ascending le h same =
    elim (cases_lt k p) [
      | inl less ↦ inr (subst (R (get_or a k 0)) same (ascending k p 0 less h))
      | inr past ↦ let e : k ≡ p = omega arith in inl (ap (λ n. get_or a n 0) e ∙ same)
    ]

-- where the first k elements are the same, what the two lists have at k is the same, or R holds of the two
next : (R : ℕ → ℕ → Type 0) (n : ℕ) (a b : List ℕ) (k : ℕ) → IsOneWay R n → IsAscending R n a → IsAscending R n b → k < n → ((j : ℕ) → j < k → get_or a j 0 ≡ get_or b j 0) → (get_or a k 0 ≡ get_or b k 0) ⊎ R (get_or a k 0) (get_or b k 0)
next R n a b k apart one other h earlier =
    let there = other.in_range k 0 (omega (arith, other.entries)) in
    let p = place_in a (get_or b k 0) (one.onto (get_or b k 0) there) in
    ahead R a k p.0 (get_or b k 0) one.ascending (following R n a b k p.0 apart other h p.2 (earlier p.0)) p.1 p.2

-- so they have the same there
same_at : (R : ℕ → ℕ → Type 0) (n : ℕ) (a b : List ℕ) (k : ℕ) → IsOneWay R n → IsAscending R n a → IsAscending R n b → k < n → ((j : ℕ) → j < k → get_or a j 0 ≡ get_or b j 0) → get_or a k 0 ≡ get_or b k 0
same_at R n a b k apart one other h earlier =
    elim (next R n a b k apart one other h earlier) [
      | inl same ↦ same
      | inr before ↦ elim (next R n b a k apart other one h (λ j less. sym (earlier j less))) [
        | inl same ↦ sym same
        | inr after ↦ absurd (apart (get_or a k 0) (get_or b k 0) (one.in_range k 0 (omega (arith, one.entries))) (other.in_range k 0 (omega (arith, other.entries))) before after)
      ]
    ]

-- and at each of the first m places
same_below : (R : ℕ → ℕ → Type 0) (n : ℕ) (a b : List ℕ) → IsOneWay R n → IsAscending R n a → IsAscending R n b → (m k : ℕ) → k < m → k < n → get_or a k 0 ≡ get_or b k 0
same_below R n a b apart one other zero k h within = omega arith
same_below R n a b apart one other (suc m) k h within =
    same_at R n a b k apart one other within (λ j less. same_below R n a b apart one other m j (omega arith) (omega arith))

-- of two definitions that have levels, not each comes before the other
pub ComesBefore-apart : (circuit : Circuit) (d e l m : ℕ) → HasLevel circuit (signal_at circuit d) l → HasLevel circuit (signal_at circuit e) m → ComesBefore circuit d e → ComesBefore circuit e d → ⊥
ComesBefore-apart circuit d e l m one two before after =
    elim (before l m one two) [
      | inl up ↦ elim (after m l two one) [
        | inl down ↦ omega arith
        | inr level ↦ omega (arith, level.0)
      ]
      | inr first ↦ elim (after m l two one) [
        | inl down ↦ omega (arith, first.0)
        | inr level ↦ omega (arith, first.1, level.1)
      ]
    ]

-- a netlist without a cycle has at most one order by levels
pub one_level_order : (circuit : Circuit) (a b : List ℕ) → IsAcyclic circuit → IsLevelOrder circuit a → IsLevelOrder circuit b → a ≡ b
one_level_order circuit a b acyclic one other =
    ext_get_or 0 a b (omega (arith, IsLevelOrder-entries circuit a one, IsLevelOrder-entries circuit b other)) (λ k h. same_below (ComesBefore circuit) (length circuit.defs) a b apart (ascends a one) (ascends b other) (suc k) k (omega arith) (omega (arith, IsLevelOrder-entries circuit a one)))
  where
    apart : IsOneWay (ComesBefore circuit) (length circuit.defs)
    apart d e d_in e_in =
        let l = acyclic d d_in in
        let m = acyclic e e_in in
        ComesBefore-apart circuit d e l.0 m.0 l.1 m.1

    ascends : (xs : List ℕ) → IsLevelOrder circuit xs → IsAscending (ComesBefore circuit) (length circuit.defs) xs
    ascends xs is = record {
      entries = IsLevelOrder-entries circuit xs is;
      in_range = IsLevelOrder-in_range circuit xs is;
      ascending = is.ascending;
      onto = IsLevelOrder-onto circuit xs is;
    }

-- a netlist without a cycle is in order as at most one netlist
pub one_order : (circuit : Circuit) (a b : Net) → IsAcyclic circuit → IsOrderOf circuit a → IsOrderOf circuit b → a ≡ b
one_order circuit a b acyclic one other =
    one.is ∙ (ap (expanded circuit) (one_level_order circuit one.order other.order acyclic one.is_order other.is_order) ∙ sym other.is)

-- no definition before the first without a level lacks one
IsFirstLooped-least : (circuit : Circuit) (d e : ℕ) → IsFirstLooped circuit d → IsFirstLooped circuit e → e ≤ d
IsFirstLooped-least circuit d e one other =
    elim (cases_lt d e) [
      | inl less ↦ let has = other.first d less in absurd (one.looped has.0 has.1.within)
      | inr past ↦ past
    ]

-- at most one definition is the first without a level
pub one_first_looped : (circuit : Circuit) (d e : ℕ) → IsFirstLooped circuit d → IsFirstLooped circuit e → d ≡ e
one_first_looped circuit d e one other =
    omega (arith, IsFirstLooped-least circuit d e one other, IsFirstLooped-least circuit e d other one)

-- and a netlist without a cycle has none
pub acyclic_not_looped : (circuit : Circuit) (d : ℕ) → IsAcyclic circuit → IsFirstLooped circuit d → ⊥
acyclic_not_looped circuit d acyclic is =
    let has = acyclic d is.there in
    is.looped has.0 has.1.within
