-- Chains of signals that aren't replaced.
use Rattle.std.proofs.Common.{◌≡◌, ℕ, ◌+◌, ◌<◌, List, Option, None, Some, length, set, replicate, inl, inr, sym, ap, subst, ◌∙◌, arith}
use Rattle.std.proofs.lemmas.Bool.{cases_lt}
use Rattle.std.proofs.lemmas.Bool.Decides.{eqb_tells}
use Rattle.std.proofs.lemmas.List.{get_or-replicate, get_or-set_other, get_or-set_same, length-replicate, length-set}
use Rattle.circuits.specs.declared.netlist.Lit.{Lit}
use Rattle.sweep.specs.declared.classes.Member.{Member}
use Rattle.sweep.specs.Classes.{member_at}
use Rattle.sweep.specs.Leaders.{AreChained, IsLast, Leads, LeadsIn, some_at}

-- the last of the numbers with a property, where one more hasn't it
last_more : (P : ℕ → Type 0) (n : ℕ) (x : Option ℕ) → (P n → ⊥) → IsLast P n x → IsLast P (n + 1) x
last_more P n None never is = λ u below p. elim (cases_lt u n) [
  | inl less ↦ is u less p
  | inr last ↦ never (subst P (omega (arith, last, below)) p)
]
last_more P n (Some q) never is = (
  omega (arith, is.0),
  is.1,
  λ u later below p. elim (cases_lt u n) [
    | inl less ↦ is.2 u later less p
    | inr last ↦ never (subst P (omega (arith, last, below)) p)
  ],
)

-- where one property is the other below n
last_same : (P Q : ℕ → Type 0) (n : ℕ) (x : Option ℕ) → ((u : ℕ) → u < n → P u → Q u) → ((u : ℕ) → u < n → Q u → P u) → IsLast P n x → IsLast Q n x
last_same P Q n None to from is = λ u below q. is u below (from u below q)
last_same P Q n (Some p) to from is = (is.0, to p is.0 is.1, λ u later below q. is.2 u later below (from u below q))

-- none at first
pub chained_none : (members : List Member) (replacements : List Lit) (last before : List (Option ℕ)) → last ≡ replicate (length members) None → before ≡ replicate (length members) None → AreChained members replacements 0 last before
chained_none members replacements last before last_is before_is = record {
  last_count = ap length last_is ∙ length-replicate (length members) None;
  before_count = ap length before_is ∙ length-replicate (length members) None;
  last_of = λ class below.
      let at : some_at last class ≡ None = ap (λ xs. some_at xs class) last_is ∙ get_or-replicate (length members) class None None below in
      subst (IsLast (LeadsIn members replacements class) 0) (sym at) (λ u none p. absurd (omega (arith, none)));
  before_of = λ s below leads. absurd (omega (arith, below));
}

-- a signal that isn't replaced comes last in its class
pub chained_add : (members : List Member) (replacements : List Lit) (n : ℕ) (last before new_last new_before : List (Option ℕ)) → n < length members → (member_at members n).class < length members → Leads replacements n → new_before ≡ set before n (some_at last (member_at members n).class) → new_last ≡ set last (member_at members n).class (Some n) → AreChained members replacements n last before → AreChained members replacements (n + 1) new_last new_before
chained_add members replacements n last before new_last new_before there class_there leads before_is last_is chained = record {
  last_count = ap length last_is ∙ (length-set last c (Some n) ∙ chained.last_count);
  before_count = ap length before_is ∙ (length-set before n (some_at last c) ∙ chained.before_count);
  last_of = λ class below. elim (eqb_tells class c) [
    | inl (found, e) ↦
        let at : some_at new_last class ≡ Some n = ap (λ xs. some_at xs class) last_is ∙ (ap (some_at (set last c (Some n))) e ∙ get_or-set_same last c (Some n) None (omega (arith, class_there, chained.last_count))) in
        subst (IsLast (LeadsIn members replacements class) (n + 1)) (sym at) (omega arith, (sym e, leads), λ u later less p. absurd (omega (arith, later, less)))
    | inr (found, apart) ↦
        let at : some_at new_last class ≡ some_at last class = ap (λ xs. some_at xs class) last_is ∙ get_or-set_other last c class (Some n) None apart in
        subst (IsLast (LeadsIn members replacements class) (n + 1)) (sym at) (last_more (LeadsIn members replacements class) n (some_at last class) (λ p. apart (sym p.0)) (chained.last_of class below))
  ];
  before_of = λ s below leads_s. elim (eqb_tells s n) [
    | inl (found, e) ↦
        let at : some_at new_before n ≡ some_at last c = ap (λ xs. some_at xs n) before_is ∙ get_or-set_same before n (some_at last c) None (omega (arith, there, chained.before_count)) in
        subst (λ u. IsLast (LeadsIn members replacements (member_at members u).class) u (some_at new_before u)) (sym e) (subst (IsLast (LeadsIn members replacements c) n) (sym at) (chained.last_of c class_there))
    | inr (found, apart) ↦
        let at : some_at new_before s ≡ some_at before s = ap (λ xs. some_at xs s) before_is ∙ get_or-set_other before n s (some_at last c) None apart in
        subst (IsLast (LeadsIn members replacements (member_at members s).class) s) (sym at) (chained.before_of s (omega (arith, below, apart)) leads_s)
  ];
}
  where
    c : ℕ
    c = (member_at members n).class

-- a signal that is replaced is in no chain
pub chained_skip : (members : List Member) (replacements : List Lit) (n : ℕ) (last before : List (Option ℕ)) → (Leads replacements n → ⊥) → AreChained members replacements n last before → AreChained members replacements (n + 1) last before
chained_skip members replacements n last before never chained = record {
  last_count = chained.last_count;
  before_count = chained.before_count;
  last_of = λ class below. last_more (LeadsIn members replacements class) n (some_at last class) (λ p. never p.1) (chained.last_of class below);
  before_of = λ s below leads. elim (cases_lt s n) [
    | inl less ↦ chained.before_of s less leads
    | inr end ↦ absurd (never (subst (Leads replacements) (omega (arith, end, below)) leads))
  ];
}

-- where the same signals aren't replaced
pub chained_same : (members : List Member) (old new : List Lit) (n : ℕ) (last before : List (Option ℕ)) → ((u : ℕ) → u < n → Leads old u → Leads new u) → ((u : ℕ) → u < n → Leads new u → Leads old u) → AreChained members old n last before → AreChained members new n last before
chained_same members old new n last before to from chained = record {
  last_count = chained.last_count;
  before_count = chained.before_count;
  last_of = λ class below. last_same (LeadsIn members old class) (LeadsIn members new class) n (some_at last class) (λ u less p. (p.0, to u less p.1)) (λ u less p. (p.0, from u less p.1)) (chained.last_of class below);
  before_of = λ s below leads.
      let class = (member_at members s).class in
      last_same (LeadsIn members old class) (LeadsIn members new class) s (some_at before s) (λ u less p. (p.0, to u (omega (arith, less, below)) p.1)) (λ u less p. (p.0, from u (omega (arith, less, below)) p.1)) (chained.before_of s below (from s below leads));
}
