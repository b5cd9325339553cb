-- Clauses that lead to a conflict, and what one of them does on the way.
use Rattle.std.proofs.Common.{◌≡◌, ◌⊎◌, ℕ, ◌<◌, ◌&&◌, ◌||◌, not, cond, true, false, List, [], ◌∷◌, ◌++◌, length, inl, inr, refl, sym, ◌∙◌, ap, subst}
use Rattle.std.specs.List.{list_all, AllByRecursion}
use Rattle.std.proofs.lemmas.Bool.{false≢true, cases_Bool, or_cases, or_left, or_right}
use Rattle.cnf_core.specs.declared.literal.SatLit.{SatLit}
use Rattle.cnf_core.specs.declared.effect.Effect.{Effect}
use Rattle.cnf_core.specs.declared.effect.Effect.TheVariants.{Conflict, Makes, Neither}
use Rattle.cnf_core.specs.Clauses.{clause_at, opposite}
use Rattle.cnf_core.specs.Derivations.{effect_by, effect_of, is_false, is_same, is_true}
use Rattle.joint_hash.specs.Chains.{LeadOn, LeavesOnly}
use Rattle.cnf_core.proofs.LiteralLemmas.{same_from, same_itself, same_literal}
use Rattle.cnf_core.proofs.EffectLemmas.{open_ones, true_more}

-- ---- what is true with one literal more

pub stays_true : (made : List SatLit) (l m : SatLit) → is_true made m ≡ true → is_true (made ++ l ∷ []) m ≡ true
stays_true made l m truth = true_more made l m ∙ or_left (is_true made m) (is_same m l || false) truth

pub last_true : (made : List SatLit) (l : SatLit) → is_true (made ++ l ∷ []) l ≡ true
last_true made l = true_more made l l ∙ or_right (is_true made l) (is_same l l || false) (or_left (is_same l l) false (same_itself l))

true_before : (made : List SatLit) (l m : SatLit) → is_true (made ++ l ∷ []) m ≡ true → (is_true made m ≡ true) ⊎ (m ≡ l)
true_before made l m truth =
    elim (or_cases (is_true made m) (is_same m l || false) (sym (true_more made l m) ∙ truth)) [
      | inl front ↦ inl front
      | inr after ↦ elim (or_cases (is_same m l) false after) [ inl same ↦ inr (same_literal m l same) | inr none ↦ absurd (false≢true none) ]
    ]

-- all that is true by these is true by those
abbrev pub AreTrueBy : List SatLit → List SatLit → Type 0
AreTrueBy made more = (l : SatLit) → is_true made l ≡ true → is_true more l ≡ true

both_with : (made more : List SatLit) (l : SatLit) → AreTrueBy made more → AreTrueBy (made ++ l ∷ []) (more ++ l ∷ [])
both_with made more l within m truth =
    elim (true_before made l m truth) [
      | inl early ↦ stays_true more l m (within m early)
      | inr same ↦ ap (is_true (more ++ l ∷ [])) same ∙ last_true more l
    ]

-- what is true already adds nothing
pub nothing_new : (made : List SatLit) (l : SatLit) → is_true made l ≡ true → AreTrueBy (made ++ l ∷ []) made
nothing_new made l truth m later =
    elim (true_before made l m later) [ inl early ↦ early | inr same ↦ ap (is_true made) same ∙ truth ]

-- ---- with more that is true the same clauses lead on

false_too : (made more : List SatLit) (clause : List SatLit) → AreTrueBy made more → AllByRecursion (λ l. is_false made l ≡ true) clause → AllByRecursion (λ l. is_false more l ≡ true) clause
false_too made more [] within all = tt
false_too made more (l ∷ clause) within all = (within (opposite l) all.0, false_too made more clause within all.1)

leaves_too : (made more : List SatLit) (clause : List SatLit) (l : SatLit) → AreTrueBy made more → LeavesOnly made clause l → LeavesOnly more clause l
leaves_too made more [] l within all = tt
leaves_too made more (m ∷ clause) l within all =
    (elim all.0 [ inl same ↦ inl same | inr falsity ↦ inr (within (opposite m) falsity) ], leaves_too made more clause l within all.1)

pub lead_too : (clauses : List (List SatLit)) (made more : List SatLit) (ids : List ℕ) → AreTrueBy made more → LeadOn clauses made ids → LeadOn clauses more ids
lead_too clauses made more [] within leads = leads
lead_too clauses made more (id ∷ ids) within leads = (
  leads.0,
  elim leads.1 [
    | inl all ↦ inl (false_too made more (clause_at clauses id) within all)
    | inr (l, only, rest) ↦ inr (l, leaves_too made more (clause_at clauses id) l within only, lead_too clauses (made ++ l ∷ []) (more ++ l ∷ []) ids (both_with made more l within) rest)
  ],
)

-- ---- what a clause does

-- of a clause whose literals are all false nothing is left
none_open : (made clause : List SatLit) → AllByRecursion (λ l. is_false made l ≡ true) clause → open_ones made clause ≡ []
none_open made [] all = refl
none_open made (l ∷ clause) all =
    ap (λ b. cond (not b) (l ∷ open_ones made clause) (open_ones made clause)) all.0 ∙ none_open made clause all.1

pub all_false : (made clause : List SatLit) → AllByRecursion (λ l. is_false made l ≡ true) clause → effect_of made clause ≡ Conflict
all_false made clause all = ap (effect_by made) (none_open made clause all)

-- what is left is this literal, some times
only_open : (made clause : List SatLit) (l : SatLit) → LeavesOnly made clause l → AllByRecursion (λ m. m ≡ l) (open_ones made clause)
only_open made [] l only = tt
only_open made (m ∷ clause) l only =
    elim (cases_Bool (is_false made m)) [
      | inl falsity ↦
          subst (AllByRecursion (λ x. x ≡ l)) (sym (ap (λ b. cond (not b) (m ∷ open_ones made clause) (open_ones made clause)) falsity)) (only_open made clause l only.1)
      | inr free ↦
          subst (AllByRecursion (λ x. x ≡ l)) (sym (ap (λ b. cond (not b) (m ∷ open_ones made clause) (open_ones made clause)) free)) (one_of free only.0, only_open made clause l only.1)
    ]
  where
    one_of : is_false made m ≡ false → (m ≡ l) ⊎ (is_false made m ≡ true) → m ≡ l
    one_of free (inl same) = same
    one_of free (inr falsity) = absurd (false≢true (sym free ∙ falsity))

all_one : (l m : SatLit) (others : List SatLit) → m ≡ l → AllByRecursion (λ x. x ≡ l) others → list_all (is_same m) others ≡ true
all_one l m [] same all = refl
all_one l m (x ∷ others) same all =
    ap (λ b. b && list_all (is_same m) others) (same_from m x (same ∙ sym all.0)) ∙ all_one l m others same all.1

-- What a clause does that leaves one literal: it makes it true, or that is true, or it is false too.
abbrev DoesOnly : List SatLit → SatLit → Effect → Type 0
DoesOnly made l Conflict = Unit {0}
DoesOnly made l (Makes m) = m ≡ l
DoesOnly made l Neither = is_true made l ≡ true

does_by : (made : List SatLit) (l : SatLit) (left : List SatLit) → AllByRecursion (λ m. m ≡ l) left → DoesOnly made l (effect_by made left)
does_by made l [] all = tt
does_by made l (m ∷ others) all =
    let one = all_one l m others all.0 all.1 in
    elim (cases_Bool (is_true made m)) [
      | inl truth ↦
          subst (DoesOnly made l) (sym (ap (λ b. cond (b && not (is_true made m)) (Makes m) Neither) one ∙ ap (λ b. cond (not b) (Makes m) Neither) truth)) (ap (is_true made) (sym all.0) ∙ truth)
      | inr free ↦
          subst (DoesOnly made l) (sym (ap (λ b. cond (b && not (is_true made m)) (Makes m) Neither) one ∙ ap (λ b. cond (not b) (Makes m) Neither) free)) all.0
    ]

does_only : (made clause : List SatLit) (l : SatLit) → LeavesOnly made clause l → DoesOnly made l (effect_of made clause)
does_only made clause l only = does_by made l (open_ones made clause) (only_open made clause l only)

-- ---- a step on the way

-- the clause is there
pub lead_there : (clauses : List (List SatLit)) (made : List SatLit) (id : ℕ) (ids : List ℕ) → LeadOn clauses made (id ∷ ids) → id < length clauses
lead_there clauses made id ids leads = leads.0

-- a clause that makes a literal true is on the way
pub lead_makes : (clauses : List (List SatLit)) (made : List SatLit) (id : ℕ) (ids : List ℕ) (m : SatLit) → LeadOn clauses made (id ∷ ids) → effect_of made (clause_at clauses id) ≡ Makes m → LeadOn clauses (made ++ m ∷ []) ids
lead_makes clauses made id ids m leads makes =
    elim leads.1 [
      | inl all ↦ let e : Conflict ≡ Makes m = sym (all_false made (clause_at clauses id) all) ∙ makes in cc
      | inr (l, only, rest) ↦
          let same : m ≡ l = subst (DoesOnly made l) makes (does_only made (clause_at clauses id) l only) in
          subst (λ (x : SatLit). LeadOn clauses (made ++ x ∷ []) ids) (sym same) rest
    ]

-- one that makes nothing true isn't needed
pub lead_neither : (clauses : List (List SatLit)) (made : List SatLit) (id : ℕ) (ids : List ℕ) → LeadOn clauses made (id ∷ ids) → effect_of made (clause_at clauses id) ≡ Neither → LeadOn clauses made ids
lead_neither clauses made id ids leads neither =
    elim leads.1 [
      | inl all ↦ let e : Conflict ≡ Neither = sym (all_false made (clause_at clauses id) all) ∙ neither in cc
      | inr (l, only, rest) ↦
          let truth : is_true made l ≡ true = subst (DoesOnly made l) neither (does_only made (clause_at clauses id) l only) in
          lead_too clauses (made ++ l ∷ []) made ids (nothing_new made l truth) rest
    ]
