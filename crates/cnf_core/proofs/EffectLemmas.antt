-- What the effect of a clause says of its literals, and what it takes.
use Rattle.std.proofs.Common.{◌≡◌, ◌≢◌, ℕ, ◌<◌, ◌&&◌, ◌||◌, not, cond, Bool, true, false, List, [], ◌∷◌, ◌++◌, drop, filter, All, Option, None, Some, IfSome, slice_index_or, inl, inr, refl, sym, ◌∙◌, ap, subst}
use Rattle.std.specs.List.{list_any, list_all}
use Rattle.std.proofs.lemmas.Bool.{false≢true, or_cases, or_left, and_parts, and_from, cases_Bool, cond-true, not-true, true_from_ne_false}
use Rattle.std.proofs.lemmas.List.Elements.{All-contains}
use Rattle.std.proofs.lemmas.List.Folds.{list_any_at, list_any-append}
use Rattle.std.proofs.lemmas.List.Recursion.{and_from_places}
use Rattle.std.proofs.lemmas.Map.Views.{Contains-from_any, any-filter_same}
use Rattle.cnf_core.specs.declared.literal.SatLit.{SatLit}
use Rattle.cnf_core.specs.declared.effect.Effect.{Effect}
use Rattle.cnf_core.specs.declared.effect.Effect.TheVariants.{Conflict, Makes, Neither}
use Rattle.cnf_core.specs.Clauses.{variable_of}
use Rattle.cnf_core.specs.Derivations.{is_same, is_true, is_false, effect_by, effect_of}
use Rattle.cnf_core.proofs.LiteralLemmas.{same_itself, same_literal}

-- the literals that aren't false
abbrev pub open_ones : List SatLit → List SatLit → List SatLit
open_ones made clause = filter (λ l. not (is_false made l)) clause

-- what is true with one literal more
pub true_more : (made : List SatLit) (l m : SatLit) → is_true (made ++ l ∷ []) m ≡ (is_true made m || (is_same m l || false))
true_more made l m = list_any-append (is_same m) made (l ∷ [])

-- what a clause does, by the one literal that was found and by what is left
abbrev pub effect_with : List SatLit → Option SatLit → List SatLit → Effect
effect_with made None left = effect_by made left
effect_with made (Some l) left = cond (list_all (is_same l) left && not (is_true made l)) (Makes l) Neither

-- The first literals of a clause were looked at, and this one was found that isn't false.
pub record IsLooked (made clause : List SatLit) (can_ask : SatLit → Type 0) (count : ℕ) (found : Option SatLit) : Type 0 where
  pub effect : effect_with made found (open_ones made (drop count clause)) ≡ effect_of made clause
  pub asked : IfSome found can_ask

-- a test of the literals that aren't false
pub all_open : (made : List SatLit) (p : SatLit → Bool) (clause : List SatLit) → list_all p (open_ones made clause) ≡ list_all (λ y. is_false made y || p y) clause
all_open made p [] = refl
all_open made p (y ∷ clause) =
    elim (cases_Bool (is_false made y)) [
      | inl e ↦
          ap (λ t. list_all p (cond (not t) (y ∷ open_ones made clause) (open_ones made clause))) e
          ∙ (all_open made p clause ∙ sym (ap (λ t. (t || p y) && list_all (λ y'. is_false made y' || p y') clause) e))
      | inr e ↦
          ap (λ t. list_all p (cond (not t) (y ∷ open_ones made clause) (open_ones made clause))) e
          ∙ (ap (λ t. p y && t) (all_open made p clause) ∙ sym (ap (λ t. (t || p y) && list_all (λ y'. is_false made y' || p y') clause) e))
    ]

-- a literal is among those that aren't false where the clause has it and it isn't
any_open : (made : List SatLit) (l : SatLit) (clause : List SatLit) → list_any (is_same l) (open_ones made clause) ≡ (not (is_false made l) && list_any (is_same l) clause)
any_open made l clause =
    any-filter_same (is_same l) (λ m. not (is_false made m)) (not (is_false made l)) (λ m same. ap (λ x. not (is_false made x)) (sym (same_literal l m same))) clause

pub any_in_open : (made : List SatLit) (l : SatLit) (clause : List SatLit) → is_false made l ≡ false → list_any (is_same l) clause ≡ true → list_any (is_same l) (open_ones made clause) ≡ true
any_in_open made l clause free e =
    any_open made l clause ∙ and_from (not (is_false made l)) (list_any (is_same l) clause) (ap not free) e

-- all literals of a conflict are false, and the other way round
pub conflict_says : (made clause : List SatLit) → effect_of made clause ≡ Conflict → list_all (is_false made) clause ≡ true
conflict_says made clause e = by_open (open_ones made clause) refl
  where
    by_open : (os : List SatLit) → open_ones made clause ≡ os → list_all (is_false made) clause ≡ true
    by_open [] is = and_from_places (list_all (is_false made)) (is_false made) refl (λ _ _. refl) clause (record { 0 = 0 }) (λ k within.
        let l = slice_index_or clause k (record { 0 = 0 }) in
        true_from_ne_false (is_false made l) (λ free. false≢true (sym (ap (list_any (is_same l)) is) ∙ any_in_open made l clause free (list_any_at (is_same l) clause k (record { 0 = 0 }) within (same_itself l)))))
    by_open (x ∷ others) is = absurd (no_conflict (list_all (is_same x) others && not (is_true made x)) (sym (ap (effect_by made) is) ∙ e))
      where
        no_conflict : (t : Bool) → cond t (Makes x) Neither ≡ Conflict → ⊥
        no_conflict true h = let c : Makes x ≡ Conflict = h in cc
        no_conflict false h = let c : Neither ≡ Conflict = h in cc

pub conflict_from : (made clause : List SatLit) → list_all (is_false made) clause ≡ true → effect_of made clause ≡ Conflict
conflict_from made clause all = ap (effect_by made) (none_left clause all)
  where
    none_left : (ys : List SatLit) → list_all (is_false made) ys ≡ true → open_ones made ys ≡ []
    none_left [] h = refl
    none_left (y ∷ ys) h =
        let parts = and_parts (is_false made y) (list_all (is_false made) ys) h in
        ap (λ t. cond (not t) (y ∷ open_ones made ys) (open_ones made ys)) parts.0 ∙ none_left ys parts.1

-- What it says that a clause leaves a single literal.
pub record IsMaker (made clause : List SatLit) (l : SatLit) : Type 0 where
  pub others : list_all (λ y. is_false made y || is_same l y) clause ≡ true
  pub not_true : is_true made l ≡ false
  pub not_false : is_false made l ≡ false
  pub there : list_any (is_same l) clause ≡ true

pub makes_says : (made clause : List SatLit) (l : SatLit) → effect_of made clause ≡ Makes l → IsMaker made clause l
makes_says made clause l e = by_open (open_ones made clause) refl
  where
    by_test : (x : SatLit) (others : List SatLit) (t : Bool) → cond t (Makes x) Neither ≡ Makes l → (t ≡ true) × (x ≡ l)
    by_test x others true h = (refl, let m : Makes x ≡ Makes l = h in cc)
    by_test x others false h = absurd (let m : Neither ≡ Makes l = h in cc)

    by_open : (os : List SatLit) → open_ones made clause ≡ os → IsMaker made clause l
    by_open [] is = absurd (let m : Conflict ≡ Makes l = sym (ap (effect_by made) is) ∙ e in cc)
    by_open (x ∷ others) is =
        let found = by_test x others (list_all (is_same x) others && not (is_true made x)) (sym (ap (effect_by made) is) ∙ e) in
        let parts = and_parts (list_all (is_same x) others) (not (is_true made x)) found.0 in
        let all = and_from (is_same x x) (list_all (is_same x) others) (same_itself x) parts.0 in
        let found_x = ap (list_any (is_same x)) is ∙ or_left (is_same x x) (list_any (is_same x) others) (same_itself x) in
        let inside = and_parts (not (is_false made x)) (list_any (is_same x) clause) (sym (any_open made x clause) ∙ found_x) in
        let maker : IsMaker made clause x = record {
          others = sym (all_open made (is_same x) clause) ∙ (ap (list_all (is_same x)) is ∙ all);
          not_true = not-true (is_true made x) parts.1;
          not_false = not-true (is_false made x) inside.0;
          there = inside.1;
        } in
        subst (IsMaker made clause) found.1 maker

-- a clause all of whose literals are false or this one, which isn't true
one_left : (made clause : List SatLit) (l x : SatLit) (others : List SatLit) → list_all (λ y. is_false made y || is_same l y) clause ≡ true → is_true made l ≡ false → open_ones made clause ≡ x ∷ others → effect_of made clause ≡ Makes l
one_left made clause l x others all not_true is =
    let every = sym (ap (list_all (is_same l)) is) ∙ (all_open made (is_same l) clause ∙ all) in
    let parts = and_parts (is_same l x) (list_all (is_same l) others) every in
    let same = same_literal l x parts.0 in
    let test = and_from (list_all (is_same x) others) (not (is_true made x)) (ap (λ m. list_all (is_same m) others) (sym same) ∙ parts.1) (ap not (ap (is_true made) (sym same) ∙ not_true)) in
    ap (effect_by made) is ∙ (cond-true (list_all (is_same x) others && not (is_true made x)) (Makes x) Neither test ∙ ap Makes (sym same))

pub makes_from : (made clause : List SatLit) (l : SatLit) → IsMaker made clause l → effect_of made clause ≡ Makes l
makes_from made clause l maker = by_open (open_ones made clause) refl
  where
    by_open : (os : List SatLit) → open_ones made clause ≡ os → effect_of made clause ≡ Makes l
    by_open [] is = absurd (false≢true (sym (ap (list_any (is_same l)) is) ∙ any_in_open made l clause maker.not_false maker.there))
    by_open (x ∷ others) is = one_left made clause l x others maker.others maker.not_true is

-- such a clause is a conflict or leaves that literal
pub not_neither : (made clause : List SatLit) (l : SatLit) → list_all (λ y. is_false made y || is_same l y) clause ≡ true → is_true made l ≡ false → effect_of made clause ≡ Neither → ⊥
not_neither made clause l all not_true e = by_open (open_ones made clause) refl
  where
    by_open : (os : List SatLit) → open_ones made clause ≡ os → ⊥
    by_open [] is = let n : Conflict ≡ Neither = sym (ap (effect_by made) is) ∙ e in cc
    by_open (x ∷ others) is = let n : Makes l ≡ Neither = sym (one_left made clause l x others all not_true is) ∙ e in cc

-- of a list all of which is one literal, each literal found is that one
all_any : (x a : SatLit) (xs : List SatLit) → list_all (is_same x) xs ≡ true → list_any (is_same a) xs ≡ true → x ≡ a
all_any x a [] all any = absurd (false≢true any)
all_any x a (y ∷ ys) all any =
    let parts = and_parts (is_same x y) (list_all (is_same x) ys) all in
    elim (or_cases (is_same a y) (list_any (is_same a) ys) any) [
      | inl here ↦ same_literal x y parts.0 ∙ sym (same_literal a y here)
      | inr after ↦ all_any x a ys parts.1 after
    ]

-- it does nothing where it does nothing with all its open literals one literal, and some literal is open
neither_from : (made clause : List SatLit) (l : SatLit) → list_any (is_same l) (open_ones made clause) ≡ true → ((x : SatLit) (others : List SatLit) → open_ones made clause ≡ x ∷ others → list_all (is_same x) others ≡ true → ((m : SatLit) → list_any (is_same m) (open_ones made clause) ≡ true → x ≡ m) → effect_of made clause ≡ Neither) → effect_of made clause ≡ Neither
neither_from made clause l found one = by_open (open_ones made clause) refl
  where
    by_open : (os : List SatLit) → open_ones made clause ≡ os → effect_of made clause ≡ Neither
    by_open [] is = absurd (false≢true (sym (ap (list_any (is_same l)) is) ∙ found))
    by_open (x ∷ others) is =
        elim (cases_Bool (list_all (is_same x) others)) [
          | inl same ↦
              let all = and_from (is_same x x) (list_all (is_same x) others) (same_itself x) same in
              one x others is same (λ m found_m. all_any x m (x ∷ others) all (sym (ap (list_any (is_same m)) is) ∙ found_m))
          | inr mixed ↦ ap (effect_by made) is ∙ ap (λ t. cond (t && not (is_true made x)) (Makes x) Neither) mixed
        ]

-- two literals of a clause that differ and aren't false
pub neither_two : (made clause : List SatLit) (a b : SatLit) → a.0 ≢ b.0 → is_false made a ≡ false → is_false made b ≡ false → list_any (is_same a) clause ≡ true → list_any (is_same b) clause ≡ true → effect_of made clause ≡ Neither
neither_two made clause a b differ free_a free_b in_a in_b =
    let found_a = any_in_open made a clause free_a in_a in
    let found_b = any_in_open made b clause free_b in_b in
    neither_from made clause a found_a (λ x others is same only. absurd (differ (ap (λ (m : SatLit). m.0) (sym (only a found_a) ∙ only b found_b))))

-- a clause with a true literal
pub neither_true : (made clause : List SatLit) (l : SatLit) → is_true made l ≡ true → is_false made l ≡ false → list_any (is_same l) clause ≡ true → effect_of made clause ≡ Neither
neither_true made clause l holds free inside =
    let found = any_in_open made l clause free inside in
    neither_from made clause l found (λ x others is same only.
    ap (effect_by made) is
    ∙ (ap (λ t. cond (t && not (is_true made x)) (Makes x) Neither) same ∙ ap (λ t. cond (not t) (Makes x) Neither) (ap (is_true made) (only l found) ∙ holds)))

-- a literal of a clause is known where all are
pub known_at : (n : ℕ) (clause : List SatLit) (l : SatLit) → All (λ m. variable_of m < n) clause → list_any (is_same l) clause ≡ true → variable_of l < n
known_at n clause l known e = All-contains (λ m. variable_of m < n) clause l known (Contains-from_any same_literal l clause e)

-- where that one is false too, all are
pub all_false : (made clause : List SatLit) (l : SatLit) → is_false made l ≡ true → list_all (λ y. is_false made y || is_same l y) clause ≡ true → list_all (is_false made) clause ≡ true
all_false made [] l fails all = refl
all_false made (y ∷ clause) l fails all =
    let parts = and_parts (is_false made y || is_same l y) (list_all (λ z. is_false made z || is_same l z) clause) all in
    and_from (is_false made y) (list_all (is_false made) clause) (elim (or_cases (is_false made y) (is_same l y) parts.0) [
      | inl is ↦ is
      | inr same ↦ ap (is_false made) (sym (same_literal l y same)) ∙ fails
    ]) (all_false made clause l fails parts.1)
