-- Literals that were made true, by the bits of their variables.
use Rattle.std.proofs.Common.{◌≡◌, ℕ, suc, ◌+◌, ◌<◌, ◌||◌, not, cond, Bool, true, false, List, [], ◌∷◌, ◌++◌, length, drop, Option, None, Some, is_some, count_by, slice_set, replicate, Vec, vec_capacity, inl, inr, refl, sym, ◌∙◌, ap, subst, arith}
use Rattle.std.specs.Bool.{beq}
use Rattle.std.specs.List.{list_any}
use Rattle.std.proofs.lemmas.Bool.{cases_eq, false≢true}
use Rattle.std.proofs.lemmas.Bool.Decides.{eqb_tells}
use Rattle.std.proofs.lemmas.List.{get_or-set_same, get_or-set_other, length-set, length-append}
use Rattle.std.proofs.lemmas.List.Folds.{list_any-append}
use Rattle.std.proofs.lemmas.List.Sums.{count_by-le-length, sum_by-set}
use Rattle.std.proofs.lemmas.List.Elements.{All-append, All-cons, All-nil}
use Rattle.std.specs.declared.alloc.Global.{Global}
use Rattle.cnf_core.specs.declared.literal.SatLit.{SatLit}
use Rattle.cnf_core.specs.Clauses.{variable_of, is_negated, literal_of, opposite, AreKnown}
use Rattle.cnf_core.specs.Derivations.{is_same, is_true, is_false}
use Rattle.refute_check.specs.Values.{IsOfMade, IsMade, bit_at, is_bit, is_of}
use Rattle.cnf_core.proofs.LiteralLemmas.{its_opposite, itself, not_opposite, not_same, same_itself, variable_of-literal}

-- where no literal has a variable, neither literal of it is among them
pub not_made : (made : List SatLit) (v : ℕ) (b : Bool) → list_any (is_of v) made ≡ false → is_true made (literal_of v b) ≡ false
not_made [] v b none = refl
not_made (m ∷ made) v b none =
    elim (eqb_tells (variable_of m) v) [
      | inl (found, e) ↦ absurd (false≢true (sym none ∙ ap (λ t. t || list_any (is_of v) made) found))
      | inr (found, e) ↦
          let rest = not_made made v b (sym (ap (λ t. t || list_any (is_of v) made) found) ∙ none) in
          ap (λ t. t || is_true made (literal_of v b)) (not_same (literal_of v b) m (λ same. e (sym same ∙ variable_of-literal v b))) ∙ rest
    ]

-- a variable that has neither bit has none
pub neither : (held : Option Bool) → is_bit held true ≡ false → is_bit held false ≡ false → held ≡ None
neither None t f = refl
neither (Some true) t f = absurd (false≢true (sym t))
neither (Some false) t f = absurd (false≢true (sym f))

-- the bits that are taken away, one after the other
pub record IsUnsetting (old now : List (Option Bool)) (made : List SatLit) (count : ℕ) : Type 0 where
  pub same_length : length now ≡ length old
  pub none : (v : ℕ) → v < length now → list_any (is_of v) (drop count made) ≡ false → bit_at now v ≡ None

pub all_none : (bits : List (Option Bool)) → ((v : ℕ) → v < length bits → bit_at bits v ≡ None) → bits ≡ replicate (length bits) None
all_none [] none = refl
all_none (b ∷ bits) none = ap (λ c. c ∷ bits) (none 0 (omega arith)) ∙ ap (λ bs. None ∷ bs) (all_none bits (λ v below. none (suc v) (omega (arith, below))))

-- one bit more
pub count_more : (bits : List (Option Bool)) (v : ℕ) (b : Bool) → v < length bits → bit_at bits v ≡ None → count_by (is_some {T = Bool}) (slice_set bits v (Some b)) ≡ count_by (is_some {T = Bool}) bits + 1
count_more bits v b below none =
    let f : Option Bool → ℕ = λ held. cond (is_some {T = Bool} held) 1 0 in omega (arith, sum_by-set f bits v (Some b) None below, ap f none)

-- where a bit is missing, there are fewer than variables
pub count_less : (bits : List (Option Bool)) (v : ℕ) → v < length bits → bit_at bits v ≡ None → count_by (is_some {T = Bool}) bits < length bits
count_less bits v below none =
    omega (arith, count_more bits v true below none, count_by-le-length (is_some {T = Bool}) (slice_set bits v (Some true)), length-set bits v (Some true))

-- the bit of a literal that can be made
pub no_bit : (bits : List (Option Bool)) (made : List SatLit) (l : SatLit) → ((v : ℕ) (b : Bool) → v < length bits → is_bit (bit_at bits v) b ≡ is_true made (literal_of v b)) → variable_of l < length bits → is_true made l ≡ false → is_false made l ≡ false → bit_at bits (variable_of l) ≡ None
no_bit bits made l told known not_true not_false =
    let v = variable_of l in
    let plain : is_bit (bit_at bits v) (not (is_negated l)) ≡ false = told v (not (is_negated l)) known ∙ (ap (is_true made) (itself l) ∙ not_true) in
    let other : is_bit (bit_at bits v) (is_negated l) ≡ false = told v (is_negated l) known ∙ (ap (is_true made) (its_opposite l) ∙ not_false) in
    by_sign (is_negated l) (bit_at bits v) plain other
  where
    by_sign : (b : Bool) (held : Option Bool) → is_bit held (not b) ≡ false → is_bit held b ≡ false → held ≡ None
    by_sign true held f t = neither held t f
    by_sign false held t f = neither held t f

-- what the bits say once a literal was made true
pub told_more : (bits : List (Option Bool)) (made : List SatLit) (l : SatLit) → ((v : ℕ) (b : Bool) → v < length bits → is_bit (bit_at bits v) b ≡ is_true made (literal_of v b)) → variable_of l < length bits → is_true made l ≡ false → is_false made l ≡ false → (v : ℕ) (b : Bool) → v < length bits → is_bit (bit_at (slice_set bits (variable_of l) (Some (not (is_negated l)))) v) b ≡ is_true (made ++ l ∷ []) (literal_of v b)
told_more bits made l told known not_true not_false v b below =
    let w = variable_of l in
    let split = list_any-append (is_same (literal_of v b)) made (l ∷ []) in
    elim (cases_eq v w) [
      | inl e ↦
          let held : bit_at (slice_set bits w (Some (not (is_negated l)))) v ≡ Some (not (is_negated l)) = ap (bit_at (slice_set bits w (Some (not (is_negated l))))) e ∙ get_or-set_same bits w (Some (not (is_negated l))) None known in
          ap (λ h. is_bit h b) held ∙ (by_bit b ∙ (ap (λ u. is_true made (literal_of u b) || (is_same (literal_of u b) l || false)) (sym e) ∙ sym split))
      | inr e ↦
          let other : is_same (literal_of v b) l ≡ false = not_same (literal_of v b) l (λ same. e (sym (variable_of-literal v b) ∙ same)) in
          ap (λ h. is_bit h b) (get_or-set_other bits w v (Some (not (is_negated l))) None e) ∙ (told v b below ∙ (or_false (is_true made (literal_of v b)) ∙ (ap (λ t. is_true made (literal_of v b) || (t || false)) (sym other) ∙ sym split)))
    ]
  where
    or_false : (t : Bool) → t ≡ (t || (false || false))
    or_false true = refl
    or_false false = refl

    same_bit : (c d : Bool) → c ≡ d → beq c d ≡ true
    same_bit true d e = ap (beq true) (sym e)
    same_bit false d e = ap (beq false) (sym e)

    other_bit : (c : Bool) → beq (not c) c ≡ false
    other_bit true = refl
    other_bit false = refl

    -- of the literal itself, and of its opposite
    at_itself : beq (not (is_negated l)) (not (is_negated l)) ≡ (is_true made (literal_of (variable_of l) (not (is_negated l))) || (is_same (literal_of (variable_of l) (not (is_negated l))) l || false))
    at_itself =
        same_bit (not (is_negated l)) (not (is_negated l)) refl
        ∙ sym (ap (λ m. is_true made m || (is_same m l || false)) (itself l) ∙ (ap (λ t. t || (is_same l l || false)) not_true ∙ ap (λ t. t || false) (same_itself l)))

    at_opposite : beq (not (is_negated l)) (is_negated l) ≡ (is_true made (literal_of (variable_of l) (is_negated l)) || (is_same (literal_of (variable_of l) (is_negated l)) l || false))
    at_opposite =
        other_bit (is_negated l)
        ∙ sym (ap (λ m. is_true made m || (is_same m l || false)) (its_opposite l) ∙ (ap (λ t. t || (is_same (opposite l) l || false)) not_false ∙ ap (λ t. t || false) (not_opposite l)))

    by_bit : (b : Bool) → beq (not (is_negated l)) b ≡ (is_true made (literal_of (variable_of l) b) || (is_same (literal_of (variable_of l) b) l || false))
    by_bit b = by_sign (is_negated l) b refl
      where
        by_sign : (n b : Bool) → n ≡ is_negated l → beq (not (is_negated l)) b ≡ (is_true made (literal_of (variable_of l) b) || (is_same (literal_of (variable_of l) b) l || false))
        by_sign true true e = subst (λ c. beq (not (is_negated l)) c ≡ (is_true made (literal_of (variable_of l) c) || (is_same (literal_of (variable_of l) c) l || false))) (sym e) at_opposite
        by_sign false false e = subst (λ c. beq (not (is_negated l)) c ≡ (is_true made (literal_of (variable_of l) c) || (is_same (literal_of (variable_of l) c) l || false))) (sym e) at_opposite
        by_sign true false e = subst (λ c. beq (not (is_negated l)) c ≡ (is_true made (literal_of (variable_of l) c) || (is_same (literal_of (variable_of l) c) l || false))) (sym (ap not e)) at_itself
        by_sign false true e = subst (λ c. beq (not (is_negated l)) c ≡ (is_true made (literal_of (variable_of l) c) || (is_same (literal_of (variable_of l) c) l || false))) (sym (ap not e)) at_itself

-- what the bits are once a literal was made true
pub made_more : (bits : List (Option Bool)) (made new : Vec SatLit Global) (l : SatLit) → IsMade bits made → variable_of l < length bits → is_true made.items l ≡ false → is_false made.items l ≡ false → new.items ≡ made.items ++ l ∷ [] → vec_capacity new ≡ vec_capacity made → IsMade (slice_set bits (variable_of l) (Some (not (is_negated l)))) new
made_more bits made new l is known not_true not_false items capacity =
    let v = variable_of l in
    let b = not (is_negated l) in
    let same = length-set bits v (Some b) in
    let none = no_bit bits made.items l is.told known not_true not_false in
    let below : ℕ → SatLit → Type 0 = λ n m. variable_of m < n in
    record {
      told = λ w c within. told_more bits made.items l is.told known not_true not_false w c (subst (λ n. w < n) same within) ∙ ap (λ ms. is_true ms (literal_of w c)) (sym items);
      known = subst (AreKnown (length (slice_set bits v (Some b)))) (sym items) (subst (λ n. AreKnown n (made.items ++ l ∷ [])) (sym same) (All-append (below (length bits)) made.items (l ∷ []) is.known (All-cons (below (length bits)) l [] known (All-nil (below (length bits))))));
      count = omega (arith, count_more bits v b known none, is.count, ap length items, length-append made.items (l ∷ []));
      room = omega (arith, same, is.room, capacity);
    }

-- a literal's variable without a bit has none of the literals
pub of_made : (bits : List (Option Bool)) (made : Vec SatLit Global) → IsMade bits made → IsOfMade bits made.items
of_made bits made is = record {
  known = is.known;
  none = λ v below free. neither (bit_at bits v) (is.told v true below ∙ not_made made.items v true free) (is.told v false below ∙ not_made made.items v false free);
}
