-- What marking adds.
use Rattle.std.proofs.Common.{◌≡◌, ℕ, zero, suc, ◌+◌, ◌<◌, ◌≤◌, inl, inr, Bool, true, false, List, [], ◌∷◌, ◌++◌, length, take, All, Option, slice_index_or, slice_set, refl, sym, ap, subst, ◌∙◌, arith}
use Rattle.std.specs.Prelude.{Contains, option_to_list}
use Rattle.std.specs.List.{flat_map}
use Rattle.std.proofs.lemmas.Grind.{flat_map-append}
use Rattle.std.proofs.lemmas.Bool.Decides.{eqb_tells}
use Rattle.std.proofs.lemmas.List.{append-nil, get_or-set_other, get_or-set_same, length-set, take_all, take_more}
use Rattle.std.proofs.lemmas.List.Elements.{All-append, All-cons, All-nil, Contains-append_left, Contains-append_right}
use Rattle.circuits.specs.Literals.{bit}
use Rattle.refusal_core.specs.Marks.{Adds}
use Rattle.refusal_core.specs.Names.{AreAmong, AreMarked}
use Rattle.circuits.proofs.Lists.{All-front, All-back}

one_contained : (n : ℕ) → Contains (n ∷ []) n
one_contained n = (0, omega arith, refl)

-- one number
pub adds_one : (marks : List Bool) (n : ℕ) → n < length marks → Adds (n ∷ []) marks (slice_set marks n true)
adds_one marks n below = record {
  as_many = length-set marks n true;
  marked = All-cons (λ k. bit (slice_set marks n true) k ≡ true) n [] (get_or-set_same marks n true false below) (All-nil (λ k. bit (slice_set marks n true) k ≡ true));
  stay = λ k was. elim (eqb_tells k n) [
    | inl (test, e) ↦ ap (bit (slice_set marks n true)) e ∙ get_or-set_same marks n true false below
    | inr (test, other) ↦ get_or-set_other marks n k true false other ∙ was
  ];
  only = λ k is. elim (eqb_tells k n) [
    | inl (test, e) ↦ inr (subst (λ m. Contains (n ∷ []) m) (sym e) (one_contained n))
    | inr (test, other) ↦ inl (sym (get_or-set_other marks n k true false other) ∙ is)
  ];
}

stay_marked : (marks others : List Bool) (numbers : List ℕ) → AreAmong marks others → AreMarked marks numbers → AreMarked others numbers
stay_marked marks others numbers among each k d below = among (slice_index_or numbers k d) (each k d below)

-- some and then more
pub adds_then : (some more : List ℕ) (old now new : List Bool) → Adds some old now → Adds more now new → Adds (some ++ more) old new
adds_then some more old now new first then = record {
  as_many = then.as_many ∙ first.as_many;
  marked = All-append (λ k. bit new k ≡ true) some more (stay_marked now new some then.stay first.marked) then.marked;
  stay = λ k was. then.stay k (first.stay k was);
  only = λ k is. elim (then.only k is) [
    | inl before ↦ elim (first.only k before) [ inl was ↦ inl was | inr in_some ↦ inr (Contains-append_left some more k in_some) ]
    | inr in_more ↦ inr (Contains-append_right some more k in_more)
  ];
}

-- as many marks as before, of which each number is one
pub still_below : (numbers : List ℕ) (old new : List Bool) → length new ≡ length old → All (λ k. k < length old) numbers → All (λ k. k < length new) numbers
still_below numbers old new same each = subst (λ n. All (λ k. k < n) numbers) (sym same) each

-- the number at a place of a list
pub adds_next : (numbers : List ℕ) (i d : ℕ) (start now new : List Bool)
    → i < length numbers
    → All (λ k. k < length start) numbers
    → Adds (take i numbers) start now
    → new ≡ slice_set now (slice_index_or numbers i d) true
    → Adds (take (i + 1) numbers) start new
adds_next numbers i d start now new below each first is =
    let n = slice_index_or numbers i d in
    let one : Adds (n ∷ []) now new = subst (Adds (n ∷ []) now) (sym is) (adds_one now n (omega (arith, first.as_many, each i d below))) in
    subst (λ l. Adds l start new) (sym (take_more numbers i d below)) (adds_then (take i numbers) (n ∷ []) start now new first one)

pub adds_all : (numbers : List ℕ) (i : ℕ) (start now : List Bool) → length numbers ≤ i → Adds (take i numbers) start now → Adds numbers start now
adds_all numbers i start now whole first = subst (λ l. Adds l start now) (take_all i numbers whole) first

-- the references at the places of a list

more_referred : (references : List (Option ℕ)) (i : ℕ) (d : Option ℕ) → i < length references → flat_map option_to_list (take (i + 1) references) ≡ flat_map option_to_list (take i references) ++ option_to_list (slice_index_or references i d)
more_referred references i d below =
    let r = slice_index_or references i d in
    ap (flat_map option_to_list) (take_more references i d below)
    ∙ (flat_map-append option_to_list (take i references) (r ∷ [])
    ∙ ap (λ l. flat_map option_to_list (take i references) ++ l) (append-nil (option_to_list r)))

pub referred_below : (P : ℕ → Type 0) (references : List (Option ℕ)) (i : ℕ) (d : Option ℕ) → i < length references → All P (flat_map option_to_list references) → All P (option_to_list (slice_index_or references i d))
referred_below P [] i d below each = absurd (omega (arith, below))
referred_below P (r ∷ references) zero d below each = All-front P (option_to_list r) (flat_map option_to_list references) each
referred_below P (r ∷ references) (suc i) d below each = referred_below P references i d (omega (arith, below)) (All-back P (option_to_list r) (flat_map option_to_list references) each)

pub adds_referred : (references : List (Option ℕ)) (i : ℕ) (d : Option ℕ) (start now new : List Bool)
    → i < length references
    → Adds (flat_map option_to_list (take i references)) start now
    → Adds (option_to_list (slice_index_or references i d)) now new
    → Adds (flat_map option_to_list (take (i + 1) references)) start new
adds_referred references i d start now new below first then =
    subst (λ l. Adds l start new) (sym (more_referred references i d below)) (adds_then (flat_map option_to_list (take i references)) (option_to_list (slice_index_or references i d)) start now new first then)

pub adds_all_referred : (references : List (Option ℕ)) (i : ℕ) (start now : List Bool) → length references ≤ i → Adds (flat_map option_to_list (take i references)) start now → Adds (flat_map option_to_list references) start now
adds_all_referred references i start now whole first = subst (λ l. Adds (flat_map option_to_list l) start now) (take_all i references whole) first
