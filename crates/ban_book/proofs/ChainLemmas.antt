-- Chains of bans.
use Rattle.std.proofs.Common.{◌≡◌, ◌≢◌, ◌&&◌, eqb, ℕ, suc, ◌<◌, ◌≤◌, ◌+◌, Bool, true, false, List, [], ◌∷◌, ◌++◌, length, get_or, All, Contains, Option, None, Some, inl, inr, refl, sym, ap, subst, ◌∙◌, arith}
use Rattle.std.specs.Prelude.{IfSome, slice_get, if◌then◌else◌}
use Rattle.std.specs.Bool.{Decides, beq}
use Rattle.std.specs.Cmp.{booleans_Decides}
use Rattle.std.specs.Option.{option_eq}
use Rattle.std.proofs.lemmas.Bool.{cases_lt, false≢true}
use Rattle.std.proofs.lemmas.Bool.Decides.{Decides-eqb, Decides-and, Decides-like}
use Rattle.std.proofs.lemmas.List.{get_or_append_left, get_or_push, get_or_default, length_push}
use Rattle.std.proofs.lemmas.List.Elements.{All-contains}
use Rattle.circuits.specs.declared.port.Pair.{Pair}
use Rattle.circuits.specs.declared.port.PortKind.{PortKind}
use Rattle.circuits.specs.declared.port.PortKind.TheVariants.{Input, Output}
use Rattle.circuits.specs.contracts.port.PairPartialEq.TheImpl.{eq-value as pair_eq}
use Rattle.circuits.specs.contracts.port.PortKindPartialEq.TheImpl.{eq-value as kind_eq}
use Rattle.account_core.specs.declared.step.Ban.{Ban}
use Rattle.ban_book.specs.Chains.{AreChained, HasNoneWithin, IsLast, IsOfChain, IsUpTo, IsWalked, first_of}
use Rattle.ban_book.specs.Covering.{Covers, IsWithin}

kind_decides : (x y : PortKind) → Decides (kind_eq.it x y) (x ≡ y)
kind_decides Input Input = (λ e. refl, λ e. refl)
kind_decides Input Output = (λ e. cc, λ e. cc)
kind_decides Output Input = (λ e. cc, λ e. cc)
kind_decides Output Output = (λ e. refl, λ e. refl)

pair_decides : (x y : Pair) → Decides (pair_eq.it x y) (x ≡ y)
pair_decides x y =
    Decides-like (pair_eq.it x y) (λ e i. record { kind = e.0 i; from = e.1.0 i; to = e.1.1.0 i; flip = e.1.1.1 i }) (λ e. (ap (λ (p : Pair). p.kind) e, (ap (λ (p : Pair). p.from) e, (ap (λ (p : Pair). p.to) e, ap (λ (p : Pair). p.flip) e)))) (Decides-and (kind_eq.it x.kind y.kind) (eqb x.from y.from && (eqb x.to y.to && beq x.flip y.flip)) (kind_decides x.kind y.kind) (Decides-and (eqb x.from y.from) (eqb x.to y.to && beq x.flip y.flip) (Decides-eqb x.from y.from) (Decides-and (eqb x.to y.to) (beq x.flip y.flip) (Decides-eqb x.to y.to) (booleans_Decides x.flip y.flip))))

first_decides : (x y : Option Pair) → Decides (option_eq pair_eq.it x y) (x ≡ y)
first_decides None None = (λ e. refl, λ e. refl)
first_decides None (Some y) = (λ e. cc, λ e. cc)
first_decides (Some x) None = (λ e. cc, λ e. cc)
first_decides (Some x) (Some y) = Decides-like (pair_eq.it x y) (ap Some) (λ e. cc) (pair_decides x y)

-- One ban more.
module _ (bans : List Ban) (ban : Ban) where
  one_more : length (bans ++ ban ∷ []) ≡ length bans + 1
  one_more = length_push bans ban

  chain_to : (first : Option Pair) (number : ℕ) → IsOfChain bans first number → IsOfChain (bans ++ ban ∷ []) first number
  chain_to first number is = record {
    there = omega (arith, is.there, one_more);
    first_is = λ d. ap first_of (get_or_append_left bans (ban ∷ []) d number is.there) ∙ is.first_is d;
  }

  chain_from : (first : Option Pair) (number : ℕ) → number < length bans → IsOfChain (bans ++ ban ∷ []) first number → IsOfChain bans first number
  chain_from first number below is = record {
    there = below;
    first_is = λ d. sym (ap first_of (get_or_append_left bans (ban ∷ []) d number below)) ∙ is.first_is d;
  }

  chain_last : (first : Option Pair) (number : ℕ) → number ≡ length bans → IsOfChain (bans ++ ban ∷ []) first number → first ≡ first_of ban
  chain_last first number last is = sym (is.first_is ban) ∙ ap first_of (get_or_push bans ban ban number (sym last))

  last_to : (first : Option Pair) (below : ℕ) (noted : Option ℕ) → below ≤ length bans → IsLast bans first below noted → IsLast (bans ++ ban ∷ []) first below noted
  last_to first below None few is = record { found = tt; all = λ number less of. is.all number less (chain_from first number (omega (arith, less, few)) of) }
  last_to first below (Some number) few is = record {
    found = (is.found.0, chain_to first number is.found.1);
    all = λ other less of. is.all other less (chain_from first other (omega (arith, less, few)) of);
  }

  -- the chain of the new ban
  last_here : (noted : Option ℕ) → noted ≡ Some (length bans) → IsLast (bans ++ ban ∷ []) (first_of ban) (length (bans ++ ban ∷ [])) noted
  last_here noted is = record {
    found = subst (λ l. IfSome l (λ number. (number < length (bans ++ ban ∷ [])) × IsOfChain (bans ++ ban ∷ []) (first_of ban) number)) (sym is) (omega (arith, one_more), record { there = omega (arith, one_more); first_is = λ d. ap first_of (get_or_push bans ban d (length bans) refl) });
    all = λ number below of. record { last = length bans; noted_is = is; up_to = omega (arith, below, one_more) };
  }

  -- another chain
  last_apart : (first : Option Pair) (noted : Option ℕ) → first ≢ first_of ban → IsLast bans first (length bans) noted → IsLast (bans ++ ban ∷ []) first (length (bans ++ ban ∷ [])) noted
  last_apart first noted apart is =
      let to = last_to first (length bans) noted (omega arith) is in
      record {
        found = longer noted to.found;
        all = λ number below of. elim (cases_lt number (length bans)) [
          | inl less ↦ to.all number less of
          | inr past ↦ absurd (apart (chain_last first number (omega (arith, below, past, one_more)) of))
        ];
      }
    where
      longer : (l : Option ℕ) → IfSome l (λ number. (number < length bans) × IsOfChain (bans ++ ban ∷ []) first number) → IfSome l (λ number. (number < length (bans ++ ban ∷ [])) × IsOfChain (bans ++ ban ∷ []) first number)
      longer None found = tt
      longer (Some number) found = (omega (arith, found.0, one_more), found.1)

  pub chained_more : (last last_after : Option Pair → Option ℕ) (before : List (Option ℕ))
      → ((first : Option Pair) → last_after first ≡ (if option_eq pair_eq.it (first_of ban) first then Some (length bans) else last first))
      → AreChained bans last before
      → AreChained (bans ++ ban ∷ []) last_after (before ++ last (first_of ban) ∷ [])
  chained_more last last_after before noted are = record {
    size = omega (arith, are.size, one_more, length_push before (last (first_of ban)));
    lasts = λ first. by_test first (option_eq pair_eq.it (first_of ban) first) refl;
    befores = λ first number is. elim (cases_lt number (length bans)) [
      | inl less ↦
          subst (IsLast (bans ++ ban ∷ []) first number) (sym (get_or_append_left before (last (first_of ban) ∷ []) None number (omega (arith, less, are.size)))) (last_to first number (get_or before number None) (omega (arith, less)) (are.befores first number (chain_from first number less is)))
      | inr past ↦
          let e : number ≡ length bans = omega (arith, past, is.there, one_more) in
          let same = chain_last first number e is in
          subst (IsLast (bans ++ ban ∷ []) first number) (ap last same ∙ sym (get_or_push before (last (first_of ban)) None number (are.size ∙ sym e)))
          (subst (λ n. IsLast (bans ++ ban ∷ []) first n (last first)) (sym e) (last_to first (length bans) (last first) (omega arith) (are.lasts first)))
    ];
  }
    where
      is_noted : (first : Option Pair) (b : Bool) → option_eq pair_eq.it (first_of ban) first ≡ b → last_after first ≡ (if b then Some (length bans) else last first)
      is_noted first b is = noted first ∙ ap (λ (b : Bool). if b then Some (length bans) else last first) is

      by_test : (first : Option Pair) (b : Bool) → option_eq pair_eq.it (first_of ban) first ≡ b → IsLast (bans ++ ban ∷ []) first (length (bans ++ ban ∷ [])) (last_after first)
      by_test first true same =
          subst (λ f. IsLast (bans ++ ban ∷ []) f (length (bans ++ ban ∷ [])) (last_after first)) ((first_decides (first_of ban) first).0 same) (last_here (last_after first) (is_noted first true same))
      by_test first false differ =
          last_apart first (last_after first) (λ e. false≢true (sym differ ∙ (first_decides (first_of ban) first).1 (sym e))) (subst (IsLast bans first (length bans)) (sym (is_noted first false differ)) (are.lasts first))

-- A way down a chain.
module _ (bans : List Ban) (last : Option Pair → Option ℕ) (before : List (Option ℕ)) (are : AreChained bans last before) (first : Option Pair) (pairs : List Pair) where
  pub walked_none : (next : Option ℕ) → next ≡ last first → IsWalked bans first pairs next
  walked_none next is = subst (IsWalked bans first pairs) (sym is) (record {
    found = is_there (last first) (are.lasts first).found;
    rest = λ number d of within. (are.lasts first).all number of.there of;
  })
    where
      is_there : (l : Option ℕ) → IfSome l (λ number. (number < length bans) × IsOfChain bans first number) → IfSome l (IsOfChain bans first)
      is_there None found = tt
      is_there (Some number) found = found.1

  up_to : (number other : ℕ) → IsUpTo (Some number) other → other ≤ number
  up_to number other is = let e : Some number ≡ Some is.last = is.noted_is in let same : number ≡ is.last = cc in omega (arith, same, is.up_to)

  pub walked_more : (number : ℕ) (d : Ban) (there next : Option ℕ) → there ≡ Some number → (IsWithin pairs (get_or bans number d) → ⊥) → next ≡ get_or before number None → IsWalked bans first pairs there → IsWalked bans first pairs next
  walked_more number d there next here none is walked =
      let w = subst (IsWalked bans first pairs) here walked in
      let befores = are.befores first number w.found in
      subst (IsWalked bans first pairs) (sym is) (record {
        found = is_before (get_or before number None) befores.found;
        rest = λ other x of within. elim (cases_lt other number) [
          | inl less ↦ befores.all other less of
          | inr past ↦
              let e : other ≡ number = omega (arith, past, up_to number other (w.rest other x of within)) in
              absurd (none (subst (IsWithin pairs) (ap (λ k. get_or bans k x) e ∙ get_or_default bans number x d w.found.there) within))
        ];
      })
    where
      is_before : (l : Option ℕ) → IfSome l (λ k. (k < number) × IsOfChain bans first k) → IfSome l (IsOfChain bans first)
      is_before None found = tt
      is_before (Some k) found = found.1

  pub walked_all : (next : Option ℕ) → next ≡ None → IsWalked bans first pairs next → HasNoneWithin bans first pairs
  walked_all next end walked number d of within =
      let to = (subst (IsWalked bans first pairs) end walked).rest number d of within in
      let e : None ≡ Some to.last = to.noted_is in
      cc

-- what is left of a chain
abbrev pub left : Option ℕ → ℕ
left None = 0
left (Some number) = suc number

pub fewer_left : (next : Option ℕ) (number : ℕ) (P : ℕ → Type 0) → IfSome next (λ k. (k < number) × P k) → left next < suc number
fewer_left None number P found = omega arith
fewer_left (Some k) number P found = omega (arith, found.0)

-- each ban that is within pairs is found by its first pair
pub none_within : (bans : List Ban) (pairs : List Pair) → HasNoneWithin bans None pairs → All (λ pair. HasNoneWithin bans (Some pair) pairs) pairs → All (λ ban. IsWithin pairs ban → ⊥) bans
none_within bans pairs no_empty no_other k d below within = by_first (get_or bans k d).pairs refl
  where
    of : (first : Option Pair) → first_of (get_or bans k d) ≡ first → IsOfChain bans first k
    of first is = record { there = below; first_is = λ x. ap first_of (get_or_default bans k x d below) ∙ is }

    by_first : (listed : List Pair) → (get_or bans k d).pairs ≡ listed → ⊥
    by_first [] e = no_empty k d (of None (ap (λ (l : List Pair). slice_get l 0) e)) within
    by_first (pair ∷ more) e =
        let held : Contains pairs pair = (subst (All (Contains pairs)) e within.among) 0 pair (omega arith) in
        All-contains (λ (p : Pair). HasNoneWithin bans (Some p) pairs) pairs pair no_other held k d (of (Some pair) (ap (λ (l : List Pair). slice_get l 0) e)) within

module _ (bans : List Ban) (first : Option Pair) (pairs : List Pair) (next : Option ℕ) (number : ℕ) (is : next ≡ Some number) (walked : IsWalked bans first pairs next) where
  pub chain_there : IsOfChain bans first number
  chain_there = subst (λ l. IfSome l (IsOfChain bans first)) is walked.found

  pub walked_covers : (d : Ban) → IsWithin pairs (get_or bans number d) → Covers bans pairs number
  walked_covers d within = record {
    kept = chain_there.there;
    within = λ x. subst (IsWithin pairs) (get_or_default bans number d x chain_there.there) within;
  }
