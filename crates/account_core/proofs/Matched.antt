-- What a match that extends pairs says of them.
use Rattle.std.proofs.Common.{◌≡◌, ℕ, suc, ◌<◌, Bool, false, eqb, List, [], ◌∷◌, length, slice_index_or, Some, sym, ap, subst, ◌∙◌, inl, inr, arith, eqb-true}
use Rattle.std.specs.Prelude.{Contains, find}
use Rattle.std.proofs.lemmas.Bool.{cases_Bool, cases_order, and_parts, cond-true, cond-false}
use Rattle.std.proofs.lemmas.Option.{same_Some}
use Rattle.circuits.specs.declared.port.Pair.{Pair}
use Rattle.circuits.specs.declared.port.PortKind.{PortKind}
use Rattle.circuits.specs.declared.port.PortKind.TheVariants.{Input, Output}
use Rattle.circuits.specs.Netlists.{Net}
use Rattle.circuits.specs.Bijections.{IsSignedBijection, place_of, sign_of}
use Rattle.circuits.specs.Matches.{IsMatchOfFunctions}
use Rattle.claim_core.specs.Images.{HasPair, entries_of, same_kind, is_of, pair_of}
pub use Rattle.claim_core.proofs.ImageLemmas.{kind_is}
use Rattle.account_core.specs.Ports.{ports_in, Clash}

-- the ports of each kind are as many, and go to one another by a signed bijection
pub of_kind : (first second : Net) (p q : List (ℕ × Bool)) (kind : PortKind) → IsMatchOfFunctions first second p q → IsSignedBijection (ports_in first kind) (entries_of kind p q)
of_kind first second p q Input match = match.inputs
of_kind first second p q Output match = match.outputs

pub as_many : (first second : Net) (p q : List (ℕ × Bool)) (kind : PortKind) → IsMatchOfFunctions first second p q → ports_in second kind ≡ ports_in first kind
as_many first second p q Input match = match.same_inputs
as_many first second p q Output match = match.same_outputs

-- no two ports go to one
pub one_to_one : (n : ℕ) (entries : List (ℕ × Bool)) → IsSignedBijection n entries → (x y : ℕ) → x < n → y < n → place_of entries x ≡ place_of entries y → x ≡ y
one_to_one n entries bijection x y below_x below_y same =
    elim (cases_order x y) [
      | inl e ↦ e
      | inr (inl less) ↦ absurd (bijection.distinct x y (0, false) less (omega (arith, below_y, bijection.entries)) same)
      | inr (inr more) ↦ absurd (bijection.distinct y x (0, false) more (omega (arith, below_x, bijection.entries)) (sym same))
    ]

pub place_below : (n : ℕ) (entries : List (ℕ × Bool)) → IsSignedBijection n entries → (x : ℕ) → x < n → place_of entries x < n
place_below n entries bijection x below =
    bijection.in_range x (0, false) (omega (arith, below, bijection.entries))

-- where a pair's port goes
pub pair_place : (p q : List (ℕ × Bool)) (pair : Pair) → HasPair p q pair → place_of (entries_of pair.kind p q) pair.from ≡ pair.to
pair_place p q pair has = ap (λ (entry : ℕ × Bool). entry.0) has.goes

pub pair_sign : (p q : List (ℕ × Bool)) (pair : Pair) → HasPair p q pair → sign_of (entries_of pair.kind p q) pair.from ≡ pair.flip
pair_sign p q pair has = ap (λ (entry : ℕ × Bool). entry.1) has.goes

-- the same of a pair of a kind
pub pair_goes : (p q : List (ℕ × Bool)) (pair : Pair) (kind : PortKind) → HasPair p q pair → pair.kind ≡ kind → (pair.from < length (entries_of kind p q)) × (place_of (entries_of kind p q) pair.from ≡ pair.to) × (sign_of (entries_of kind p q) pair.from ≡ pair.flip)
pair_goes p q pair kind has is =
    subst (λ k. (pair.from < length (entries_of k p q)) × (place_of (entries_of k p q) pair.from ≡ pair.to) × (sign_of (entries_of k p q) pair.from ≡ pair.flip)) is (has.there, pair_place p q pair has, pair_sign p q pair has)

-- no match has two pairs that clash
pub no_clash : (first second : Net) (p q : List (ℕ × Bool)) (one other : Pair) → IsMatchOfFunctions first second p q → HasPair p q one → HasPair p q other → Clash one other → ⊥
no_clash first second p q one other match has_one has_other clash =
    elim clash.share [
      | inl same ↦ clash.differ (from_first same)
      | inr same ↦
          clash.differ (from_first (one_to_one (ports_in first one.kind) (entries_of one.kind p q) (of_kind first second p q one.kind match) one.from other.from (omega (arith, has_one.there, (of_kind first second p q one.kind match).entries)) (omega (arith, there, (of_kind first second p q one.kind match).entries)) (pair_place p q one has_one ∙ (same ∙ sym (ap (λ entry. entry.0) goes)))))
    ]
  where
    there : other.from < length (entries_of one.kind p q)
    there = subst (λ kind. other.from < length (entries_of kind p q)) (sym clash.same_kind) has_other.there

    goes : slice_index_or (entries_of one.kind p q) other.from (0, false) ≡ (other.to, other.flip)
    goes = subst (λ kind. slice_index_or (entries_of kind p q) other.from (0, false) ≡ (other.to, other.flip)) (sym clash.same_kind) has_other.goes

    from_first : one.from ≡ other.from → one ≡ other
    from_first same =
        let entry : (one.to, one.flip) ≡ (other.to, other.flip) = sym has_one.goes ∙ (ap (λ k. slice_index_or (entries_of one.kind p q) k (0, false)) same ∙ goes) in
        let build : PortKind → ℕ → ℕ × Bool → Pair = λ kind from entry. record { kind = kind; from = from; to = entry.0; flip = entry.1 } in
        ap (λ kind. build kind one.from (one.to, one.flip)) clash.same_kind
        ∙ (ap (λ from. build other.kind from (one.to, one.flip)) same ∙ ap (build other.kind other.from) entry)

-- the pair that a port has is in the list, and is the port's
pub pair_of-held : (pairs : List Pair) (kind : PortKind) (port : ℕ) (pair : Pair) → pair_of pairs kind port ≡ Some pair → Contains pairs pair × (pair.kind ≡ kind) × (pair.from ≡ port)
pair_of-held [] kind port pair is = cc
pair_of-held (one ∷ pairs) kind port pair is =
    elim (cases_Bool (is_of kind port one)) [
      | inl yes' ↦
          let same = same_Some one pair (sym (cond-true (is_of kind port one) (Some one) (find (is_of kind port) pairs) yes') ∙ is) in
          let parts = and_parts (same_kind one.kind kind) (eqb one.from port) yes' in
          ((0, omega arith, same), ap (λ (x : Pair). x.kind) (sym same) ∙ kind_is one.kind kind parts.0, ap (λ (x : Pair). x.from) (sym same) ∙ eqb-true one.from port parts.1)
      | inr no' ↦
          let later = pair_of-held pairs kind port pair (sym (cond-false (is_of kind port one) (Some one) (find (is_of kind port) pairs) no') ∙ is) in
          ((suc later.0.0, omega (arith, later.0.1), later.0.2), later.1, later.2)
    ]
