-- Bans that are kept after others.
use Rattle.std.proofs.Common.{◌≡◌, ℕ, List, [], ◌∷◌, ◌++◌, length, take, get_or, All, Contains, refl, sym, ap, subst, ◌∙◌, inl, inr, arith}
use Rattle.std.proofs.lemmas.Bool.{cases_lt}
use Rattle.std.proofs.lemmas.List.Elements.{All-contains, Contains-get_or}
use Rattle.std.proofs.lemmas.List.{take_all, take-append-le, get_or_append_left, get_or_push, length_push, length-append}
use Rattle.circuits.specs.declared.port.Pair.{Pair}
use Rattle.net_core.specs.Sides.{Graphs}
use Rattle.account_core.specs.declared.step.Ban.{Ban}
use Rattle.account_core.specs.Given.{Decided, given_of}
use Rattle.account_core.specs.Shown.{IsEmptyBan}
use Rattle.account_core.specs.Steps.{AreValidBans, IsValidBan}
use Rattle.ban_book.specs.Covering.{Covers, IsWithin}

-- a ban that is valid beside others comes after them
pub valid_push : (graphs : Graphs) (facts : List Decided) (bans : List Ban) (ban : Ban) → AreValidBans graphs facts bans → IsValidBan graphs (given_of facts bans) ban → AreValidBans graphs facts (bans ++ ban ∷ [])
valid_push graphs facts bans ban valid here k d below =
    elim (cases_lt k (length bans)) [
      | inl less ↦
          subst (λ (b : Ban). IsValidBan graphs (given_of facts (take k (bans ++ ban ∷ []))) b) (sym (get_or_append_left bans (ban ∷ []) d k less)) (subst (λ (l : List Ban). IsValidBan graphs (given_of facts l) (get_or bans k d)) (sym (take-append-le k bans (ban ∷ []) (omega arith))) (valid k d less))
      | inr past ↦
          let e : length bans ≡ k = omega (arith, below, past, length_push bans ban) in
          let front : take k (bans ++ ban ∷ []) ≡ bans = take-append-le k bans (ban ∷ []) (omega (arith, e)) ∙ take_all k bans (omega (arith, e)) in
          subst (λ (b : Ban). IsValidBan graphs (given_of facts (take k (bans ++ ban ∷ []))) b) (sym (get_or_push bans ban d k e)) (subst (λ (l : List Ban). IsValidBan graphs (given_of facts l) ban) (sym front) here)
    ]

-- the last ban is within pairs
pub covers_last : (bans after : List Ban) (ban : Ban) (pairs : List Pair) (number : ℕ) → after ≡ bans ++ ban ∷ [] → number ≡ length bans → IsWithin pairs ban → Covers after pairs number
covers_last bans after ban pairs number is last within = record {
  kept = omega (arith, ap length is, length_push bans ban, last);
  within = λ d. subst (IsWithin pairs) (sym (ap (λ l. get_or l number d) is ∙ get_or_push bans ban d number (sym last))) within;
}

-- a ban is among more bans
pub covers_later : (before added after : List Ban) (pairs : List Pair) (number : ℕ) → after ≡ before ++ added → Covers before pairs number → Covers after pairs number
covers_later before added after pairs number more is = record {
  kept = omega (arith, is.kept, ap length more, length-append before added);
  within = λ d. subst (IsWithin pairs) (sym (ap (λ l. get_or l number d) more ∙ get_or_append_left before added d number is.kept)) (is.within d);
}

-- a ban within some pairs is within more
pub covers_wider : (bans : List Ban) (few more : List Pair) (number : ℕ) → All (Contains more) few → Covers bans few number → Covers bans more number
covers_wider bans few more number among is = record {
  kept = is.kept;
  within = λ d. record { among = λ k e below. All-contains (Contains more) few (get_or (get_or bans number d).pairs k e) among ((is.within d).among k e below) };
}

-- a ban that is within no pairs has none
pub empty_ban : (bans : List Ban) (ban : ℕ) → Covers bans [] ban → IsEmptyBan bans ban
empty_ban bans ban covers = record {
  kept = covers.kept;
  pairs = λ d. no_pairs (get_or bans ban d).pairs ((covers.within d).among);
}
  where
    no_pairs : (pairs : List Pair) → All (Contains []) pairs → pairs ≡ []
    no_pairs [] all = refl
    no_pairs (pair ∷ pairs) all = let there = all 0 pair (omega arith) in absurd (omega (arith, there.1))

-- the last ban is of these pairs
pub covers_own : (bans after : List Ban) (ban : Ban) (pairs : List Pair) (number : ℕ) → ban.pairs ≡ pairs → after ≡ bans ++ ban ∷ [] → number ≡ length bans → Covers after pairs number
covers_own bans after ban pairs number same is last =
    covers_last bans after ban pairs number is last (record { among = subst (All (Contains pairs)) (sym same) (λ k d below. Contains-get_or pairs k d below) })
