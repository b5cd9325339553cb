-- That pairs in order agree with one another.
use Rattle.std.proofs.Common.{◌≡◌, ◌⊎◌, ℕ, ◌<◌, List, length, get_or, sym, ap, subst, ◌∙◌, inl, inr, arith}
use Rattle.std.proofs.lemmas.Bool.{cases_order}
use Rattle.std.proofs.lemmas.List.{get_or_default}
use Rattle.circuits.specs.declared.port.Pair.{Pair}
use Rattle.claim_core.specs.Images.{Agree}
use Rattle.account_core.specs.Ports.{StandInOrder, AreOrdered}

-- a pair that stands before another
in_turn : (pairs : List Pair) (one other : Pair) (i j : ℕ) → AreOrdered pairs → i < j → j < length pairs → get_or pairs i one ≡ one → get_or pairs j other ≡ other → StandInOrder one other
in_turn pairs one other i j ordered less within is_one is_other =
    let first : get_or pairs i other ≡ one = get_or_default pairs i other one (omega arith) ∙ is_one in
    subst (λ p. StandInOrder p other) first (subst (λ p. StandInOrder (get_or pairs i other) p) is_other (ordered i j other less within))

-- it shares no port with the later one
no_share : (one other : Pair) → StandInOrder one other → one.kind ≡ other.kind → (one.from ≡ other.from) ⊎ (one.to ≡ other.to) → ⊥
no_share one other stand kind (inl same) = omega (arith, stand.ascending kind, same)
no_share one other stand kind (inr same) = stand.apart kind same

turned : (one other : Pair) → (one.from ≡ other.from) ⊎ (one.to ≡ other.to) → (other.from ≡ one.from) ⊎ (other.to ≡ one.to)
turned one other (inl same) = inl (sym same)
turned one other (inr same) = inr (sym same)

pub agree : (pairs : List Pair) → AreOrdered pairs → Agree pairs
agree pairs ordered one other held_one held_other kind share =
    elim (cases_order held_one.0 held_other.0) [
      | inl same ↦ sym held_one.2 ∙ (get_or_default pairs held_one.0 one other held_one.1 ∙ (ap (λ k. get_or pairs k other) same ∙ held_other.2))
      | inr (inl less) ↦ absurd (no_share one other (in_turn pairs one other held_one.0 held_other.0 ordered less held_other.1 held_one.2 held_other.2) kind share)
      | inr (inr more) ↦ absurd (no_share other one (in_turn pairs other one held_other.0 held_one.0 ordered more held_one.1 held_other.2 held_one.2) (sym kind) (turned one other share))
    ]
