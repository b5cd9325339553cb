-- What stands for a way in a cover.
use Rattle.std.proofs.Common.{◌≡◌, ℕ, List, [], ◌∷◌, Contains, Option, None, Some, subst, inl, inr}
use Rattle.circuits.specs.declared.port.Pair.{Pair}
use Rattle.account_core.specs.declared.step.Ban.{Ban}
use Rattle.ban_book.specs.Ways.{IsClosed}
use Rattle.account_core.specs.declared.step.Step.TheVariants as step
use Rattle.account_core.specs.Covers.{IsImpossible}
use Rattle.account_core.specs.Ports.{Clash}
use Rattle.ban_book.specs.Covering.{Covers}
use Rattle.ban_book.proofs.ClosedLemmas.{closed_by_ban}
use Rattle.ban_book.proofs.BlockListLemmas.{any_of_contained}
use Rattle.pair_domains.specs.declared.entry.Entry.{Entry}
use Rattle.pair_search.specs.Named.{IsGathered, IsNamedIn}

-- a way that with pairs leads into a ban is closed
pub closed_by_covers : (bans : List Ban) (pairs : List Pair) (way : Pair) (number : ℕ) → (IsImpossible pairs way → ⊥) → Covers bans (way ∷ pairs) number → IsClosed bans pairs way (Some number)
closed_by_covers bans pairs way number possible covers = closed_by_ban bans pairs way number any_ban covers.kept possible (covers.within any_ban).among
  where
    any_ban : Ban
    any_ban = record { pairs = []; step = step.Mismatch 0 0 }

pub named_of_gathered : (bans : List Ban) (entries : List Entry) (pairs : List Pair) (way : Pair) (noted : Option ℕ) → noted ≡ None → (IsImpossible pairs way → ⊥) → IsGathered bans entries pairs way noted → IsNamedIn bans entries pairs way
named_of_gathered bans entries pairs way None none possible (inl impossible) = absurd (possible impossible)
named_of_gathered bans entries pairs way None none possible (inr named) = named
named_of_gathered bans entries pairs way (Some number) none possible is = cc

-- a way for which a ban is noted is closed by it
pub closed_by_noted : (bans : List Ban) (entries : List Entry) (pairs : List Pair) (way : Pair) (noted : Option ℕ) (number : ℕ) → noted ≡ Some number → (IsImpossible pairs way → ⊥) → IsGathered bans entries pairs way noted → IsClosed bans pairs way (Some number)
closed_by_noted bans entries pairs way noted number same possible is =
    closed_by_covers bans pairs way number possible (subst (IsGathered bans entries pairs way) same is)

-- a way that clashes with one of the pairs is impossible
pub impossible_by : (pairs : List Pair) (way with : Pair) → Contains pairs with × Clash with way → IsImpossible pairs way
impossible_by pairs way with is = any_of_contained (λ (x : Pair). Clash x way) pairs with is.0 is.1
