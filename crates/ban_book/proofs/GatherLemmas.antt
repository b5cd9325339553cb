-- Pairs that are gathered for a ban.
use Rattle.std.proofs.Common.{◌+◌, ◌<◌, ℕ, List, ◌∷◌, length, take, All, get_or}
use Rattle.std.specs.Prelude.{Contains}
use Rattle.std.proofs.lemmas.List.Elements.{All-more, All-weaker}
use Rattle.circuits.specs.declared.port.Pair.{Pair}
use Rattle.account_core.specs.Assigned.{IsPart}
use Rattle.ban_book.proofs.BlockListLemmas.{among_more, cons_more}

-- The pairs gathered so far are some of the assigned ones; those before are among them, and the pairs that were gone through are too,
-- but for the way.
pub record IsGathering (assigned before now : List Pair) (way : Pair) (done : List Pair) : Type 0 where
  pub part : IsPart assigned now
  pub stays : All (Contains now) before
  pub among : All (Contains (way ∷ now)) done

pub gather_more : (assigned before now later : List Pair) (way : Pair) (pairs : List Pair) (i : ℕ) (d : Pair) → i < length pairs → IsGathering assigned before now way (take i pairs) → IsPart assigned later → All (Contains later) now → Contains (way ∷ later) (get_or pairs i d) → IsGathering assigned before later way (take (i + 1) pairs)
gather_more assigned before now later way pairs i d below is part stays here = record {
  part = part;
  stays = among_more before now later is.stays stays;
  among = All-more (Contains (way ∷ later)) pairs i d below (All-weaker (Contains (way ∷ now)) (Contains (way ∷ later)) (λ x. cons_more way now later x stays) (take i pairs) is.among) here;
}
