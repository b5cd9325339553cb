-- What is kept of the facts and bans that were given.
use Rattle.std.specs.Prelude.{List, map}
use Rattle.circuits.specs.declared.port.Pair.{Pair}
use Rattle.account_core.specs.Given.{Decided, decided}
use Rattle.ban_check.specs.declared.given.GivenFact.{GivenFact}
use Rattle.ban_check.specs.declared.given.KeptBan.{KeptBan}
use Rattle.ban_check.specs.declared.given.KeptBan.TheVariants.{Pairs, Dropped}
use Rattle.ban_check.specs.More.{clashing_pairs}

-- the claim that a fact decided, and whether it holds
abbrev pub decided_of : GivenFact → Decided
decided_of fact = decided fact.claim fact.holds

-- the claims that all facts decided, in the order in which they were given
abbrev pub decided_claims : List GivenFact → List Decided
decided_claims facts = map decided_of facts

-- what is kept of a ban: its pairs, or two that no match has both of
abbrev pub pairs_kept : KeptBan → List Pair
pairs_kept (Pairs pairs) = pairs
pairs_kept Dropped = clashing_pairs

-- the pairs of all bans, in the order in which they were given
abbrev pub pairs_of_each : List KeptBan → List (List Pair)
pairs_of_each bans = map pairs_kept bans
