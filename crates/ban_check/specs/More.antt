-- One fact more, and one ban more, than were given; and a ban whose pairs are forgotten.
use Rattle.std.specs.Prelude.{ℕ, Bool, true, false, List, [], ◌∷◌, ◌++◌, slice_set}
use Rattle.circuits.specs.declared.port.Pair.{Pair}
use Rattle.circuits.specs.declared.port.PortKind.TheVariants.{Input}
use Rattle.claim_core.specs.declared.claims.Claim.{Claim}
use Rattle.account_core.specs.Covers.{way}
use Rattle.account_core.specs.Given.{Given, decided}

-- the facts and bans given, and last the fact that this claim holds, or fails
abbrev pub with_fact : Given → Claim → Bool → Given
with_fact given claim holds = record { facts = given.facts ++ decided claim holds ∷ []; bans = given.bans }

-- the facts and bans given, and last the ban of these pairs
abbrev pub with_ban : Given → List Pair → Given
with_ban given pairs = record { facts = given.facts; bans = given.bans ++ pairs ∷ [] }

-- pairs that no match has both of, whatever the circuits are
abbrev pub clashing_pairs : List Pair
clashing_pairs = way Input 0 0 false ∷ way Input 0 0 true ∷ []

-- what is left where a ban is dropped: in place of its pairs stand those
abbrev pub without_pairs : Given → ℕ → Given
without_pairs given ban = record { facts = given.facts; bans = slice_set given.bans ban clashing_pairs }
