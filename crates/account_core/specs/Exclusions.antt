-- What a ban says: no match has all of its pairs (Katebi and Markov, DATE 2010: pairs that are excluded while a match
-- is sought).
use Rattle.std.specs.Prelude.{ℕ, Bool, List, All}
use Rattle.circuits.specs.declared.port.Pair.{Pair}
use Rattle.circuits.specs.Matches.{IsMatchOfFunctions}
use Rattle.net_core.specs.Sides.{Graphs}
use Rattle.claim_core.specs.Images.{Extends}
use Rattle.account_core.specs.Given.{Given, IsTrueFact}

-- no match extends the pairs
abbrev pub Excludes : Graphs → List Pair → Type 0
Excludes graphs pairs = (p q : List (ℕ × Bool)) → IsMatchOfFunctions graphs.first graphs.second p q
    → Extends pairs p q
    → ⊥

-- All facts that were given are true, and no match extends the pairs of any ban that was given.
pub record AreRight (graphs : Graphs) (given : Given) : Type 0 where
  pub facts : All (IsTrueFact graphs) given.facts
  pub bans : All (Excludes graphs) given.bans
