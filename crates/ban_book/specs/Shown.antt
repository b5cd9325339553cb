-- What the rows of two outputs show of pairs.
use Rattle.std.specs.Prelude.{List}
use Rattle.circuits.specs.declared.port.Pair.{Pair}
use Rattle.net_core.specs.Sides.{Graphs}
use Rattle.account_core.specs.declared.step.Ban.{Ban}
use Rattle.account_core.specs.Given.{Decided, given_of}
use Rattle.account_core.specs.Steps.{IsValidBan}
use Rattle.ban_book.specs.Covering.{IsWithin}
use Rattle.ban_book.specs.Vectors.{AreDecided, HaveNoFacts, IsVector}
use Rattle.ban_book.specs.declared.input_claims.InputClaims.{InputClaims}
use Rattle.ban_book.specs.Rows.{AreRows}

-- Facts show a ban of some of the pairs, which is by no vector, whatever bans there are.
pub record IsShownBan (graphs : Graphs) (facts : List Decided) (pairs : List Pair) (ban : Ban) : Type 0 where
  pub valid : (bans : List Ban) → IsValidBan graphs (given_of facts bans) ban
  pub within : IsWithin pairs ban
  pub no_vector : IsVector ban.step → ⊥

-- The rows of a pair's outputs show a ban.
pub record IsShownByRows (graphs : Graphs) (pairs : List Pair) (pair : Pair) (one other : List InputClaims) (ban : Ban) : Type 0 where
  pub each : (facts : List Decided) → AreRows facts pair one other → IsShownBan graphs facts pairs ban

-- The rows of a pair's outputs show that there is no such ban by claims of one input.
pub record HaveNothing (graphs : Graphs) (pairs : List Pair) (pair : Pair) (one other : List InputClaims) : Type 0 where
  pub each : (facts : List Decided) → AreRows facts pair one other → AreDecided graphs facts → HaveNoFacts graphs facts pairs
