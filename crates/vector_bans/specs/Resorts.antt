-- Bans of pairs on which an output differs from its partner: by a vector only where claims of one input show none.
use Rattle.std.specs.Prelude.{◌≡◌, List}
use Rattle.circuits.specs.declared.port.Pair.{Pair}
use Rattle.net_core.specs.Sides.{Graphs}
use Rattle.word_sim.specs.declared.tri.Tri.{Tri}
use Rattle.account_core.specs.declared.step.Ban.{Ban}
use Rattle.account_core.specs.declared.step.Step.TheVariants as step
use Rattle.account_core.specs.Given.{Decided, given_of}
use Rattle.account_core.specs.Steps.{IsValidBan}
use Rattle.ban_book.specs.Covering.{IsWithin}
use Rattle.ban_book.specs.Vectors.{AreEndsDecided, HaveNoFacts, IsLastResort, IsVector}
use Rattle.vector_bans.specs.Differences.{IsShown}

-- A ban of some of the pairs, valid in view of facts whatever bans there are, and by a vector only as a last resort.
pub record IsBanWithin (graphs : Graphs) (facts : List Decided) (pairs : List Pair) (ban : Ban) : Type 0 where
  pub within : IsWithin pairs ban
  pub valid : (bans : List Ban) → IsValidBan graphs (given_of facts bans) ban
  pub last_resort : IsVector ban.step → IsLastResort graphs facts ban

-- The claims of one input of both outputs of a pair are decided, and facts show no ban of these pairs.
pub record ShowNothing (graphs : Graphs) (facts : List Decided) (pair : Pair) (pairs : List Pair) : Type 0 where
  pub decided : AreEndsDecided graphs facts pair
  pub no_facts : HaveNoFacts graphs facts pairs

-- The ban of these pairs by values on which they show that an output differs from its partner.
pub record IsVectorBan (graphs : Graphs) (pair : Pair) (pairs : List Pair) (ban : Ban) : Type 0 where
  pub values : List Tri
  pub ban_is : ban ≡ record { pairs = pairs; step = step.Vector pair.from values }
  pub shown : IsShown graphs pairs pair values pairs
