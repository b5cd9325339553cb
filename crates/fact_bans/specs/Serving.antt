-- What stays as an oracle decides claims and bans are made by its facts.
use Rattle.std.specs.Prelude.{◌≡◌, List, ◌++◌, map, Result}
use Rattle.cnf_core.specs.declared.stop.Stop.{Stop}
use Rattle.net_core.specs.Sides.{Graphs}
use Rattle.query_core.specs.Ledgers.{Ledgered}
use Rattle.account_core.specs.declared.step.Ban.{Ban}
use Rattle.account_core.specs.Given.{decided_by}
use Rattle.account_core.specs.Steps.{AreValidBans}
use Rattle.account_core.specs.Facts.{AreFacts}
use Rattle.ban_book.specs.Vectors.{AreLastResorts}
pub use Rattle.oracle_core.specs.Oracles.{HasServed}
use Rattle.oracle_core.specs.Oracles.{Known, Suits, Serves}

-- What is known is of these circuits. Each ban is valid in view of the facts, and of the bans before it, and is by a
-- vector only as a last resort.
pub record AreValid (graphs : Graphs) (known : Known) (bans : List Ban) : Type 0 where
  pub graphs_are : graphs ≡ known.graphs
  pub each : AreValidBans graphs (map decided_by known.facts) bans
  pub last_resorts : AreLastResorts graphs (map decided_by known.facts) bans

-- The bans that were kept stay, and others came after them.
pub record OnlyAdds (before after : List Ban) : Type 0 where
  pub added : List Ban
  pub more : after ≡ before ++ added

-- Claims may be asked: the oracle is of these circuits, and the ledger suits it.
pub record MayAsk (graphs : Graphs) (known : Known) (ledger : Ledgered) : Type 0 where
  pub graphs_are : graphs ≡ known.graphs
  pub suits : Suits known ledger

-- Claims may be asked, and bans made: the oracle is of these circuits, the ledger suits it, and the bans are valid.
pub record MayMakeBans (graphs : Graphs) (known : Known) (ledger : Ledgered) (bans : List Ban) : Type 0 where
  pub graphs_are : graphs ≡ known.graphs
  pub lawful : AreFacts graphs known.facts
  pub suits : Suits known ledger
  pub valid : AreValid graphs known bans

-- What a call does that has claims decided and makes bans by their facts, whatever it answers.
pub record MakesBans {X : Type 0} (graphs : Graphs) (old new : Known) (before after : Ledgered) (bans more : List Ban)
    (result : Result X Stop) : Type 0 where
  pub serves : Serves old new before after result
  pub valid : AreValid graphs new more
  pub adds : OnlyAdds bans more
