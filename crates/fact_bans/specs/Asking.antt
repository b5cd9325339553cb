-- What an asker is lent.
use Rattle.std.specs.Prelude.{◌≡◌, List, Result}
use Rattle.std.specs.Borrow.{GName}
use Rattle.cnf_core.specs.declared.stop.Stop.{Stop}
use Rattle.net_core.specs.Sides.{Graphs}
use Rattle.query_core.specs.Ledgers.{Ledgered}
use Rattle.account_core.specs.declared.step.Ban.{Ban}
use Rattle.oracle_core.specs.Oracles.{Known, Serves}
use Rattle.fact_bans.specs.Serving.{MakesBans, MayAsk, MayMakeBans}
use Rattle.fact_bans.specs.declared.asker.Asker.{Asker}

-- What an asker is lent, as far as facts depend on it, and the names of the loans.
pub record Loans : Type 0 where
  pub known : Known
  pub ledger : Ledgered
  pub oracle_name : GName
  pub broken_name : GName
  pub ledger_name : GName

-- what an asker has on loan now
abbrev pub loans : {O : Type 0} → (O → Known) → Asker O → Loans
loans known asker = record {
  known = known asker.oracle.now;
  ledger = asker.ledger.now;
  oracle_name = asker.oracle.ghost_name;
  broken_name = asker.broken.ghost_name;
  ledger_name = asker.ledger.ghost_name;
}

-- They are the same loans.
pub record AreSame (old new : Loans) : Type 0 where
  pub oracle : new.oracle_name ≡ old.oracle_name
  pub broken : new.broken_name ≡ old.broken_name
  pub ledger : new.ledger_name ≡ old.ledger_name

-- claims may be asked
abbrev pub MayAskBy : Graphs → Loans → Type 0
MayAskBy graphs lent = MayAsk graphs lent.known lent.ledger

-- and bans made
abbrev pub MayMakeBy : Graphs → Loans → List Ban → Type 0
MayMakeBy graphs lent bans = MayMakeBans graphs lent.known lent.ledger bans

-- what a call does that has claims decided, whatever it answers
abbrev pub ServesBy : {X : Type 0} → Loans → Loans → Result X Stop → Type 0
ServesBy old new result = Serves old.known new.known old.ledger new.ledger result

-- and makes bans by their facts
abbrev pub MakesBy : {X : Type 0} → Graphs → Loans → Loans → List Ban → List Ban → Result X Stop → Type 0
MakesBy graphs old new bans more result = MakesBans graphs old.known new.known old.ledger new.ledger bans more result
