-- What is due to be dropped after the records of an account.
use Rattle.std.specs.Prelude.{◌≡◌, ℕ, List, []}
use Rattle.account_file.specs.declared.record.Record.{Record}
use Rattle.account_file.specs.Accounts.{IsAccountOf}
use Rattle.account_convert.specs.declared.dues.Dues.{Dues}
use Rattle.account_convert.specs.declared.mentions.Mentions.{Mentions}
use Rattle.account_convert.specs.Tables.{AreDues, bans_from, facts_from}

-- both tables after all records of an account
pub record AreMentionsOf (account : List ℕ) (mentions : Mentions) : Type 0 where
  pub records : List Record
  pub are : IsAccountOf account records
  pub facts : mentions.facts ≡ facts_from 1 [] records
  pub bans : mentions.bans ≡ bans_from 1 [] records

-- what the tables say, in the order of the records
pub record AreDuesOf (account : List ℕ) (dues : Dues) : Type 0 where
  pub records : List Record
  pub are : IsAccountOf account records
  pub facts : AreDues (facts_from 1 [] records) dues.facts.items
  pub bans : AreDues (bans_from 1 [] records) dues.bans.items
