-- A book of facts about two circuits: what it means, and what it keeps.
use Rattle.std.specs.Prelude.{◌≡◌, List, ◌++◌, map, All}
use Rattle.circuits.specs.Netlists.{Net}
use Rattle.net_core.specs.Sides.{Graphs}
use Rattle.claim_core.specs.ClaimQueries.{claim_query}
use Rattle.account_core.specs.declared.fact.Fact.{Fact}
use Rattle.oracle_core.specs.Work.{IsOfMatch}
use Rattle.account_core.specs.Facts.{AreFacts}
use Rattle.oracle_core.specs.Oracles.{Known}
use Rattle.ask_core.specs.Answers.{IsAnswer}
use Rattle.fact_tests.specs.Kept.{Kept}
use Rattle.fact_tests.specs.declared.deciding.Source.{Source}
use Rattle.shared_lemmas.specs.Shared.{Sharing}

-- what is known without asking is of this circuit
abbrev pub IsSource : Net → Source → Type 0
IsSource net source = (source.supports ≡ net) × (source.sightings ≡ net) × (source.nearby ≡ net)

-- What is kept is a query of a match, with an answer to it.
pub record IsKept (graphs : Graphs) (kept : Kept) : Type 0 where
  pub of_match : IsOfMatch graphs kept.query
  pub answer : IsAnswer graphs kept.query kept.answer

-- what a book knows: the queries of its facts' claims were answered, and those of matches whose answers it keeps
abbrev pub known_by : Graphs → List Fact → List Kept → Known
known_by graphs facts kept = record {
  graphs = graphs;
  facts = facts;
  answered = map (λ fact. claim_query graphs fact.claim) facts ++ map (λ entry. entry.query) kept;
}

-- What each book keeps.
pub record IsBook (graphs : Graphs) (facts : List Fact) (kept : List Kept) : Type 0 where
  pub facts_are : AreFacts graphs facts
  pub kept_are : All (IsKept graphs) kept

-- What is known without asking is of either circuit, and what questions share of both.
pub record AreSources (graphs : Graphs) (first second : Source) (shared : Sharing) : Type 0 where
  pub first_is : IsSource graphs.first first
  pub second_is : IsSource graphs.second second
  pub shared_is : shared.graphs ≡ graphs
