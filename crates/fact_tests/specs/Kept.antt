-- Queries that were answered, each with its answer.
use Rattle.claim_core.specs.declared.query.Query.{Query}
use Rattle.ask_core.specs.declared.question.Answer.{Answer}

-- A query with its answer.
pub record Kept : Type 0 where
  pub query : Query
  pub answer : Answer

-- an answered query, as it is kept
abbrev pub kept_of : Query × Answer → Kept
kept_of entry = record { query = entry.0; answer = entry.1 }
