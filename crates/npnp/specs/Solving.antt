-- What a search of two graphs comes to.
use Rattle.std.specs.Prelude.{ℕ, Result, IfOk, IfErr}
use Rattle.net_core.specs.Sides.{Graphs}
use Rattle.account_write.specs.Records.{account_of, records_of}
use Rattle.check_steps.specs.declared.outcome.Outcome.{Outcome}
use Rattle.npnp.specs.declared.matching.Solved.{Solved}
use Rattle.run_steps.specs.Steps.{IsAnswered, IsStopWithin}

-- the outcome is the answer for two graphs, and the account proves it
abbrev pub IsSolved : Graphs → Solved → Type 0
IsSolved graphs solved = IsAnswered graphs (account_of (records_of solved.account)) solved.outcome

-- Searching two graphs for a match: an answer with its account, or the budget is spent or memory ran out.
pub record Solves (graphs : Graphs) (budget : ℕ) (result : Result Solved Outcome) : Type 0 where
  pub answer : IfOk result (IsSolved graphs)
  pub stopped : IfErr result (IsStopWithin graphs budget)
