-- What deciding a query makes of a ledger.
-- (fact_tests has the same of claims' queries; both go down to ask_core, with the definition of work.)
use Rattle.std.specs.Prelude.{◌≡◌, ◌⊎◌, ℕ, false, List, [], ◌∷◌, ◌++◌, Result, IfOk, IfErr}
use Rattle.cnf_core.specs.declared.log.LogLine.{LogLine}
use Rattle.cnf_core.specs.declared.stop.Stop.{Stop}
use Rattle.net_core.specs.Sides.{Graphs}
use Rattle.claim_core.specs.declared.query.Query.{Query}
use Rattle.query_core.specs.declared.ledger.Asked.{Asked}
use Rattle.query_core.specs.Ledgers.{Ledgered, charged_front}
use Rattle.oracle_core.specs.Work.{IsWorkOn}
use Rattle.ask_core.specs.Answers.{IsStoppedAfter}

-- the entry of a query with lines, of which the first n are lemmas and the others were learned for it
abbrev pub entry_with : Query → ℕ → List LogLine → Asked
entry_with query lemmas lines = record { query = query; lemmas = lemmas; lines = lines }

-- A query was asked: its entry, which is work, stands after those for which lines were learned.
pub record IsAsked (graphs : Graphs) (query : Query) (before after : Ledgered) : Type 0 where
  pub lemmas : ℕ
  pub lines : List LogLine
  pub work : IsWorkOn graphs (entry_with query lemmas lines)
  pub budget : after.budget ≡ before.budget
  pub asked : after.asked ≡ charged_front before.asked ++ entry_with query lemmas lines ∷ []

-- no answer: the budget is spent, or memory ran out
abbrev pub IsHalted : Graphs → Query → Ledgered → Ledgered → Stop → Type 0
IsHalted graphs query before after = IsStoppedAfter (IsAsked graphs query before after) before after

-- a query was decided, and asked where that was needed
abbrev pub IsDecided : Graphs → Query → Ledgered → Ledgered → Type 0
IsDecided graphs query before after = (after ≡ before) ⊎ IsAsked graphs query before after

-- What deciding a query comes to: an answer that is right, and the query decided in a ledger that isn't spent; or no
-- answer.
pub record Decides {X : Type 0} (IsRight : X → Type 0) (graphs : Graphs) (query : Query) (before after : Ledgered) (result : Result X Stop) : Type 0 where
  pub answer : IfOk result IsRight
  pub decided : IfOk result (λ _. IsDecided graphs query before after)
  pub unspent : IfOk result (λ _. after.spent ≡ false)
  pub stop : IfErr result (IsHalted graphs query before after)
