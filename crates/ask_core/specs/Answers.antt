-- What an answer to a query says, and what the ledger says of it.
use Rattle.std.specs.Prelude.{◌≡◌, ℕ, ◌+◌, ◌^◌, ◌<◌, ◌≤◌, Bool, true, false, List, length, take, All, None, Result, IfOk, IfErr, slice_index_or}
use Rattle.cnf_core.specs.declared.log.LogLine.{LogLine}
use Rattle.cnf_core.specs.declared.stop.Stop.{Stop}
use Rattle.cnf_core.specs.declared.stop.Stop.TheVariants.{Spent, Memory}
use Rattle.cnf_core.specs.Derivations.{AreDerived, IsRefutation, clauses_of, line_fault, has_all}
use Rattle.joint_hash.specs.Merging.{AreLemmas}
use Rattle.joint_hash.specs.Trees.{AreJoined}
use Rattle.net_core.specs.Sides.{Graphs}
use Rattle.claim_core.specs.declared.query.Query.{Query}
use Rattle.claim_core.specs.Queries.{IsQuery, MeetsQuery, bits_in}
use Rattle.claim_core.specs.Formulas.{formula_of}
use Rattle.claim_core.specs.ConeClauses.{AllOfCones}
use Rattle.query_core.specs.Ledgers.{Ledgered, charged_in, last_asked, learned_in, lines_in, opened, with_lines}
use Rattle.ask_core.specs.declared.question.Answer.{Answer}
use Rattle.ask_core.specs.declared.question.Answer.TheVariants.{Vector, Refuted}
use Rattle.ask_core.specs.declared.question.Question.{Question}

-- The query fits the circuits, and the clauses are those of its cones.
pub record IsQuestion (question : Question) : Type 0 where
  pub fits : IsQuery question.graphs.now question.query.now
  pub of_graphs : question.cones.now.graphs ≡ question.graphs.now
  pub of_query : question.cones.now.query ≡ question.query.now

-- A vector that is asked for.
pub record IsVector (graphs : Graphs) (query : Query) (vector : List Bool) : Type 0 where
  pub bits : length vector ≡ bits_in graphs query
  pub meets : MeetsQuery graphs query vector

-- what an answer says
abbrev pub IsAnswer : Graphs → Query → Answer → Type 0
IsAnswer graphs query (Vector vector) = IsVector graphs query vector
IsAnswer graphs query (Refuted log) = IsRefutation (formula_of graphs query) log.lines

-- for each gate of the cones, a log has both implications between it and the first gate that unfolds to the same tree
abbrev pub JoinsTrees : Graphs → Query → Answer → Type 0
JoinsTrees graphs query (Vector vector) = Unit {0}
JoinsTrees graphs query (Refuted log) = AreJoined graphs query log.lines

-- the lines of a log are those of the ledger's last query: its lemmas, and those that were learned for it and paid for
abbrev pub IsPaidFor : Ledgered → Answer → Type 0
IsPaidFor ledger (Vector vector) = Unit {0}
IsPaidFor ledger (Refuted log) = log.lines ≡ (last_asked ledger.asked).lines

-- A line that is derived, and that has all the literals of no clause that belongs to the cones and of no earlier line.
pub record IsLearnedLine (graphs : Graphs) (query : Query) (earlier : List LogLine) (line : LogLine) : Type 0 where
  pub derived : line_fault (formula_of graphs query) (clauses_of earlier) line ≡ None
  pub fresh : AllOfCones graphs query (λ clause. has_all line.clause clause ≡ false)
  pub unlike_earlier : All (λ clause. has_all line.clause clause ≡ false) (clauses_of earlier)

-- A query was asked by these lemmas: it stands last in the ledger, with them and then with lines that were learned for
-- it. The entries before stay.
pub record IsAskedWith (lemmas : List LogLine) (graphs : Graphs) (query : Query) (old new : Ledgered) : Type 0 where
  pub lines : List LogLine
  pub begin : take (length lemmas) lines ≡ lemmas
  pub derived : AreDerived (formula_of graphs query) lines
  pub learned : (k : ℕ) (d : LogLine)
      → length lemmas ≤ k
      → k < length lines
      → IsLearnedLine graphs query (take k lines) (slice_index_or lines k d)
  pub budget : new.budget ≡ old.budget
  pub asked : new.asked ≡ with_lines lines (opened query lemmas old.asked)

-- A query was asked by lemmas that joint hashing finds: by each a gate implies another one, from the clauses of the two
-- gates and from lemmas before it. So no lemma is a line that was learned.
pub record IsAskedIn (graphs : Graphs) (query : Query) (old new : Ledgered) : Type 0 where
  pub lemmas : List LogLine
  pub are : AreLemmas (formula_of graphs query) lemmas
  pub with_them : IsAskedWith lemmas graphs query old new

-- The budget is spent, once this was asked, and the query's last line is the refused one.
pub record IsSpentAfter (P : Type 0) (old new : Ledgered) (learned : ℕ) : Type 0 where
  pub asked : P
  pub learned_is : learned ≡ old.budget
  pub used : learned_in new ≡ old.budget
  pub made : lines_in new ≡ old.budget + 1
  pub spent : new.spent ≡ true

-- no answer: the budget is spent, once this was asked, or memory ran out
abbrev pub IsStoppedAfter : Type 0 → Ledgered → Ledgered → Stop → Type 0
IsStoppedAfter P old new (Spent learned) = IsSpentAfter P old new learned
IsStoppedAfter P old new Memory = Unit {0}

-- at most 3^n lines were learned for the last entry, a refused one counted, over the n variables of a query's formula:
-- as many as there are clauses in which each of them stands plain, stands negated or doesn't stand
abbrev pub IsBounded : Graphs → Query → Ledgered → Type 0
IsBounded graphs query ledger = charged_in (last_asked ledger.asked) ≤ 3 ^ (formula_of graphs query).variables

-- so it is where the budget is spent
abbrev pub IsBoundedStop : Graphs → Query → Ledgered → Stop → Type 0
IsBoundedStop graphs query ledger (Spent learned) = IsBounded graphs query ledger
IsBoundedStop graphs query ledger Memory = Unit {0}

-- What asking a query comes to: an answer, in a ledger that isn't spent, or none; and Asked says what was asked.
pub record Asks (Asked : Graphs → Query → Ledgered → Ledgered → Type 0) (graphs : Graphs) (query : Query) (old new : Ledgered)
    (result : Result Answer Stop) : Type 0 where
  pub answer : IfOk result (IsAnswer graphs query)
  pub asked : IfOk result (λ _. Asked graphs query old new)
  pub not_spent : IfOk result (λ _. new.spent ≡ false)
  pub stop : IfErr result (IsStoppedAfter (Asked graphs query old new) old new)
  pub bounded : IfOk result (λ _. IsBounded graphs query new)
  pub bounded_stop : IfErr result (IsBoundedStop graphs query new)
