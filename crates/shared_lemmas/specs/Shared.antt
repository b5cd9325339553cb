-- Lines that hold of two circuits under the feeds of a query.
use Rattle.std.specs.Prelude.{◌≡◌, ◌⊎◌, ◌<◌, List, length, drop, All, Any, Contains, slice_index_or}
use Rattle.cnf_core.specs.declared.literal.SatLit.{SatLit}
use Rattle.cnf_core.specs.declared.log.LogLine.{LogLine}
use Rattle.cnf_core.specs.Derivations.{clauses_of}
use Rattle.joint_hash.specs.Merging.{IsImplication}
use Rattle.net_core.specs.Sides.{Graphs}
use Rattle.claim_core.specs.declared.query.Query.{Query}
use Rattle.claim_core.specs.Formulas.{formula_of}
use Rattle.query_core.specs.declared.ledger.Asked.{Asked}
use Rattle.query_core.specs.Ledgers.{Ledgered}
use Rattle.shared_lemmas.specs.Parts.{MayGoOn}
use Rattle.ask_core.specs.declared.question.Answer.{Answer}
use Rattle.ask_core.specs.declared.question.Answer.TheVariants.{Vector, Refuted}
use Rattle.ask_core.specs.Answers.{IsAskedWith}

-- Two queries are of the same circuits, whose inputs get the same bits.
pub record HaveSameFeeds (one other : Query) : Type 0 where
  pub left_side : other.left.side ≡ one.left.side
  pub left_feed : other.left.feed ≡ one.left.feed
  pub right_side : other.right.side ≡ one.right.side
  pub right_feed : other.right.feed ≡ one.right.feed

-- lines are derived in order from the clauses of each query with these feeds, none of them empty
abbrev pub HoldUnder : Graphs → Query → List LogLine → Type 0
HoldUnder graphs query lines = (other : Query) → HaveSameFeeds query other → MayGoOn (formula_of graphs other) lines

-- lines hold under the feeds of each of these queries
abbrev pub AreShared : Graphs → List Query → List LogLine → Type 0
AreShared graphs last_query lines = All (λ query. HoldUnder graphs query lines) last_query

-- A query has the feeds of the first of these.
pub record IsUnder (query : Query) (last_query : List Query) : Type 0 where
  pub own : Query
  pub some : 0 < length last_query
  pub is : slice_index_or last_query 0 own ≡ own
  pub same : HaveSameFeeds own query

-- The clause of a line that was learned for an entry under the feeds of a query, and charged.
pub record IsChargedUnder (query : Query) (clause : List SatLit) (entry : Asked) : Type 0 where
  pub same : HaveSameFeeds entry.query query
  pub learned : Contains (clauses_of (drop entry.lemmas entry.lines)) clause

-- a line that need not be paid for: an entry paid for its clause, or it is by joint hashing that a gate implies another
-- one
abbrev pub IsPaid : Graphs → Query → List Asked → LogLine → Type 0
IsPaid graphs query asked line = IsImplication (formula_of graphs query) line ⊎ Any (IsChargedUnder query line.clause) asked

-- where entries paid for some lines, these others were paid for too
abbrev pub PaysFor : Graphs → Query → List LogLine → List LogLine → Type 0
PaysFor graphs query some others = (asked : List Asked)
    → All (IsPaid graphs query asked) some
    → All (IsPaid graphs query asked) others

-- What questions about two circuits share: lines that hold under the feeds of the first of these queries.
pub record Sharing : Type 0 where
  pub graphs : Graphs
  pub last_query : List Query
  pub lines : List LogLine

-- what is shared was paid for in these entries
abbrev pub ArePaidIn : Sharing → List Asked → Type 0
ArePaidIn sharing asked = All (λ query. All (IsPaid sharing.graphs query asked) sharing.lines) sharing.last_query

-- the lines of an answer's log were paid for
abbrev pub AreLogPaid : Graphs → Query → List Asked → Answer → Type 0
AreLogPaid graphs query asked (Vector vector) = Unit {0}
AreLogPaid graphs query asked (Refuted log) = All (IsPaid graphs query asked) log.lines

-- A query was asked by lemmas that were paid for, if what was known to the entries before was.
pub record IsAskedBy (Known : List Asked → Type 0) (graphs : Graphs) (query : Query) (old new : Ledgered) : Type 0 where
  pub lemmas : List LogLine
  pub paid : Known old.asked → All (IsPaid graphs query old.asked) lemmas
  pub with_them : IsAskedWith lemmas graphs query old new
