-- What a step of a search leaves.
use Rattle.std.specs.Prelude.{◌≡◌, ◌⊎◌, ℕ, ⊤, ◌<◌, ◌≤◌, List, [], map, Option, Contains, Result, IfOk, IfSome, OnOk}
use Rattle.std.specs.Borrow.{GName}
use Rattle.cnf_core.specs.declared.stop.Stop.{Stop}
use Rattle.circuits.specs.declared.port.Pair.{Pair}
use Rattle.circuits.specs.declared.port.PortKind.TheVariants.{Input, Output}
use Rattle.net_core.specs.Sides.{Graphs}
use Rattle.query_core.specs.Ledgers.{Ledgered}
use Rattle.account_core.specs.declared.step.Ban.{Ban}
use Rattle.account_core.specs.Facts.{AreFacts}
use Rattle.account_core.specs.Given.{decided_by}
use Rattle.account_core.specs.Shown.{IsEmptyBan, IsShownMatch}
use Rattle.ban_book.specs.Covering.{Covers}
use Rattle.pair_domains.specs.Trails.{Domained, assigned_in}
use Rattle.fact_bans.specs.declared.exchanges.SwapPairs.{SwapPairs}
use Rattle.fact_bans.specs.Serving.{MakesBans, MayMakeBans}
use Rattle.oracle_core.specs.Oracles.{Known, Serves, Suits}
use Rattle.sim_patterns.specs.declared.trials.Trials.{Trials}
use Rattle.sim_patterns.specs.Trials.{AreTrials}
use Rattle.pair_search.specs.declared.conflict.Conflict.{Conflict}
use Rattle.pair_search.specs.Conflicts.{IsConflict}
use Rattle.pair_search.specs.Progress.{left}
use Rattle.class_refine.specs.Stable.{AreOutputsDecided}
use Rattle.match_search.specs.Founds.{IsDecidedFound, IsFound}
use Rattle.match_search.specs.declared.found.Found.{Found}
use Rattle.match_search.specs.declared.session.Session.{Session}
use Rattle.match_search.specs.declared.ahead.Ahead.{Ahead}
use Rattle.match_search.specs.declared.ahead.Ahead.TheVariants as ahead
use Rattle.match_search.specs.declared.ahead.WholeCompared.{WholeCompared}
use Rattle.match_search.specs.declared.ahead.WholeCompared.TheVariants as compared
use Rattle.match_search.specs.declared.table_refusal.TableAhead.{TableAhead}
use Rattle.match_search.specs.declared.table_refusal.TableAhead.TheVariants as tables
use Rattle.match_search.specs.declared.table_refusal.TurnEnd.{TurnEnd}
use Rattle.match_search.specs.declared.table_refusal.TurnEnd.TheVariants as ends
pub use Rattle.fact_bans.specs.Serving.{AreValid, HasServed}
pub use Rattle.class_refine.specs.Refining.{IsShownTrail}

-- What a session has of what it is lent, as far as bans and pairs depend on it, and the names of the loans.
pub record Lent : Type 0 where
  pub known : Known
  pub ledger : Ledgered
  pub bans : List Ban
  pub vectors : Trials
  pub oracle_name : GName
  pub broken_name : GName
  pub heuristics_name : GName
  pub book_name : GName
  pub ledger_name : GName

-- what a session has on loan now
abbrev pub lent : {O : Type 0} → (O → Known) → Session O → Lent
lent known s = record {
  known = known s.asker.oracle.now;
  ledger = s.asker.ledger.now;
  bans = s.book.now;
  vectors = s.heuristics.now.trials;
  oracle_name = s.asker.oracle.ghost_name;
  broken_name = s.asker.broken.ghost_name;
  heuristics_name = s.heuristics.ghost_name;
  book_name = s.book.ghost_name;
  ledger_name = s.asker.ledger.ghost_name;
}

-- They are the same loans.
pub record AreSameLoans (old new : Lent) : Type 0 where
  pub oracle : new.oracle_name ≡ old.oracle_name
  pub broken : new.broken_name ≡ old.broken_name
  pub heuristics : new.heuristics_name ≡ old.heuristics_name
  pub book : new.book_name ≡ old.book_name
  pub ledger : new.ledger_name ≡ old.ledger_name

-- claims may be asked, and bans made
abbrev pub MayGoOn : Graphs → Lent → Type 0
MayGoOn graphs lent = MayMakeBans graphs lent.known lent.ledger lent.bans

-- What a call does that assigns and deletes no pair: claims were decided and bans made by their facts, whatever it
-- answers, and the trials stay.
pub record GoesOn {X : Type 0} (graphs : Graphs) (old new : Lent) (result : Result X Stop) : Type 0 where
  pub same : AreSameLoans old new
  pub makes : MakesBans graphs old.known new.known old.ledger new.ledger old.bans new.bans result
  pub trials : new.vectors ≡ old.vectors

-- Claims may be asked and outputs compared: the oracle is of these circuits, and the ledger suits it.
pub record MayCompare (graphs : Graphs) (known : Known) (ledger : Ledgered) : Type 0 where
  pub graphs_are : graphs ≡ known.graphs
  pub lawful : AreFacts graphs known.facts
  pub suits : Suits known ledger

-- All may begin: the oracle is of these circuits, the ledger suits it, and there is no ban.
pub record MayBegin (graphs : Graphs) (known : Known) (ledger : Ledgered) (bans : List Ban) : Type 0 where
  pub graphs_are : graphs ≡ known.graphs
  pub suits : Suits known ledger
  pub none : bans ≡ []

-- A search may begin: claims may be asked, and bans made, and the trials are the first circuit's.
pub record MaySearch (graphs : Graphs) (lent : Lent) : Type 0 where
  pub may : MayGoOn graphs lent
  pub trials : AreTrials graphs.first lent.vectors

-- A step may be made: the same, and facts show the trail.
pub record MayStep (graphs : Graphs) (lent : Lent) (domains : Domained) : Type 0 where
  pub may : MayGoOn graphs lent
  pub trail : IsShownTrail graphs lent.known lent.bans domains
  pub trials : AreTrials graphs.first lent.vectors

-- What a step does: claims were decided and bans made by their facts, whatever it answers, and where it does the next
-- step may be made, with these pairs assigned and deleted.
pub record Steps {X : Type 0} (graphs : Graphs) (old new : Lent) (domains : Domained) (result : Result X Stop) : Type 0 where
  pub same : AreSameLoans old new
  pub makes : MakesBans graphs old.known new.known old.ledger new.ledger old.bans new.bans result
  pub trail : OnOk result (IsShownTrail graphs new.known new.bans domains)
  pub trials : OnOk result (AreTrials graphs.first new.vectors)

-- What a search of some rounds does: the same, without a trail that is left.
pub record Explores {X : Type 0} (graphs : Graphs) (old new : Lent) (result : Result X Stop) : Type 0 where
  pub same : AreSameLoans old new
  pub makes : MakesBans graphs old.known new.known old.ledger new.ledger old.bans new.bans result
  pub trials : OnOk result (AreTrials graphs.first new.vectors)

-- What a search does: claims were decided, and the bans are valid by their facts, whatever it answers; and a match that
-- it answers is shown, or a ban without pairs.
pub record Searches (graphs : Graphs) (old new : Known) (before after : Ledgered) (bans : List Ban) (result : Result Found Stop)
    : Type 0 where
  pub serves : Serves old new before after result
  pub valid : AreValid graphs new bans
  pub found : IfOk result (IsFound graphs bans)

-- The same, by what a session is lent.
pub record SearchesBy (graphs : Graphs) (old new : Lent) (result : Result Found Stop) : Type 0 where
  pub same : AreSameLoans old new
  pub searches : Searches graphs old.known new.known old.ledger new.ledger new.bans result

-- What a session's search found: a match, with the claims of one input of all outputs decided, or a ban without pairs.
pub record IsFoundBy (graphs : Graphs) (lent : Lent) (found : Found) : Type 0 where
  pub found_is : IsFound graphs lent.bans found
  pub decided : IsDecidedFound graphs (map decided_by lent.known.facts) found

-- More pairs may be deleted beside one that stays assigned, and no more is left than before.
pub record Deletes (pair : Pair) (before after : Domained) : Type 0 where
  pub assigned : Contains (assigned_in after.entries) pair
  pub less : left after ≤ left before

-- What a call does that makes a ban of assigned pairs, if it finds one, and assigns no pair.
pub record Excludes (graphs : Graphs) (old new : Lent) (assigned : List Pair) (result : Result (Option ℕ) Stop) : Type 0 where
  pub goes_on : GoesOn graphs old new result
  pub covers : IfOk result (λ found. IfSome found (Covers new.bans assigned))

-- A pair of an input and one of an output are these two, in some order.
pub record AreOfBothKinds (pair other : Pair) (both : Pair × Pair) : Type 0 where
  pub input : both.0.kind ≡ Input
  pub output : both.1.kind ≡ Output
  pub are : (both ≡ (pair, other)) ⊎ (both ≡ (other, pair))

-- Two pairs of inputs and one of an output are these three, of which the last or the first is the output's.
pub record AreInputsAndOutput (one other third : Pair) (pairs : SwapPairs) : Type 0 where
  pub one_is : pairs.one.kind ≡ Input
  pub other_is : pairs.other.kind ≡ Input
  pub output : pairs.output.kind ≡ Output
  pub are : (pairs ≡ record { one = one; other = other; output = third }) ⊎ (pairs ≡ record { one = other; other = third; output = one })

-- It doesn't go on, and no more is left than before.
pub record IsStuck (bans : List Ban) (before after : Domained) (conflict : Conflict) : Type 0 where
  pub conflict_is : IsConflict bans after conflict
  pub less : left after ≤ left before

-- a step ahead: less is left, a match was found, with all claims of one input decided, or it doesn't go on
abbrev pub IsAhead : Graphs → Lent → Domained → Domained → Ahead → Type 0
IsAhead graphs lent before after ahead.Deeper = left after < left before
IsAhead graphs lent before after (ahead.Match matching logs) =
    IsShownMatch graphs matching logs × AreOutputsDecided graphs (map decided_by lent.known.facts)
IsAhead graphs lent before after (ahead.Conflict conflict) = IsStuck lent.bans before after conflict

-- a whole matching is a match, or has all pairs of a ban
abbrev pub IsWholeCompared : Graphs → List Ban → List Pair → WholeCompared → Type 0
IsWholeCompared graphs bans assigned (compared.Match matching logs) = IsShownMatch graphs matching logs
IsWholeCompared graphs bans assigned (compared.Ban number) = Covers bans assigned number

-- a step ahead by tables: it goes on, tables say of no other port, or it doesn't go on
abbrev pub IsTableAhead : List Ban → Domained → TableAhead → Type 0
IsTableAhead bans domains tables.Advanced = ⊤
IsTableAhead bans domains tables.NoPort = ⊤
IsTableAhead bans domains (tables.Conflict conflict) = IsConflict bans domains conflict

-- a turn by tables: it isn't over, tables don't refuse a match, or a ban has no pairs
abbrev pub IsTurnEnd : List Ban → TurnEnd → Type 0
IsTurnEnd bans ends.Open = ⊤
IsTurnEnd bans ends.Over = ⊤
IsTurnEnd bans (ends.Refusal number) = IsEmptyBan bans number
