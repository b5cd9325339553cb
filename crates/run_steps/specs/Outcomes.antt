-- What the program answers, said of the words and of the files.
use Rattle.std.specs.Prelude.{◌≡◌, ◌≢◌, ℕ, ◌⊎◌, List, Option}
use Rattle.circuits.specs.Netlists.{Net}
use Rattle.account_check.specs.declared.verdict.Verdict.TheVariants as verdict
use Rattle.net_core.specs.declared.matching.Matching.{Matching}
use Rattle.query_core.specs.Ledgers.{Ledgered}
use Rattle.check_steps.specs.Check.{IsAccepted, IsMatchOfFiles, IsRejected, LacksMatch}
use Rattle.check_steps.specs.Held.{Netlist, HasNetlist, HasGraph}
use Rattle.run_steps.specs.Info.{IsSpentOf, with_itself}
use Rattle.run_steps.specs.Match.{HasNoMatch, HasPart, IsMatchFound, IsProved, IsSpentOnTwo}
use Rattle.run_steps.specs.Make.{HasMadePair, HasPartOfPair}
use Rattle.run_steps.specs.Restore.{AsChecked, HasPartOfRestored, HasRestored, IsRestorable}
use Rattle.run_steps.specs.Trim.{AsRead, HasPartOfTrimmed, HasTrimmed, IsTrimmedTo}
use Rattle.run_steps.specs.Convert.{HasConverted, HasPartOfConverted, IsConvertedTo, IsIllFormed, LacksOld}
use Rattle.run_steps.specs.Flatten.{HasFlattened, HasPartOfFlattened, IsBadHierarchy, IsFlattenedTo, LacksModels}
use Rattle.run_steps.specs.Sweep.{HasPartOfSwept, HasSwept, IsSweptTo}
use Rattle.run_steps.specs.Trial.{IsSpentOnPair, IsSpentOnPairOf, IsTried}
use Rattle.check_steps.specs.Words.{AskForPair, AsksInfo, AskNothing, AsksTrial, ReadFiles}
use Rattle.check_steps.specs.declared.outcome.Which.TheVariants.{Account}
use Rattle.check_steps.specs.declared.outcome.Outcome.{Outcome}
use Rattle.check_steps.specs.declared.outcome.Outcome.TheVariants.{AcceptedMatch, AcceptedRefusal, Rejected, Matched, NoMatching, Spent, Usage, Absent}
use Rattle.check_steps.specs.declared.outcome.Outcome.TheVariants.{TooLarge, Malformed, Informed, Made, Restored, Trimmed, Converted}
use Rattle.check_steps.specs.declared.outcome.Outcome.TheVariants.{BadHierarchy, Flattened, Swept, Tried, ReadFault, WriteFault, Memory}
use Rattle.check_steps.specs.Ends.{EndsEarly, IsAbsent}

-- The words ask for what is known of a file that is a netlist.
pub record IsAskedOf (held : List ℕ → Option (List ℕ)) (words : List (List ℕ)) : Type 0 where
  pub file_name : List ℕ
  pub budget : ℕ
  pub asks : AsksInfo words file_name budget
  pub netlist : Netlist
  pub there : HasNetlist (held file_name) netlist

-- The words ask for what is known of a file, within a budget that was spent on its graph.
pub record IsSpentOn (held : List ℕ → Option (List ℕ)) (words : List (List ℕ)) (ledger : Ledgered) : Type 0 where
  pub file_name : List ℕ
  pub budget : ℕ
  pub asks : AsksInfo words file_name budget
  pub graph : Net
  pub there : HasGraph (held file_name) graph
  pub spent : IsSpentOf (with_itself graph) budget ledger

-- the outcome is one of a netlist by itself
abbrev pub IsOfOne : Outcome → Type 0
IsOfOne outcome = (outcome ≡ Informed) ⊎ ((ledger : Ledgered) × (outcome ≡ Spent ledger))

-- the outcome is one of two netlists of which a match is sought
abbrev pub IsOfMatch : Outcome → Type 0
IsOfMatch outcome =
    ((matching : Matching) × (outcome ≡ Matched matching))
    ⊎ (outcome ≡ NoMatching)
    ⊎ ((ledger : Ledgered) × (outcome ≡ Spent ledger))

-- the outcome is one of the pair of a number: it was tried, or the budget was spent on it
abbrev pub IsOfTrial : ℕ → Outcome → Type 0
IsOfTrial number outcome =
    ((account : List ℕ) × (outcome ≡ Tried number account))
    ⊎ ((ledger : Ledgered) × (outcome ≡ Spent ledger) × IsSpentOnPairOf number ledger)

-- what an outcome says of the words and the files; the faults and the running out of memory say nothing of them
abbrev pub IsRight : (List ℕ → Option (List ℕ)) → List (List ℕ) → Outcome → Type 0
IsRight held words (Matched matching) = IsMatchFound held words matching
IsRight held words NoMatching = HasNoMatch held words
IsRight held words (AcceptedMatch matching) = IsAccepted held words (verdict.Match matching)
IsRight held words AcceptedRefusal = AsChecked (λ checked. IsAccepted held checked verdict.None) words
IsRight held words (Rejected line why) =
    AsRead (λ checked. IsRejected held checked line why) words ⊎ IsIllFormed held words line why
IsRight held words Informed = IsAskedOf held words
IsRight held words (Spent ledger) = IsSpentOn held words ledger ⊎ IsSpentOnTwo held words ledger ⊎ IsSpentOnPair words ledger
IsRight held words Made = AskForPair words
IsRight held words (Restored gates) = IsRestorable held words gates
IsRight held words (Trimmed before after) = IsTrimmedTo held words before after
IsRight held words (Converted from to records) = IsConvertedTo held words from to records
IsRight held words (Flattened models instances gates) = IsFlattenedTo held words models instances gates
IsRight held words (Swept before after left) = IsSweptTo held words before after left
IsRight held words (Tried number account) = IsTried words number account
IsRight held words Usage = AskNothing words
IsRight held words (Absent which) =
    AsRead (λ checked. IsAbsent held checked which) words
    ⊎ ((which ≡ Account) × LacksOld held words)
    ⊎ LacksModels held words (Absent which)
IsRight held words (TooLarge which) =
    AsRead (λ checked. EndsEarly held checked (TooLarge which)) words ⊎ LacksModels held words (TooLarge which)
IsRight held words (Malformed which kind at) = AsRead (λ checked. EndsEarly held checked (Malformed which kind at)) words
IsRight held words (BadHierarchy fault) = IsBadHierarchy held words fault
IsRight held words other = Unit {0}

-- Whoever wrote the account, a matching that is accepted is a match of the files' netlists, and where a refusal is
-- accepted, by a check or before a netlist is restored, they have no match.
pub record IsSoundAnswer (held : List ℕ → Option (List ℕ)) (words : List (List ℕ)) (outcome : Outcome) : Type 0 where
  pub matches : (matching : Matching) → outcome ≡ AcceptedMatch matching → IsMatchOfFiles held words matching
  pub refuses : outcome ≡ AcceptedRefusal → AsChecked (LacksMatch held) words

-- the report was put whole
pub record IsReported (outcome : Outcome) : Type 0 where
  pub written : outcome ≢ WriteFault
  pub room : outcome ≢ Memory

-- no fault came between and memory did not run out
pub record IsDecided (outcome : Outcome) : Type 0 where
  pub read : outcome ≢ ReadFault
  pub reported : IsReported outcome

-- no fault came between, memory did not run out and no budget was spent
pub record IsSettled (outcome : Outcome) : Type 0 where
  pub decided : IsDecided outcome
  pub unspent : (ledger : Ledgered) → outcome ≢ Spent ledger

-- the outcome is one that writes no file
pub record LeavesFiles (outcome : Outcome) : Type 0 where
  pub unmatched : (matching : Matching) → outcome ≢ Matched matching
  pub no_refusal : outcome ≢ NoMatching
  pub no_pair : outcome ≢ Made
  pub no_netlist : (gates : ℕ) → outcome ≢ Restored gates
  pub untrimmed : (before after : ℕ) → outcome ≢ Trimmed before after
  pub unconverted : (from to records : ℕ) → outcome ≢ Converted from to records
  pub unflattened : (models instances gates : ℕ) → outcome ≢ Flattened models instances gates
  pub unswept : (before after : ℕ) (left : Option Ledgered) → outcome ≢ Swept before after left
  pub reported : IsReported outcome

-- What the words alone say of an outcome, whatever the files have.
pub record FollowsWords (words : List (List ℕ)) (outcome : Outcome) : Type 0 where
  pub made : outcome ≡ Made → AskForPair words
  pub pair : AskForPair words → IsReported outcome → outcome ≡ Made
  pub tried : (number : ℕ) (account : List ℕ) → outcome ≡ Tried number account → IsTried words number account
  pub trial : (number : ℕ) → AsksTrial words number → IsReported outcome → IsOfTrial number outcome
  pub read : outcome ≡ ReadFault → ReadFiles words

-- a fault came or memory ran out, which leaves no file changed, or a first part of the account, of a pair, of a
-- netlist that is restored, flattened or swept, or of an account that is trimmed or converted
abbrev pub MayBeCut : (List ℕ → Option (List ℕ)) → (List ℕ → Option (List ℕ)) → List (List ℕ) → Type 0
MayBeCut before after words =
    ((name : List ℕ) → after name ≡ before name)
    ⊎ HasPart after words
    ⊎ HasPartOfPair before after words
    ⊎ HasPartOfRestored before after words
    ⊎ HasPartOfTrimmed before after words
    ⊎ HasPartOfConverted before after words
    ⊎ HasPartOfFlattened before after words
    ⊎ HasPartOfSwept before after words

-- what an outcome says of the files before and afterwards
abbrev pub Leaves : (List ℕ → Option (List ℕ)) → (List ℕ → Option (List ℕ)) → List (List ℕ) → Outcome → Type 0
Leaves before after words (Matched matching) = IsProved after words (verdict.Match matching)
Leaves before after words NoMatching = IsProved after words verdict.None
Leaves before after words Made = HasMadePair after words
Leaves before after words (Restored gates) = HasRestored before after words gates
Leaves before after words (Trimmed count left) = HasTrimmed before after words count left
Leaves before after words (Converted from to records) = HasConverted before after words from to records
Leaves before after words (Flattened models instances gates) = HasFlattened before after words models instances gates
Leaves before after words (Swept gates rest left) = HasSwept before after words gates rest left
Leaves before after words WriteFault = MayBeCut before after words
Leaves before after words Memory = MayBeCut before after words
Leaves before after words other = (name : List ℕ) → after name ≡ before name
