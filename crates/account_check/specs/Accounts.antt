-- What the records of an account come to, and what is wrong with one.
use Rattle.std.specs.Prelude.{◌≡◌, true, false, List, [], ◌∷◌, ◌++◌, take, fold, Option, None, Some, unwrap_or, if◌then◌else◌, Result, Err, OnOk, OnErr}
use Rattle.circuits.specs.Literals.{EachAt}
use Rattle.cnf_core.specs.declared.log.LogLine.{LogLine}
use Rattle.cnf_core.specs.Derivations.{is_empty}
use Rattle.net_core.specs.Sides.{Graphs}
use Rattle.account_core.specs.declared.conclusion.Conclusion.{Conclusion}
use Rattle.account_core.specs.declared.conclusion.Conclusion.TheVariants as conclusion
use Rattle.account_core.specs.declared.fact.FactHead.{FactHead}
use Rattle.account_core.specs.declared.fact.FactHead.TheVariants as fact
use Rattle.account_core.specs.Given.{Given}
use Rattle.account_file.specs.declared.place.Place.{Place}
use Rattle.account_file.specs.declared.place.Place.TheVariants as place
use Rattle.account_file.specs.declared.record.Record.{Record}
use Rattle.account_file.specs.declared.record.Record.TheVariants as entry
use Rattle.account_file.specs.Order.{next_place}
use Rattle.account_check.specs.declared.reject.Reject.{Reject}
use Rattle.account_check.specs.declared.reject.RecordStop.{RecordStop}
use Rattle.account_check.specs.declared.reject.RecordStop.TheVariants as stop
use Rattle.account_check.specs.declared.verdict.Verdict.{Verdict}
use Rattle.account_check.specs.declared.verdict.Verdict.TheVariants as verdict
use Rattle.account_check.specs.Tests.{Passed}
use Rattle.account_check.specs.Facts.{FactTests}
use Rattle.account_check.specs.Bans.{BanTests}
use Rattle.account_check.specs.Drops.{Dropped, IsBanKept, IsFactKept, nothing_dropped, without_ban, without_fact}
use Rattle.account_check.specs.Conclusions.{matching_of, ConclusionTests, DropTest, PortsTest}
use Rattle.account_check.specs.Logs.{OpenFact, Proof, line_reject, nothing, unproved, unshown, with_ban, with_fact, with_line}
use Rattle.ban_check.specs.More.{without_pairs}

-- What an account of two circuits has come to: what may stand next; the facts and bans that were given, and which of
-- them were dropped; the fact whose log is open, which counts only once its log is closed; the match that it concludes
-- in; and its conclusion as a verdict.
pub record Account : Type 0 where
  pub graphs : Graphs
  pub place : Place
  pub given : Given
  pub dropped : Dropped
  pub fact : Option OpenFact
  pub proof : Proof
  pub concluded : Option Verdict

-- an account before its first record
abbrev pub empty_account : Graphs → Account
empty_account graphs = record {
  graphs = graphs;
  place = place.Start;
  given = record { facts = []; bans = [] };
  dropped = nothing_dropped;
  fact = None;
  proof = nothing;
  concluded = None;
}

-- What is wrong with a record that may stand there. A line of a log stands only after a fact or a match that was taken,
-- so that the circuits have the same numbers of ports.
abbrev pub HasFault : Account → Record → Option Reject → Type 0
HasFault account entry.Header fault = Passed fault
HasFault account (entry.Fact head) fault = PortsTest account.graphs (FactTests account.graphs head) fault
HasFault account (entry.Line line) fault = fault ≡ line_reject account.graphs account.fact account.proof line
HasFault account (entry.Ban ban) fault = PortsTest account.graphs (BanTests account.graphs account.given account.dropped ban) fault
HasFault account (entry.Conclusion conclusion) fault =
    ConclusionTests account.graphs account.given account.dropped conclusion fault
HasFault account (entry.DropFact fact) fault =
    PortsTest account.graphs (DropTest (IsFactKept account.given account.dropped fact)) fault
HasFault account (entry.DropBan ban) fault =
    PortsTest account.graphs (DropTest (IsBanKept account.given account.dropped ban)) fault
HasFault account entry.End fault = Passed fault

-- where a line of the open log leads: after the empty one the fact is given
abbrev pub rest_after_line : Account → Option OpenFact → LogLine → Account
rest_after_line account None line = record account { proof = with_line account.proof line }
rest_after_line account (Some fact) line =
    if is_empty line.clause then record account { given = with_fact account.given fact.claim true; fact = None }
    else record account { fact = Some (record { claim = fact.claim; taken = fact.taken ++ line.clause ∷ [] }) }

-- where a fact leads: one that fails is given, and of one that holds the log follows
abbrev pub after_fact : Account → FactHead → Account
after_fact account (fact.Fails claim bits) = record account { given = with_fact account.given claim false }
after_fact account (fact.Holds claim) = record account { fact = Some (unshown claim) }

-- where a conclusion leads
abbrev pub after_conclusion : Account → Conclusion → Account
after_conclusion account conclusion.NonePorts = record account { concluded = Some verdict.None }
after_conclusion account (conclusion.NoneBan ban) = record account { concluded = Some verdict.None }
after_conclusion account (conclusion.Match pairs) =
    let matching = matching_of account.graphs.first.inputs pairs in
    record account { proof = unproved matching; concluded = Some (verdict.Match matching) }

-- where a record leads
abbrev pub with_record : Account → Record → Account
with_record account entry.Header = account
with_record account (entry.Fact head) = after_fact account head
with_record account (entry.Line line) = rest_after_line account account.fact line
with_record account (entry.Ban ban) = record account { given = with_ban account.given ban.pairs }
with_record account (entry.Conclusion conclusion) = after_conclusion account conclusion
with_record account (entry.DropFact fact) = record account { dropped = without_fact account.dropped fact }
with_record account (entry.DropBan ban) =
    record account { given = without_pairs account.given ban; dropped = without_ban account.dropped ban }
with_record account entry.End = account

-- what an account has come to once it has this record too
abbrev pub after : Account → Record → Account
after account entry =
    record (with_record account entry) { place = unwrap_or (next_place account.place entry) account.place }

-- Taking a record that may stand next: a record that is refused has the fault that is named, one that is taken has
-- none, and what isn't taken changes nothing.
pub record Takes (old : Account) (entry : Record) (new : Account) (result : Result (Unit {0}) RecordStop) : Type 0 where
  pub refused : (reject : Reject) → result ≡ Err (stop.Reject reject) → HasFault old entry (Some reject)
  pub taken : OnOk result (HasFault old entry None)
  pub leads : OnOk result (new ≡ after old entry)
  pub unchanged : OnErr result (new ≡ old)

-- what an account has come to after its first records
abbrev pub account_after : Graphs → List Record → Account
account_after graphs records = fold after (empty_account graphs) records

-- nothing is wrong with any of the records, in view of those before it
abbrev pub AreValid : Graphs → List Record → Type 0
AreValid graphs records = EachAt (λ k entry. HasFault (account_after graphs (take k records)) entry None) records

-- the verdict of an account: none before its end
abbrev pub verdict_at : Place → Option Verdict → Option Verdict
verdict_at place.Ended concluded = concluded
verdict_at other concluded = None

-- what an account shows once it has ended: a match, or that there is none
abbrev pub verdict_of : Account → Option Verdict
verdict_of account = verdict_at account.place account.concluded
