-- An account that is accepted as a match is one: its records lead from the conclusion through all logs of the match to
-- the end.
use Rattle.std.proofs.Common.{◌≡◌, ℕ, zero, suc, ◌+◌, ◌-◌, ◌/◌, ◌%◌, ◌==◌, ◌<◌, Bool, true, false, List, [], ◌∷◌, ◌++◌, Option, None, Some, refl, sym, ap, subst, ◌∙◌, arith, eqb-true, if◌then◌else◌}
use Rattle.std.proofs.lemmas.List.Sums.{fold_push}
use Rattle.circuits.specs.declared.port.Pair.{Pair}
use Rattle.circuits.specs.Matches.{HavePorts, IsMatchOfFunctions}
use Rattle.cnf_core.specs.declared.literal.SatLit.{SatLit}
use Rattle.cnf_core.specs.declared.log.LogLine.{LogLine}
use Rattle.cnf_core.specs.Derivations.{is_empty}
use Rattle.net_core.specs.Sides.{Graphs}
use Rattle.net_core.specs.declared.matching.Matching.{Matching}
use Rattle.net_core.specs.Graph.{IsGraph}
use Rattle.claim_core.specs.declared.query.Query.{Query}
use Rattle.claim_core.proofs.MatchLemmas.{match_query_fits}
use Rattle.account_core.specs.declared.conclusion.Conclusion.{Conclusion}
use Rattle.account_core.specs.declared.conclusion.Conclusion.TheVariants as conclusion
use Rattle.account_core.specs.declared.fact.FactHead.TheVariants as head
use Rattle.account_core.specs.Ports.{HaveAsMany}
use Rattle.account_file.specs.declared.place.Place.{Place}
use Rattle.account_file.specs.declared.place.Place.TheVariants as place
use Rattle.account_file.specs.declared.record.Record.{Record}
use Rattle.account_file.specs.declared.record.Record.TheVariants as entry_of
use Rattle.account_file.specs.Order.{logs_asked, logs_after, place_after, place_in_log, place_after_one, next_place}
use Rattle.account_file.proofs.VersionLemmas.{account_ended}
use Rattle.account_check.specs.declared.verdict.Verdict.{Verdict}
use Rattle.account_check.specs.declared.verdict.Verdict.TheVariants as verdict
use Rattle.account_check.specs.Accounts.{Account, AreValid, HasFault, account_after, with_record, after_conclusion, rest_after_line, empty_account}
use Rattle.account_check.specs.Conclusions.{AreWhole, ConclusionTests, matching_of}
use Rattle.account_check.specs.Logs.{OpenFact, Proof, line_reject, log_count, with_fact, log_query, match_reject, unproved, with_line}
use Rattle.account_check.specs.Proofs.{AreRefuted, IsLogSoFar}
use Rattle.account_check.specs.Verdicts.{IsAccepted}
use Rattle.account_check.proofs.AccountLemmas.{account_after-push, account_graphs, valid_records}
use Rattle.account_check.proofs.LogLemmas.{log_begun, log_more, proved, refuted_by, refuted_more}
use Rattle.account_check.proofs.PairLemmas.{outputs_counted}
use Rattle.account_check.proofs.RefusalLemmas.{concluded_so}
use Rattle.account_check.proofs.RightLemmas.{last_empty, no_reject}
use Rattle.account_check.proofs.TestLemmas.{through}
use Rattle.std.proofs.lemmas.Option.{same_Some, none-some}

-- The logs of a match, of which this many are left: those that are closed refute, and the lines of the open one are
-- derived.
record AreLogsSoFar (graphs : Graphs) (proof : Proof) (left : ℕ) : Type 0 where
  ports : HavePorts graphs.first graphs.second proof.matching.inputs proof.matching.outputs
  counted : proof.closed + left ≡ log_count proof.matching
  refuted : AreRefuted graphs proof.matching proof.closed
  open_log : 0 < left → IsLogSoFar graphs (log_query graphs proof.matching proof.closed) proof.taken

-- where an account concludes in a match, its logs are of that match, and this many are left
record IsMatchSoFar (account : Account) (left : ℕ) : Type 0 where
  same : (matching : Matching) → account.concluded ≡ Some (verdict.Match matching) → account.proof.matching ≡ matching
  logs : (matching : Matching) → account.concluded ≡ Some (verdict.Match matching) → AreLogsSoFar account.graphs account.proof left

-- what is known of an account by the place where it stands
abbrev IsKnownAt : Place → Account → Type 0
IsKnownAt place.Start account = account.fact ≡ None
IsKnownAt place.Headed account = account.fact ≡ None
IsKnownAt place.FactLog account = Unit {0}
IsKnownAt (place.Logs left) account = (account.fact ≡ None) × IsMatchSoFar account left
IsKnownAt place.Ended account = IsMatchSoFar account 0

-- the next log, before its first line
log_at : (graphs : Graphs) (matching : Matching) (c left : ℕ) → HavePorts graphs.first graphs.second matching.inputs matching.outputs → c + left ≡ log_count matching → 0 < left → IsLogSoFar graphs (log_query graphs matching c) []
log_at graphs matching c left ports counted some =
    log_begun graphs (log_query graphs matching c) (match_query_fits graphs matching (c / 2) (c % 2 == 0) ports (omega (arith, counted, some, ports.outputs.entries)))

-- a line that is taken of the open log: the empty one closes it
line_more : (graphs : Graphs) (proof : Proof) (line : LogLine) (left : ℕ) → 0 < left → AreLogsSoFar graphs proof left → None ≡ match_reject graphs proof line → AreLogsSoFar graphs (with_line proof line) (logs_after left line.clause)
line_more graphs proof line left some logs none =
    by line.clause refl
  where
    query : Query
    query = log_query graphs proof.matching proof.closed

    more : IsLogSoFar graphs query (proof.taken ++ line.clause ∷ [])
    more = log_more graphs query proof.taken line (logs.open_log some) (no_reject _ none)

    by : (clause : List SatLit) → line.clause ≡ clause → AreLogsSoFar graphs (if is_empty clause then record { matching = proof.matching; closed = proof.closed + 1; taken = [] } else record { matching = proof.matching; closed = proof.closed; taken = proof.taken ++ line.clause ∷ [] }) (logs_after left clause)
    by [] e =
        let refuted = refuted_by graphs query (proof.taken ++ line.clause ∷ []) more (last_empty proof.taken line.clause (ap is_empty e)) in
        let counted : proof.closed + 1 + (left - 1) ≡ log_count proof.matching = omega (arith, logs.counted, some) in
        record {
          ports = logs.ports;
          counted = counted;
          refuted = refuted_more graphs proof.matching proof.closed logs.refuted refuted;
          open_log = λ further. log_at graphs proof.matching (proof.closed + 1) (left - 1) logs.ports counted further;
        }
    by (literal ∷ clause) e = record {
      ports = logs.ports;
      counted = logs.counted;
      refuted = logs.refuted;
      open_log = λ further. more;
    }

-- a match before the first line of its logs
begun : (graphs : Graphs) (pairs : List Pair) → HaveAsMany graphs.first graphs.second → AreWhole graphs pairs → AreLogsSoFar graphs (unproved (matching_of graphs.first.inputs pairs)) (logs_asked (conclusion.Match pairs))
begun graphs pairs as_many whole =
    let matching = matching_of graphs.first.inputs pairs in
    let ports : HavePorts graphs.first graphs.second matching.inputs matching.outputs = record {
      same_inputs = sym as_many.inputs;
      same_outputs = sym as_many.outputs;
      inputs = whole.inputs;
      outputs = whole.outputs;
    } in
    let counted : 0 + logs_asked (conclusion.Match pairs) ≡ log_count matching = omega (arith, outputs_counted graphs.first pairs whole.order) in
    record {
      ports = ports;
      counted = counted;
      refuted = λ c below. absurd (omega (arith, below));
      open_log = log_at graphs matching 0 (logs_asked (conclusion.Match pairs)) ports counted;
    }

-- a conclusion
other_verdict : (matching : Matching) → ◌≡◌ {A = Option Verdict} (Some verdict.None) (Some (verdict.Match matching)) → ⊥
other_verdict matching e = cc

same_matching : (a b : Matching) → ◌≡◌ {A = Option Verdict} (Some (verdict.Match a)) (Some (verdict.Match b)) → a ≡ b
same_matching a b e = cc

concluded : (account : Account) (x : Conclusion) → ConclusionTests account.graphs account.given account.dropped x None → IsMatchSoFar (after_conclusion account x) (logs_asked x)
concluded account conclusion.NonePorts tests = record {
  same = λ matching e. absurd (other_verdict matching e);
  logs = λ matching e. absurd (other_verdict matching e);
}
concluded account (conclusion.NoneBan ban) tests = record {
  same = λ matching e. absurd (other_verdict matching e);
  logs = λ matching e. absurd (other_verdict matching e);
}
concluded account (conclusion.Match pairs) tests =
    let as_many = through tests in
    let known = through as_many.1 in
    let whole = through known.1 in
    record {
      same = λ matching e. same_matching (matching_of account.graphs.first.inputs pairs) matching e;
      logs = λ matching e. begun account.graphs pairs as_many.0 whole.0;
    }

-- a line of a match's logs
line_taken : (account : Account) (fact : Option OpenFact) (line : LogLine) (left : ℕ) → 0 < left → fact ≡ None → account.fact ≡ None → IsMatchSoFar account left → None ≡ line_reject account.graphs fact account.proof line → IsKnownAt (place.Logs (logs_after left line.clause)) (rest_after_line account fact line)
line_taken account (Some fact) line left some closed none so_far fine = absurd (some_fact closed)
  where
    some_fact : ◌≡◌ {A = Option OpenFact} (Some fact) None → ⊥
    some_fact e = cc
line_taken account None line left some closed none so_far fine = (
  none,
  record {
    same = so_far_matching;
    logs = λ matching e. line_more account.graphs account.proof line left some (so_far.logs matching e) fine;
  },
)
  where
    kept : (b : Bool) (x y : Proof) → x.matching ≡ account.proof.matching → y.matching ≡ account.proof.matching → (if b then x else y).matching ≡ account.proof.matching
    kept true x y first second = first
    kept false x y first second = second

    so_far_matching : (matching : Matching) → account.concluded ≡ Some (verdict.Match matching) → (with_line account.proof line).matching ≡ matching
    so_far_matching matching e = kept (is_empty line.clause) _ _ refl refl ∙ so_far.same matching e

-- a line of a fact's log: after the empty one no fact is open
fact_closed : (account : Account) (fact : Option OpenFact) (line : LogLine) (clause : List SatLit) → line.clause ≡ clause → account.fact ≡ fact → IsKnownAt (place_in_log clause) (rest_after_line account fact line)
fact_closed account fact line (literal ∷ clause) e is = tt
fact_closed account None line [] e is = is
fact_closed account (Some fact) line [] e is =
    by (is_empty line.clause) (ap is_empty e)
  where
    given_now : Account
    given_now = record account { given = with_fact account.given fact.claim true; fact = None }

    goes_on : Account
    goes_on = record account { fact = Some (record { claim = fact.claim; taken = fact.taken ++ line.clause ∷ [] }) }

    by : (b : Bool) → b ≡ true → (if b then given_now else goes_on).fact ≡ None
    by true same = refl
    by false same = cc

-- a conclusion opens no fact
fact_stays : (account : Account) (x : Conclusion) → account.fact ≡ None → (after_conclusion account x).fact ≡ None
fact_stays account conclusion.NonePorts e = e
fact_stays account (conclusion.NoneBan ban) e = e
fact_stays account (conclusion.Match pairs) e = e

-- how a record leads on
above : (left : ℕ) → (left == 0) ≡ false → 0 < left
above zero e = cc
above (suc left) e = omega arith

known_there : (p q : Place) (account : Account) → Some p ≡ Some q → IsKnownAt p account → IsKnownAt q account
known_there p q account e known = subst (λ (r : Place). IsKnownAt r account) (same_Some p q e) known

known_after : (at : Place) (account : Account) (entry : Record) (next : Place) → IsKnownAt at account → HasFault account entry None → next_place at entry ≡ Some next → IsKnownAt next (with_record account entry)
known_after place.Start account entry_of.Header next known fine e = known_there place.Headed next account e known
known_after place.Headed account (entry_of.Fact (head.Fails claim bits)) next known fine e = known_there place.Headed next (with_record account (entry_of.Fact (head.Fails claim bits))) e known
known_after place.Headed account (entry_of.Fact (head.Holds claim)) next known fine e = known_there place.FactLog next (with_record account (entry_of.Fact (head.Holds claim))) e tt
known_after place.Headed account (entry_of.Ban ban) next known fine e = known_there place.Headed next (with_record account (entry_of.Ban ban)) e known
known_after place.Headed account (entry_of.DropFact fact) next known fine e = known_there place.Headed next (with_record account (entry_of.DropFact fact)) e known
known_after place.Headed account (entry_of.DropBan ban) next known fine e = known_there place.Headed next (with_record account (entry_of.DropBan ban)) e known
known_after place.Headed account (entry_of.Conclusion x) next known fine e =
    known_there (place.Logs (logs_asked x)) next (after_conclusion account x) e (fact_stays account x known, concluded account x fine)
known_after place.FactLog account (entry_of.Line line) next known fine e =
    known_there (place_in_log line.clause) next (rest_after_line account account.fact line) e (fact_closed account account.fact line line.clause refl refl)
known_after (place.Logs left) account (entry_of.Line line) next known fine e =
    by (left == 0) refl e
  where
    by : (b : Bool) → (left == 0) ≡ b → (if b then None else Some (place.Logs (logs_after left line.clause))) ≡ Some next → IsKnownAt next (rest_after_line account account.fact line)
    by true zero_left e = absurd (none-some next e)
    by false some_left e =
        known_there (place.Logs (logs_after left line.clause)) next (rest_after_line account account.fact line) e (line_taken account account.fact line left (above left some_left) known.0 known.0 known.1 fine)
known_after (place.Logs left) account entry_of.End next known fine e =
    by (left == 0) refl e
  where
    by : (b : Bool) → (left == 0) ≡ b → (if b then Some place.Ended else None) ≡ Some next → IsKnownAt next account
    by true zero_left e =
        known_there place.Ended next account e (subst (λ n. IsMatchSoFar account n) (eqb-true left 0 zero_left) known.1)
    by false some_left e = absurd (none-some next e)
known_after at account entry next known fine e = absurd (none-some next e)

-- what is known stays so wherever the account is put
placed : (at : Place) (account : Account) (place : Place) → IsKnownAt at account → IsKnownAt at (record account { place = place })
placed (place.Logs left) account elsewhere known = (known.0, record { same = known.1.same; logs = known.1.logs })
placed place.Ended account elsewhere known = record { same = known.same; logs = known.logs }
placed at account elsewhere known = known

-- an account after valid records, where it stands
abbrev KnownWhere : Graphs → List Record → Type 0
KnownWhere graphs records = (at : Place) → place_after records ≡ Some at → IsKnownAt at (account_after graphs records)

known_more : (graphs : Graphs) (before : List Record) (entry : Record) → KnownWhere graphs before → HasFault (account_after graphs before) entry None → KnownWhere graphs (before ++ entry ∷ [])
known_more graphs before entry known fine at e = by (place_after before) refl
  where
    account : Account
    account = account_after graphs before

    leads : place_after_one (place_after before) entry ≡ Some at
    leads = sym (fold_push place_after_one (Some place.Start) before entry) ∙ e

    by : (found : Option Place) → place_after before ≡ found → IsKnownAt at (account_after graphs (before ++ entry ∷ []))
    by None is = absurd (none-some at (subst (λ o. place_after_one o entry ≡ Some at) is leads))
    by (Some here) is =
        let now = known_after here account entry at (known here is) fine (subst (λ o. place_after_one o entry ≡ Some at) is leads) in
        subst (IsKnownAt at) (sym (account_after-push graphs before entry)) (placed at (with_record account entry) _ now)

known_records : (graphs : Graphs) (records : List Record) → AreValid graphs records → KnownWhere graphs records
known_records graphs = valid_records graphs (KnownWhere graphs) (λ at e. known_there place.Start at (empty_account graphs) e refl) (known_more graphs)

-- an account that has ended
matched : (account : Account) (matching : Matching) → IsGraph account.graphs.first → IsGraph account.graphs.second → IsMatchSoFar account 0 → account.concluded ≡ Some (verdict.Match matching) → IsMatchOfFunctions account.graphs.first account.graphs.second matching.inputs matching.outputs
matched account matching first second so_far e =
    let logs = so_far.logs matching e in
    let all : account.proof.closed ≡ log_count account.proof.matching = omega (arith, logs.counted) in
    let refuted = subst (AreRefuted account.graphs account.proof.matching) all logs.refuted in
    subst (λ (m : Matching). IsMatchOfFunctions account.graphs.first account.graphs.second m.inputs m.outputs) (so_far.same matching e) (proved account.graphs account.proof.matching first second logs.ports refuted)

pub right_match : (graphs : Graphs) (bytes : List ℕ) (matching : Matching) → IsGraph graphs.first → IsGraph graphs.second → IsAccepted graphs bytes (verdict.Match matching) → IsMatchOfFunctions graphs.first graphs.second matching.inputs matching.outputs
right_match graphs bytes matching first second accepted =
    let records = accepted.records in
    let account = account_after graphs records in
    let same : account.graphs ≡ graphs = account_graphs graphs records in
    let so_far = known_records graphs records accepted.valid place.Ended (account_ended bytes records accepted.account) in
    let concluded = concluded_so account.place account.concluded (verdict.Match matching) accepted.verdict_is in
    let first_there = subst (λ (g : Graphs). IsGraph g.first) (sym same) first in
    let second_there = subst (λ (g : Graphs). IsGraph g.second) (sym same) second in
    subst (λ (g : Graphs). IsMatchOfFunctions g.first g.second matching.inputs matching.outputs) same (matched account matching first_there second_there so_far concluded)
