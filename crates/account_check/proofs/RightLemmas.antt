-- Valid records keep an account right: facts are true, bans exclude, and a refusal that it concludes in is one.
use Rattle.std.proofs.Common.{◌≡◌, ℕ, ◌++◌, ◌||◌, Bool, true, false, List, [], ◌∷◌, Option, None, Some, refl, sym, ap, subst, ◌∙◌, if◌then◌else◌}
use Rattle.std.specs.List.{list_any}
use Rattle.std.proofs.lemmas.List.Elements.{All-head, All-nil, All-push, All-set, All-tail}
use Rattle.std.proofs.lemmas.Bool.{false≢true}
use Rattle.std.proofs.lemmas.List.Folds.{list_any-append}
use Rattle.circuits.specs.declared.port.Pair.{Pair}
use Rattle.circuits.specs.declared.port.PortKind.TheVariants.{Input}
use Rattle.cnf_core.specs.declared.fault.LineFault.{LineFault}
use Rattle.cnf_core.specs.declared.literal.SatLit.{SatLit}
use Rattle.cnf_core.specs.declared.log.LogLine.{LogLine}
use Rattle.cnf_core.specs.Derivations.{is_empty}
use Rattle.net_core.specs.Sides.{Graphs}
use Rattle.net_core.specs.declared.matching.Matching.{Matching}
use Rattle.net_core.specs.Graph.{IsGraph}
use Rattle.net_core.specs.Sides.{graph_of}
use Rattle.claim_core.specs.declared.claims.Claim.{Claim}
use Rattle.claim_core.specs.declared.claims.Shape.{Shape}
use Rattle.claim_core.specs.declared.claims.Shape.TheVariants.{Up, Down, Swap}
use Rattle.claim_core.specs.Claims.{Breaks, Holds, IsClaim, IsPlaced}
use Rattle.claim_core.specs.ClaimQueries.{claim_query}
use Rattle.claim_core.specs.Formulas.{IsRefuted}
use Rattle.claim_core.specs.Images.{HasPair}
use Rattle.claim_core.proofs.ClaimQueryLemmas.{claim_query_fits, holds-unmet}
use Rattle.claim_core.proofs.RefutedLemmas.{unmet}
use Rattle.account_core.specs.declared.conclusion.Conclusion.{Conclusion}
use Rattle.account_core.specs.declared.conclusion.Conclusion.TheVariants as conclusion
use Rattle.account_core.specs.declared.fact.FactHead.TheVariants as head
use Rattle.account_core.specs.declared.step.Ban.{Ban}
use Rattle.account_core.specs.Covers.{way}
use Rattle.account_core.specs.Exclusions.{AreRight, Excludes}
use Rattle.account_core.specs.Given.{Given, IsTrueFact, decided}
use Rattle.account_core.specs.Steps.{IsValidBan}
use Rattle.account_core.proofs.StepLemmas.{ban_contradicts, no_pairs, other_counts}
use Rattle.account_file.specs.declared.place.Place.{Place}
use Rattle.account_file.specs.declared.record.Record.{Record}
use Rattle.account_file.specs.declared.record.Record.TheVariants as entry_of
use Rattle.ban_check.specs.More.{clashing_pairs, without_pairs}
use Rattle.account_check.specs.Drops.{Dropped}
use Rattle.account_check.specs.declared.reject.Reject.{Reject}
use Rattle.account_check.specs.declared.reject.Reject.TheVariants as reject
use Rattle.account_check.specs.declared.verdict.Verdict.{Verdict}
use Rattle.account_check.specs.declared.verdict.Verdict.TheVariants as verdict
use Rattle.account_check.specs.Logs.{OpenFact, line_reject, refutation_of, with_ban, with_fact}
use Rattle.account_check.specs.Accounts.{Account, account_after, after, with_record, after_conclusion, rest_after_line, empty_account, HasFault}
use Rattle.account_check.specs.Bans.{BanTests}
use Rattle.account_check.specs.Conclusions.{ConclusionTests}
use Rattle.account_check.specs.Facts.{AreInputs, ArePortsThere, ClaimTests, FactTests, IsLesserFirst}
use Rattle.account_check.specs.Proofs.{IsLogSoFar}
use Rattle.account_check.specs.Rightness.{IsOpenFact, IsRight}
use Rattle.account_check.specs.Tests.{Passed, Unless}
use Rattle.account_check.specs.Accounts.{AreValid}
use Rattle.account_check.proofs.LogLemmas.{log_begun, log_more, refuted_by}
use Rattle.account_check.proofs.TestLemmas.{through}
use Rattle.account_check.proofs.AccountLemmas.{account_after-push, account_graphs, valid_records}

-- a claim whose ports are there, a swap's lesser input first, is one
placed : (n : ℕ) (shape : Shape) → AreInputs n shape → IsLesserFirst shape → IsPlaced n shape
placed n (Up i) there lesser = there
placed n (Down i) there lesser = there
placed n (Swap i j a b) there lesser = (lesser, there.1)

pub claim_there : (graphs : Graphs) (claim : Claim) → ArePortsThere graphs claim → IsLesserFirst claim.shape → IsClaim graphs claim
claim_there graphs claim there lesser = record {
  output = there.output;
  placed = placed (graph_of graphs claim.side).inputs claim.shape there.inputs lesser;
}

-- what passes the tests of a claim is one, and passes those after
pub claim_passed : (graphs : Graphs) (claim : Claim) (Rest : Option Reject → Type 0) → ClaimTests graphs claim Rest None → IsClaim graphs claim × Rest None
claim_passed graphs claim Rest tests =
    let there = through tests in
    let lesser = through there.1 in
    (claim_there graphs claim there.0 lesser.0, lesser.1)

-- what passes the tests of a ban is valid
pub ban_passed : (graphs : Graphs) (given : Given) (dropped : Dropped) (ban : Ban) → BanTests graphs given dropped ban None → IsValidBan graphs given ban
ban_passed graphs given dropped ban tests =
    let known = through tests in
    let ordered = through known.1 in
    let names = through ordered.1 in
    let rule = through names.1 in
    let shown = through rule.1 in
    record { known = known.0; ordered = ordered.0; names = names.0.0; rule = rule.0; shown = shown.0 }

shown : (graphs : Graphs) (claim : Claim) → IsGraph graphs.first → IsGraph graphs.second → IsRefuted graphs (claim_query graphs claim) → Holds graphs claim
shown graphs claim first second refuted = (holds-unmet graphs claim).1 (unmet graphs (claim_query graphs claim) first second refuted)

-- one fact more, and one ban more
fact_more : (graphs : Graphs) (given : Given) (claim : Claim) (holds : Bool) → AreRight graphs given → IsTrueFact graphs (decided claim holds) → AreRight graphs (with_fact given claim holds)
fact_more graphs given claim holds right true_fact = record {
  facts = All-push (IsTrueFact graphs) given.facts (decided claim holds) right.facts true_fact;
  bans = right.bans;
}

ban_more : (graphs : Graphs) (given : Given) (pairs : List Pair) → AreRight graphs given → Excludes graphs pairs → AreRight graphs (with_ban given pairs)
ban_more graphs given pairs right excludes = record {
  facts = right.facts;
  bans = All-push (Excludes graphs) given.bans pairs right.bans excludes;
}

-- pairs that clash are no match's, so that a ban may be forgotten
clashing_excluded : (graphs : Graphs) → Excludes graphs clashing_pairs
clashing_excluded graphs p q matches extends =
    let plain = All-head (HasPair p q) (way Input 0 0 false) (way Input 0 0 true ∷ []) extends in
    let rest = All-tail (HasPair p q) (way Input 0 0 false) (way Input 0 0 true ∷ []) extends in
    let inverted = All-head (HasPair p q) (way Input 0 0 true) [] rest in
    let same = sym plain.goes ∙ inverted.goes in
    false≢true (ap (λ (e : ℕ × Bool). e.1) same)

ban_forgotten : (graphs : Graphs) (given : Given) (ban : ℕ) → AreRight graphs given → AreRight graphs (without_pairs given ban)
ban_forgotten graphs given ban right = record {
  facts = right.facts;
  bans = All-set (Excludes graphs) given.bans ban clashing_pairs (clashing_excluded graphs) right.bans;
}

-- an account that is right stays so wherever it stands, and whatever the match's logs are
placed_anywhere : (account : Account) (place : Place) → IsRight account → IsRight (record account { place = place })
placed_anywhere account place right = record { given = right.given; fact = right.fact; refused = right.refused }

-- a record that fails
right_fails : (account : Account) (claim : Claim) (bits : List Bool) → IsRight account → FactTests account.graphs (head.Fails claim bits) None → IsRight (with_record account (entry_of.Fact (head.Fails claim bits)))
right_fails account claim bits right tests =
    let here = claim_passed account.graphs claim (Unless (Breaks account.graphs claim bits) reject.VectorFails Passed) tests in
    let breaks = through here.1 in
    record {
      given = fact_more account.graphs account.given claim false right.given (record { placed = here.0; says = (bits, breaks.0) });
      fact = right.fact;
      refused = right.refused;
    }

-- a fact that holds, before its log
right_holds : (account : Account) (claim : Claim) → IsRight account → FactTests account.graphs (head.Holds claim) None → IsRight (with_record account (entry_of.Fact (head.Holds claim)))
right_holds account claim right tests =
    let here = claim_passed account.graphs claim Passed tests in
    record {
      given = right.given;
      fact = record {
        placed = here.0;
        log = log_begun account.graphs (claim_query account.graphs claim) (claim_query_fits account.graphs claim here.0);
      };
      refused = right.refused;
    }

-- a line without a fault is derived
pub no_reject : (fault : Option LineFault) → None ≡ refutation_of fault → fault ≡ None
no_reject None e = refl
no_reject (Some fault) e = cc

pub last_empty : (taken : List (List SatLit)) (clause : List SatLit) → is_empty clause ≡ true → list_any is_empty (taken ++ clause ∷ []) ≡ true
last_empty taken clause e =
    list_any-append is_empty taken (clause ∷ []) ∙ (ap (λ x. list_any is_empty taken || (x || false)) e ∙ either (list_any is_empty taken))
  where
    either : (x : Bool) → (x || true) ≡ true
    either true = refl
    either false = refl

right_line : (account : Account) (fact : Option OpenFact) (line : LogLine) → IsGraph account.graphs.first → IsGraph account.graphs.second → IsRight account → IsOpenFact account.graphs fact → None ≡ line_reject account.graphs fact account.proof line → IsRight (rest_after_line account fact line)
right_line account None line first second right open_fact none = record { given = right.given; fact = right.fact; refused = right.refused }
right_line account (Some fact) line first second right being none =
    by (is_empty line.clause) refl
  where
    more : IsLogSoFar account.graphs (claim_query account.graphs fact.claim) (fact.taken ++ line.clause ∷ [])
    more = log_more account.graphs (claim_query account.graphs fact.claim) fact.taken line being.log (no_reject _ none)

    given_now : Account
    given_now = record account { given = with_fact account.given fact.claim true; fact = None }

    goes_on : Account
    goes_on = record account { fact = Some (record { claim = fact.claim; taken = fact.taken ++ line.clause ∷ [] }) }

    by : (b : Bool) → is_empty line.clause ≡ b → IsRight (if b then given_now else goes_on)
    by true e =
        let refuted = refuted_by account.graphs (claim_query account.graphs fact.claim) (fact.taken ++ line.clause ∷ []) more (last_empty fact.taken line.clause e) in
        record {
          given = fact_more account.graphs account.given fact.claim true right.given (record { placed = being.placed; says = shown account.graphs fact.claim first second refuted });
          fact = tt;
          refused = right.refused;
        }
    by false e = record {
      given = right.given;
      fact = record { placed = being.placed; log = more };
      refused = right.refused;
    }

-- a ban
right_ban : (account : Account) (ban : Ban) → IsGraph account.graphs.first → IsGraph account.graphs.second → IsRight account → BanTests account.graphs account.given account.dropped ban None → IsRight (with_record account (entry_of.Ban ban))
right_ban account ban first second right tests = record {
  given = ban_more account.graphs account.given ban.pairs right.given (ban_contradicts account.graphs account.given ban first second right.given (ban_passed account.graphs account.given account.dropped ban tests));
  fact = right.fact;
  refused = right.refused;
}

-- a conclusion
other_verdict : (matching : Matching) → ◌≡◌ {A = Option Verdict} (Some (verdict.Match matching)) (Some verdict.None) → ⊥
other_verdict matching e = cc

right_conclusion : (account : Account) (x : Conclusion) → IsRight account → ConclusionTests account.graphs account.given account.dropped x None → IsRight (after_conclusion account x)
right_conclusion account conclusion.NonePorts right tests =
    let differ = through tests in
    record {
      given = right.given;
      fact = right.fact;
      refused = λ e. other_counts account.graphs.first account.graphs.second differ.0;
    }
right_conclusion account (conclusion.NoneBan ban) right tests =
    let ports = through tests in
    let there = through ports.1 in
    let none = through there.1 in
    record {
      given = right.given;
      fact = right.fact;
      refused = λ e. no_pairs account.graphs (subst (Excludes account.graphs) none.0 (right.given.bans ban [] there.0.0));
    }
right_conclusion account (conclusion.Match pairs) right tests = record {
  given = right.given;
  fact = right.fact;
  refused = λ e. absurd (other_verdict _ e);
}

right_by_record : (account : Account) (entry : Record) → IsGraph account.graphs.first → IsGraph account.graphs.second → IsRight account → HasFault account entry None → IsRight (with_record account entry)
right_by_record account entry_of.Header first second right fine = right
right_by_record account (entry_of.Fact (head.Fails claim bits)) first second right fine =
    right_fails account claim bits right (through fine).1
right_by_record account (entry_of.Fact (head.Holds claim)) first second right fine =
    right_holds account claim right (through fine).1
right_by_record account (entry_of.Line line) first second right fine = right_line account account.fact line first second right right.fact fine
right_by_record account (entry_of.Ban ban) first second right fine =
    right_ban account ban first second right (through fine).1
right_by_record account (entry_of.Conclusion x) first second right fine = right_conclusion account x right fine
right_by_record account (entry_of.DropFact fact) first second right fine = record { given = right.given; fact = right.fact; refused = right.refused }
right_by_record account (entry_of.DropBan ban) first second right fine = record { given = ban_forgotten account.graphs account.given ban right.given; fact = right.fact; refused = right.refused }
right_by_record account entry_of.End first second right fine = right

-- one valid record more
pub right_after : (account : Account) (entry : Record) → IsGraph account.graphs.first → IsGraph account.graphs.second → IsRight account → HasFault account entry None → IsRight (after account entry)
right_after account entry first second right fine =
    placed_anywhere (with_record account entry) _ (right_by_record account entry first second right fine)

-- an account before its first record
pub right_at_first : (graphs : Graphs) → IsRight (empty_account graphs)
right_at_first graphs = record {
  given = record { facts = All-nil (IsTrueFact graphs); bans = All-nil (Excludes graphs) };
  fact = tt;
  refused = λ e. absurd (no_verdict e);
}
  where
    no_verdict : ◌≡◌ {A = Option Verdict} None (Some verdict.None) → ⊥
    no_verdict e = cc

-- an account after valid records
pub right_records : (graphs : Graphs) (records : List Record) → IsGraph graphs.first → IsGraph graphs.second → AreValid graphs records → IsRight (account_after graphs records)
right_records graphs records first second =
    valid_records graphs (λ before. IsRight (account_after graphs before)) (right_at_first graphs) more records
  where
    more : (before : List Record) (entry : Record) → IsRight (account_after graphs before) → HasFault (account_after graphs before) entry None → IsRight (account_after graphs (before ++ entry ∷ []))
    more before entry right fine =
        let same = sym (account_graphs graphs before) in
        subst IsRight (sym (account_after-push graphs before entry))
        (right_after (account_after graphs before) entry (subst (λ (g : Graphs). IsGraph g.first) same first) (subst (λ (g : Graphs). IsGraph g.second) same second) right fine)

-- the facts and bans of valid records
pub right_prefix : (graphs : Graphs) (records : List Record) → IsGraph graphs.first → IsGraph graphs.second → AreValid graphs records → AreRight graphs (account_after graphs records).given
right_prefix graphs records first second valid =
    subst (λ (g : Graphs). AreRight g (account_after graphs records).given) (account_graphs graphs records) (right_records graphs records first second valid).given
