-- The logs of a match: what a line that is taken leaves, and what closed logs show.
use Rattle.std.proofs.Common.{◌≡◌, ℕ, ◌+◌, ◌*◌, ◌/◌, ◌%◌, ◌==◌, ◌<◌, ◌||◌, Bool, true, false, List, [], ◌∷◌, ◌++◌, length, Option, None, Some, Result, Ok, Err, inl, inr, refl, sym, ap, subst, ◌∙◌, arith}
use Rattle.std.specs.List.{list_all, list_any}
use Rattle.std.proofs.lemmas.Bool.{cases_lt}
use Rattle.std.proofs.lemmas.List.{map-append}
use Rattle.std.proofs.lemmas.List.Folds.{list_any-append}
use Rattle.circuits.specs.Matches.{HavePorts, IsMatchOfFunctions}
use Rattle.std.proofs.Math.Bool.{or-false}
use Rattle.cnf_core.specs.declared.literal.SatLit.{SatLit}
use Rattle.cnf_core.specs.declared.log.LogLine.{LogLine}
use Rattle.cnf_core.specs.Derivations.{is_empty, line_fault}
use Rattle.net_core.specs.Sides.{Graphs}
use Rattle.net_core.specs.declared.matching.Matching.{Matching}
use Rattle.net_core.specs.Graph.{IsGraph}
use Rattle.claim_core.specs.declared.claims.Claim.{Claim}
use Rattle.claim_core.specs.ClaimQueries.{claim_query}
use Rattle.query_core.specs.ClaimClauses.{PartialQuery, is_present, present_formula}
use Rattle.query_core.proofs.ClaimClauseLemmas.{present_fault}
use Rattle.claim_core.specs.declared.query.Query.{Query}
use Rattle.claim_core.specs.Formulas.{formula_of, IsRefuted}
use Rattle.claim_core.specs.MatchQueries.{match_query}
use Rattle.claim_core.proofs.RefutedLemmas.{match_of_refuted}
use Rattle.std.specs.Result.{IsErrAnd}
use Rattle.cnf_core.specs.declared.fault.LineFault.{LineFault}
use Rattle.cnf_core.proofs.LineLemmas.{derived_more}
use Rattle.claim_core.specs.Queries.{IsQuery}
use Rattle.refute_check.specs.Refutations.{answer_of}
use Rattle.account_check.specs.declared.reject.Reject.{Reject}
use Rattle.account_check.specs.declared.reject.RecordStop.{RecordStop}
use Rattle.account_check.specs.declared.reject.RecordStop.TheVariants as stop
use Rattle.account_check.specs.Logs.{Proof, fact_reject, match_reject, log_count, log_query, refutation_of}
use Rattle.account_check.specs.Proofs.{AreRefuted, FactProof, IsLog, IsLogSoFar, IsOpen, LogSoFar, MatchLogs, lines_in}

-- a log with one line more
pub log_more : (graphs : Graphs) (query : Query) (taken : List (List SatLit)) (line : LogLine) → IsLogSoFar graphs query taken → line_fault (formula_of graphs query) taken line ≡ None → IsLogSoFar graphs query (taken ++ line.clause ∷ [])
log_more graphs query taken line so_far none = record {
  fits = so_far.fits;
  lines = so_far.lines ++ line ∷ [];
  lines_are = ap (λ cs. cs ++ line.clause ∷ []) so_far.lines_are ∙ sym (map-append (λ (l : LogLine). l.clause) so_far.lines (line ∷ []));
  derived = derived_more (formula_of graphs query) so_far.lines line so_far.derived (subst (λ t. line_fault (formula_of graphs query) t line ≡ None) so_far.lines_are none);
}

-- a log whose empty line was taken
pub refuted_by : (graphs : Graphs) (query : Query) (taken : List (List SatLit)) → IsLogSoFar graphs query taken → list_any is_empty taken ≡ true → IsRefuted graphs query
refuted_by graphs query taken so_far closed = record {
  fits = so_far.fits;
  lines = so_far.lines;
  refuted = record { derived = so_far.derived; closed = subst (λ t. list_any is_empty t ≡ true) so_far.lines_are closed };
}

-- whether the empty line is among the lines with one more
pub empty_more : (taken : List (List SatLit)) (clause : List SatLit) → list_any is_empty taken ≡ false → list_any is_empty (taken ++ clause ∷ []) ≡ is_empty clause
empty_more taken clause so_far =
    list_any-append is_empty taken (clause ∷ []) ∙ (ap (λ x. x || list_any is_empty (clause ∷ [])) so_far ∙ or-false (is_empty clause))

-- one more log refutes its query
pub refuted_more : (graphs : Graphs) (matching : Matching) (c : ℕ) → AreRefuted graphs matching c → IsRefuted graphs (log_query graphs matching c) → AreRefuted graphs matching (c + 1)
refuted_more graphs matching c refuted one j below =
    elim (cases_lt j c) [
      | inl before ↦ refuted j before
      | inr after ↦
          let last : c ≡ j = omega arith in
          subst (λ k. IsRefuted graphs (log_query graphs matching k)) last one
    ]

-- all logs make a match
pub proved : (graphs : Graphs) (matching : Matching) → IsGraph graphs.first → IsGraph graphs.second → HavePorts graphs.first graphs.second matching.inputs matching.outputs → AreRefuted graphs matching (log_count matching) → IsMatchOfFunctions graphs.first graphs.second matching.inputs matching.outputs
proved graphs matching first second ports refuted =
    match_of_refuted graphs matching first second ports each
  where
    at : (k c : ℕ) (value : Bool) → c < log_count matching → c / 2 ≡ k → (c % 2 == 0) ≡ value → IsRefuted graphs (match_query graphs.first.inputs matching k value)
    at k c value below output is =
        subst (λ v. IsRefuted graphs (match_query graphs.first.inputs matching k v)) is (subst (λ j. IsRefuted graphs (match_query graphs.first.inputs matching j (c % 2 == 0))) output (refuted c below))

    even : (k : ℕ) → (2 * k % 2 == 0) ≡ true
    even k = let e : 2 * k % 2 ≡ 0 = omega arith in ap (λ r. r == 0) e

    odd : (k : ℕ) → ((2 * k + 1) % 2 == 0) ≡ false
    odd k = let e : (2 * k + 1) % 2 ≡ 1 = omega arith in ap (λ r. r == 0) e

    each : (k : ℕ) (value : Bool) → k < length graphs.first.outputs → IsRefuted graphs (match_query graphs.first.inputs matching k value)
    each k true below = at k (2 * k) true (omega (arith, below, ports.outputs.entries)) (omega arith) (even k)
    each k false below = at k (2 * k + 1) false (omega (arith, below, ports.outputs.entries)) (omega arith) (odd k)

-- nothing is wrong where a line is taken
pub no_fault : (fault : Option LineFault) (done : Unit {0}) → Ok done ≡ answer_of fault → fault ≡ None
no_fault None done e = refl
no_fault (Some fault) done e = cc

-- a log before its first line
pub log_begun : (graphs : Graphs) (query : Query) → IsQuery graphs query → IsLogSoFar graphs query []
log_begun graphs query fits = record {
  fits = fits;
  lines = [];
  lines_are = refl;
  derived = λ k d below. absurd (omega (arith, below));
}

-- what is wrong with a line of the open log, as its number says
same_reject : (graphs : Graphs) (proof : Proof) (log : LogSoFar) (line : LogLine) → IsOpen graphs proof.matching proof.closed log → log.taken ≡ proof.taken → refutation_of (line_fault (formula_of log.graphs log.query) log.taken line) ≡ match_reject graphs proof line
same_reject graphs proof log line open_log taken =
    ap (λ g. refutation_of (line_fault (formula_of g log.query) log.taken line)) open_log.graphs_are
    ∙ (ap (λ q. refutation_of (line_fault (formula_of graphs q) log.taken line)) open_log.asks ∙ ap (λ t. refutation_of (line_fault (formula_of graphs (log_query graphs proof.matching proof.closed)) t line)) taken)

-- what a line of the open log is said to be is what the match's logs say of it
pub told_of_match : (graphs : Graphs) (matching : Matching) (closed : ℕ) (kept : Option LogSoFar) (log : LogSoFar) (line : LogLine) (logs : MatchLogs) (told : Option Reject) → IsLog graphs matching closed kept → kept ≡ Some log
    → record { graphs = graphs; proof = record { matching = matching; closed = closed; taken = lines_in kept } } ≡ logs
    → told ≡ refutation_of (line_fault (formula_of log.graphs log.query) log.taken line) → told ≡ match_reject logs.graphs logs.proof line
told_of_match graphs matching closed kept log line logs told is_log is same so =
    let open_log = subst (IsLog graphs matching closed) is is_log in
    subst (λ (v : MatchLogs). told ≡ match_reject v.graphs v.proof line) same
    (so ∙ same_reject graphs (record { matching = matching; closed = closed; taken = lines_in kept }) log line open_log (sym (ap lines_in is)))

-- the error that `?` hands on
pub handed_on : {X : Type 0} (answer : Result X RecordStop) (error : RecordStop) (reject : Reject) → answer ≡ Err (stop.Reject reject) → IsErrAnd answer (λ handed. handed ≡ error) → error ≡ stop.Reject reject
handed_on {X} answer error reject is same =
    sym (subst (λ r. IsErrAnd r (λ handed. handed ≡ error)) is same)

pub failed : {X : Type 0} (a b : RecordStop) → a ≡ b → ◌≡◌ {A = Result X RecordStop} (Err a) (Err b)
failed {X} a b e = ap (λ (stop : RecordStop). Err stop) e

-- what is wrong with a line of a fact's log, as the clauses say that its hints name
pub present_reject : (now old : PartialQuery) (claim : Claim) (taken before : List (List SatLit)) (line : LogLine) (log : FactProof) → list_all (is_present now) line.hints ≡ true → now.graphs ≡ old.graphs → now.query ≡ old.query → taken ≡ before → old.query ≡ claim_query old.graphs claim
    → record { graphs = old.graphs; fact = record { claim = claim; taken = before } } ≡ log
    → refutation_of (line_fault (present_formula now) taken line) ≡ fact_reject log.graphs log.fact line
present_reject now old claim taken before line log present graphs query same asks is =
    ap refutation_of (present_fault now taken line present)
    ∙ (ap (λ g. refutation_of (line_fault (formula_of g now.query) taken line)) graphs
    ∙ (ap (λ q. refutation_of (line_fault (formula_of old.graphs q) taken line)) (query ∙ asks)
    ∙ (ap (λ ts. refutation_of (line_fault (formula_of old.graphs (claim_query old.graphs claim)) ts line)) same
    ∙ ap (λ (v : FactProof). fact_reject v.graphs v.fact line) is)))
