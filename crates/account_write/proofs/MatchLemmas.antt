-- The account of a match that logs show.
use Rattle.std.proofs.Common.{◌≡◌, ℕ, suc, ◌+◌, ◌-◌, ◌*◌, ◌/◌, ◌%◌, ◌==◌, ◌<◌, true, false, List, [], ◌∷◌, ◌++◌, length, All, Option, None, Some, IsSome, if◌then◌else◌, slice_index_or, inl, inr, refl, sym, ap, subst, ◌∙◌, arith}
use Rattle.std.specs.Prelude.{count_by, unwrap_or}
use Rattle.std.specs.List.{flat_map}
use Rattle.std.proofs.lemmas.Bool.{cases_lt}
use Rattle.std.proofs.lemmas.Bool.Decides.{eqb_tells}
use Rattle.circuits.specs.Matches.{HavePorts}
use Rattle.cnf_core.specs.declared.literal.SatLit.{SatLit}
use Rattle.cnf_core.specs.declared.log.Log.{Log}
use Rattle.cnf_core.specs.Derivations.{IsRefutation}
use Rattle.net_core.specs.Sides.{Graphs}
use Rattle.net_core.specs.declared.matching.Matching.{Matching}
use Rattle.claim_core.specs.Formulas.{formula_of}
use Rattle.claim_core.specs.MatchQueries.{match_query}
use Rattle.account_core.specs.declared.conclusion.Conclusion.TheVariants as conclusion
use Rattle.account_core.specs.Given.{Given}
use Rattle.account_core.specs.Shown.{AreSame, AreLogs, IsShownMatch}
use Rattle.account_core.specs.Ports.{HaveAsMany}
use Rattle.account_file.specs.declared.place.Place.{Place}
use Rattle.account_file.specs.declared.place.Place.TheVariants as place
use Rattle.account_file.specs.declared.record.Record.TheVariants as entry
use Rattle.account_file.specs.Order.{is_output, logs_after}
use Rattle.account_file.specs.Spelling.{IsWritable}
use Rattle.account_check.specs.declared.verdict.Verdict.TheVariants as verdict
use Rattle.account_check.specs.Drops.{nothing_dropped}
use Rattle.account_check.specs.Accounts.{Account, after, empty_account}
use Rattle.account_check.specs.Logs.{log_query, nothing, refutation_of}
use Rattle.account_check.specs.Verdicts.{IsAccepted}
use Rattle.account_check.proofs.PairLemmas.{outputs_counted}
use Rattle.account_write.specs.Records.{account_of, log_records, match_records, pairs_of_matching}
use Rattle.account_write.proofs.TakenLemmas.{IsTaken, Lead, accepted_at_end, lead_first, lead_from, lead_none, lead_on, lead_one}
use Rattle.account_write.proofs.LogLemmas.{IsOpenLog, refutation_leads}
use Rattle.account_write.proofs.PairLemmas.{matching_back, pairs_in_order, pairs_known, pairs_whole}

-- an account after its header, with facts and bans
abbrev pub headed : Graphs → Given → Account
headed graphs given = record { graphs = graphs; place = place.Headed; given = given; dropped = nothing_dropped; fact = None; proof = nothing; concluded = None }

abbrev pub none_given : Given
none_given = record { facts = []; bans = [] }

-- an account that concludes in a match, with n logs left and closed, and these clauses of the open one
abbrev pub proving : Graphs → Given → Matching → ℕ → ℕ → List (List SatLit) → Account
proving graphs given matching left closed taken = record {
  graphs = graphs;
  place = place.Logs left;
  given = given;
  dropped = nothing_dropped;
  fact = None;
  proof = record { matching = matching; closed = closed; taken = taken };
  concluded = Some (verdict.Match matching);
}

pub header_leads : (graphs : Graphs) → Lead (empty_account graphs) (entry.Header ∷ []) (headed graphs none_given)
header_leads graphs = lead_one (record { there = refl; right = refl }) refl

-- where a line leads while logs are left
some_left : (left : ℕ) (clause : List SatLit) → (if suc left == 0 then None else Some (place.Logs (logs_after (suc left) clause))) ≡ Some (place.Logs (logs_after (suc left) clause))
some_left left clause =
    elim (eqb_tells (suc left) 0) [
      | inl (test, zero_left) ↦ absurd (omega (arith, zero_left))
      | inr (test, some) ↦ ap (λ b. if b then None else Some (place.Logs (logs_after (suc left) clause))) test
    ]

-- the same account at another place, if there is one
abbrev pub placed : Account → Option Place → Account
placed account there = record account { place = unwrap_or there account.place }

-- the logs are taken one after another
open_log : (graphs : Graphs) (given : Given) (matching : Matching) (left closed : ℕ) → IsOpenLog (formula_of graphs (log_query graphs matching closed)) (proving graphs given matching (suc left) closed) (proving graphs given matching left (closed + 1) [])
open_log graphs given matching left closed = record {
  takes = λ taken line right. record { there = subst IsSome (sym (some_left left line.clause)) refl; right = ap refutation_of (sym right) };
  goes_on = λ taken literal clause hints. ap (placed (proving graphs given matching (suc left) closed (taken ++ (literal ∷ clause) ∷ []))) (some_left left (literal ∷ clause));
  closes = λ taken hints.
      let last : suc left - 1 ≡ left = omega arith in
      ap (placed (proving graphs given matching (suc left) (closed + 1) [])) (some_left left []) ∙ ap (λ n. proving graphs given matching n (closed + 1) []) last;
}

abbrev pub Refute : Graphs → Matching → ℕ → List Log → Type 0
Refute graphs matching closed logs = (k : ℕ) (d : Log) → k < length logs → IsRefutation (formula_of graphs (log_query graphs matching (closed + k))) (slice_index_or logs k d).lines

logs_lead : (graphs : Graphs) (given : Given) (matching : Matching) (closed end : ℕ) (logs : List Log) → closed + length logs ≡ end → Refute graphs matching closed logs → Lead (proving graphs given matching (length logs) closed []) (flat_map log_records logs) (proving graphs given matching 0 end [])
logs_lead graphs given matching closed end [] ends refute =
    let same : closed ≡ end = omega (arith, ends) in
    lead_from (ap (λ c. proving graphs given matching 0 c []) same) lead_none
logs_lead graphs given matching closed end (log ∷ logs) ends refute =
    lead_on
    (refutation_leads (formula_of graphs (log_query graphs matching closed)) (proving graphs given matching (suc (length logs)) closed) (proving graphs given matching (length logs) (closed + 1) []) log.lines (open_log graphs given matching (length logs) closed) first)
    (logs_lead graphs given matching (closed + 1) end logs (omega (arith, ends)) rest)
  where
    first : IsRefutation (formula_of graphs (log_query graphs matching closed)) log.lines
    first =
        let same : closed + 0 ≡ closed = omega arith in
        subst (λ c. IsRefutation (formula_of graphs (log_query graphs matching c)) log.lines) same (refute 0 log (omega arith))

    rest : Refute graphs matching (closed + 1) logs
    rest k d below =
        let same : closed + suc k ≡ closed + 1 + k = omega arith in
        subst (λ c. IsRefutation (formula_of graphs (log_query graphs matching c)) (slice_index_or logs k d).lines) same (refute (suc k) d (omega (arith, below)))

-- two logs of each output, one for either value
one_refutes : (graphs : Graphs) (matching : Matching) (logs : List Log) → AreLogs graphs matching logs → (k : ℕ) (d : Log) → k < length logs → IsRefutation (formula_of graphs (log_query graphs matching k)) (slice_index_or logs k d).lines
one_refutes graphs matching logs shown k d below =
    elim (cases_lt (k % 2) 1) [
      | inl even ↦
          let rest : k % 2 ≡ 0 = omega (arith, even) in
          let at : 2 * (k / 2) ≡ k = omega (arith, rest) in
          let value : (k % 2 == 0) ≡ true = ap (λ r. r == 0) rest in
          subst (λ v. IsRefutation (formula_of graphs (match_query graphs.first.inputs matching (k / 2) v)) (slice_index_or logs k d).lines) (sym value)
          (subst (λ j. IsRefutation (formula_of graphs (match_query graphs.first.inputs matching (k / 2) true)) (slice_index_or logs j d).lines) at same.of_true)
      | inr odd ↦
          let rest : k % 2 ≡ 1 = omega (arith, odd) in
          let at : 2 * (k / 2) + 1 ≡ k = omega (arith, rest) in
          let value : (k % 2 == 0) ≡ false = ap (λ r. r == 0) rest in
          subst (λ v. IsRefutation (formula_of graphs (match_query graphs.first.inputs matching (k / 2) v)) (slice_index_or logs k d).lines) (sym value)
          (subst (λ j. IsRefutation (formula_of graphs (match_query graphs.first.inputs matching (k / 2) false)) (slice_index_or logs j d).lines) at same.of_false)
    ]
  where
    same : AreSame graphs matching (k / 2) (slice_index_or logs (2 * (k / 2)) d) (slice_index_or logs (2 * (k / 2) + 1) d)
    same = shown.same (k / 2) d (omega (arith, below, shown.number))

each_refutes : (graphs : Graphs) (matching : Matching) (logs : List Log) → AreLogs graphs matching logs → Refute graphs matching 0 logs
each_refutes graphs matching logs shown k d below =
    let number : k ≡ 0 + k = omega arith in
    subst (λ c. IsRefutation (formula_of graphs (log_query graphs matching c)) (slice_index_or logs k d).lines) number (one_refutes graphs matching logs shown k d below)

module _ (graphs : Graphs) (matching : Matching) (ports : HavePorts graphs.first graphs.second matching.inputs matching.outputs) where
  as_many : HaveAsMany graphs.first graphs.second
  as_many = record { inputs = sym ports.same_inputs; outputs = sym ports.same_outputs }

  conclusion_taken : (given : Given) → IsTaken (headed graphs given) (entry.Conclusion (conclusion.Match (pairs_of_matching matching)))
  conclusion_taken given = record {
    there = refl;
    right = inr (as_many, inr (pairs_known graphs matching ports, inr (pairs_whole graphs matching ports, refl)));
  }

  concluded_at : (given : Given) (left : ℕ) → 2 * length graphs.first.outputs ≡ left → after (headed graphs given) (entry.Conclusion (conclusion.Match (pairs_of_matching matching))) ≡ proving graphs given matching left 0 []
  concluded_at given left count =
      let back = matching_back graphs matching ports in
      let outs = ap (λ (m : Matching). length m.outputs) (sym back) ∙ outputs_counted graphs.first (pairs_of_matching matching) (pairs_in_order graphs matching ports) in
      let same : 2 * count_by is_output (pairs_of_matching matching) ≡ left = omega (arith, outs, count, ports.outputs.entries) in
      ap (λ m. proving graphs given m (2 * count_by is_output (pairs_of_matching matching)) 0 []) back
      ∙ ap (λ n. proving graphs given matching n 0 []) same

pub match_leads : (graphs : Graphs) (matching : Matching) (logs : List Log) → IsShownMatch graphs matching logs → Lead (empty_account graphs) (match_records matching logs) (proving graphs none_given matching 0 (length logs) [])
match_leads graphs matching logs shown =
    lead_on (header_leads graphs)
    (lead_first (conclusion_taken graphs matching ports none_given)
    (lead_from (concluded_at graphs matching ports none_given (length logs) (sym shown.shown.number))
    (logs_lead graphs none_given matching 0 (length logs) logs (omega arith) (each_refutes graphs matching logs shown.shown))))
  where
    ports : HavePorts graphs.first graphs.second matching.inputs matching.outputs
    ports = record {
      same_inputs = shown.is_match.same_inputs;
      same_outputs = shown.is_match.same_outputs;
      inputs = shown.is_match.inputs;
      outputs = shown.is_match.outputs;
    }

pub match_accepted : (graphs : Graphs) (matching : Matching) (logs : List Log) → IsShownMatch graphs matching logs → All IsWritable (match_records matching logs) → IsAccepted graphs (account_of (match_records matching logs)) (verdict.Match matching)
match_accepted graphs matching logs shown writable =
    accepted_at_end graphs (match_records matching logs) (proving graphs none_given matching 0 (length logs) []) (verdict.Match matching) writable (match_leads graphs matching logs shown) refl refl
