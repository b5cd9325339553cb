-- The accounts that there is no match: by facts and bans, and by the numbers of ports.
use Rattle.std.proofs.Common.{ℕ, suc, true, List, [], ◌∷◌, ◌++◌, map, take, All, Option, None, Some, slice_index_or, inr, refl, sym, ap, subst, ◌∙◌, arith, append_assoc}
use Rattle.std.specs.List.{flat_map}
use Rattle.std.proofs.lemmas.List.{append-nil, get_or-map, length-map}
use Rattle.std.proofs.lemmas.List.Elements.{All-cons, All-head, All-nil, All-tail}
use Rattle.circuits.specs.declared.port.Pair.{Pair}
use Rattle.circuits.specs.Literals.{EachAt}
use Rattle.cnf_core.specs.declared.literal.SatLit.{SatLit}
use Rattle.net_core.specs.Sides.{Graphs}
use Rattle.net_core.specs.Sides.{graph_of}
use Rattle.claim_core.specs.declared.claims.Claim.{Claim}
use Rattle.claim_core.specs.declared.claims.Shape.{Shape}
use Rattle.claim_core.specs.declared.claims.Shape.TheVariants.{Up, Down, Swap}
use Rattle.claim_core.specs.Claims.{IsClaim, IsPlaced}
use Rattle.claim_core.specs.ClaimQueries.{claim_query}
use Rattle.claim_core.specs.Formulas.{formula_of}
use Rattle.account_core.specs.declared.conclusion.Conclusion.TheVariants as conclusion
use Rattle.account_core.specs.declared.fact.Evidence.{Evidence}
use Rattle.account_core.specs.declared.fact.Evidence.TheVariants as evidence
use Rattle.account_core.specs.declared.fact.Fact.{Fact}
use Rattle.account_core.specs.declared.step.Ban.{Ban}
use Rattle.account_core.specs.declared.step.Step.{Step}
use Rattle.account_core.specs.declared.step.Step.TheVariants.{Cover, Mismatch, Tally, Vector}
use Rattle.account_core.specs.Given.{Decided, Given, decided_by, pairs_of, shown_by}
use Rattle.account_core.specs.Facts.{AreFacts, IsEvidence, IsFact}
use Rattle.account_core.specs.Ports.{HaveAsMany}
use Rattle.account_core.specs.Steps.{AreValidBans, IsValidBan}
use Rattle.account_file.specs.declared.place.Place.TheVariants as place
use Rattle.account_file.specs.declared.record.Record.{Record}
use Rattle.account_file.specs.declared.record.Record.TheVariants as entry
use Rattle.account_file.specs.Spelling.{IsWritable}
use Rattle.account_check.specs.declared.verdict.Verdict.TheVariants as verdict
use Rattle.account_check.specs.Accounts.{Account, empty_account}
use Rattle.account_check.specs.Drops.{AreNamesKept, IsReferenceUnmarked, IsUnmarked, nothing_dropped}
use Rattle.account_check.specs.Facts.{AreInputs, IsLesserFirst}
use Rattle.account_check.specs.Logs.{nothing, refutation_of, with_fact}
use Rattle.account_check.specs.Verdicts.{IsAccepted}
use Rattle.account_core.specs.Shown.{IsEmptyBan}
use Rattle.account_write.specs.Records.{account_of, fact_records, none_ports_records, refusal_records, shown_records}
use Rattle.account_write.proofs.TakenLemmas.{IsTaken, Lead, accepted_at_end, lead_first, lead_none, lead_on, lead_one}
use Rattle.account_write.proofs.LogLemmas.{IsOpenLog, refutation_leads}
use Rattle.account_write.proofs.MatchLemmas.{headed, header_leads, none_given}

-- an account that concludes that there is no match
abbrev pub refusing : Graphs → Given → Account
refusing graphs given = record { graphs = graphs; place = place.Logs 0; given = given; dropped = nothing_dropped; fact = None; proof = nothing; concluded = Some verdict.None }

-- where nothing was dropped, all that a step names is kept
numbers_kept : (numbers : List ℕ) → All (IsUnmarked []) numbers
numbers_kept [] = All-nil (IsUnmarked [])
numbers_kept (number ∷ numbers) = All-cons (IsUnmarked []) number numbers refl (numbers_kept numbers)

references_kept : (refs : List (Option ℕ)) → All (IsReferenceUnmarked []) refs
references_kept [] = All-nil (IsReferenceUnmarked [])
references_kept (None ∷ refs) = All-cons (IsReferenceUnmarked []) None refs tt (references_kept refs)
references_kept (Some ban ∷ refs) = All-cons (IsReferenceUnmarked []) (Some ban) refs refl (references_kept refs)

names_kept : (step : Step) → AreNamesKept nothing_dropped step
names_kept (Vector output values) = tt
names_kept (Mismatch fails holds) = (refl, refl)
names_kept (Tally kind have lack) = (numbers_kept have, numbers_kept lack)
names_kept (Cover kind from to refs) = references_kept refs

-- an account in which the log of a claim is open
abbrev pub showing : Graphs → Given → Claim → List (List SatLit) → Account
showing graphs given claim taken = record {
  graphs = graphs;
  place = place.FactLog;
  given = given;
  dropped = nothing_dropped;
  fact = Some (record { claim = claim; taken = taken });
  proof = nothing;
  concluded = None;
}

-- the numbers of ports differ
pub none_ports_accepted : (graphs : Graphs) → (HaveAsMany graphs.first graphs.second → ⊥) → IsAccepted graphs (account_of none_ports_records) verdict.None
none_ports_accepted graphs differ =
    accepted_at_end graphs none_ports_records (refusing graphs none_given) verdict.None writable leads refl refl
  where
    none_ports : Record
    none_ports = entry.Conclusion conclusion.NonePorts

    writable : All IsWritable none_ports_records
    writable = All-cons IsWritable entry.Header (none_ports ∷ []) tt (All-cons IsWritable none_ports [] tt (All-nil IsWritable))

    leads : Lead (empty_account graphs) none_ports_records (refusing graphs none_given)
    leads = lead_on (header_leads graphs) (lead_one (record { there = refl; right = inr (differ, refl) }) refl)

inputs_there : (n : ℕ) (shape : Shape) → IsPlaced n shape → AreInputs n shape
inputs_there n (Up i) placed = placed
inputs_there n (Down i) placed = placed
inputs_there n (Swap i j a b) placed = (omega (arith, placed.0, placed.1), placed.1)

lesser_first : (n : ℕ) (shape : Shape) → IsPlaced n shape → IsLesserFirst shape
lesser_first n (Up i) placed = tt
lesser_first n (Down i) placed = tt
lesser_first n (Swap i j a b) placed = placed.0

-- the facts given with one more
abbrev pub with_decided : Given → Decided → Given
with_decided given decided = record { facts = given.facts ++ decided ∷ []; bans = given.bans }

open_log : (graphs : Graphs) (given : Given) (claim : Claim) → IsOpenLog (formula_of graphs (claim_query graphs claim)) (showing graphs given claim) (headed graphs (with_fact given claim true))
open_log graphs given claim = record {
  takes = λ taken line right. record { there = refl; right = ap refutation_of (sym right) };
  goes_on = λ taken literal clause hints. refl;
  closes = λ taken hints. refl;
}

module _ (graphs : Graphs) (many : HaveAsMany graphs.first graphs.second) where
  shown_leads : (given : Given) (claim : Claim) (evidence : Evidence) → IsClaim graphs claim → IsEvidence graphs claim evidence → Lead (headed graphs given) (shown_records claim evidence) (headed graphs (with_decided given (shown_by claim evidence)))
  shown_leads given claim (evidence.Fails bits) placed breaks =
      let n = (graph_of graphs claim.side).inputs in
      lead_one
      (record {
        there = refl;
        right = inr (many, inr (record { output = placed.output; inputs = inputs_there n claim.shape placed.placed }, inr (lesser_first n claim.shape placed.placed, inr (breaks, refl))));
      })
      refl
  shown_leads given claim (evidence.Holds log) placed refutes =
      let n = (graph_of graphs claim.side).inputs in
      lead_first
      (record {
        there = refl;
        right = inr (many, inr (record { output = placed.output; inputs = inputs_there n claim.shape placed.placed }, inr (lesser_first n claim.shape placed.placed, refl)));
      })
      (refutation_leads (formula_of graphs (claim_query graphs claim)) (showing graphs given claim) (headed graphs (with_fact given claim true)) log.lines (open_log graphs given claim) refutes)

  facts_lead : (before : List Decided) (bans : List (List Pair)) (facts : List Fact) → All (IsFact graphs) facts → Lead (headed graphs (record { facts = before; bans = bans })) (flat_map fact_records facts) (headed graphs (record { facts = before ++ map decided_by facts; bans = bans }))
  facts_lead before bans [] each =
      subst (λ l. Lead (headed graphs (record { facts = before; bans = bans })) [] (headed graphs (record { facts = l; bans = bans }))) (sym (append-nil before)) lead_none
  facts_lead before bans (fact ∷ facts) each =
      let given : Given = record { facts = before; bans = bans } in
      let first = All-head (IsFact graphs) fact facts each in
      let one = shown_leads given fact.claim fact.evidence first.placed first.evidence in
      let rest = facts_lead (before ++ decided_by fact ∷ []) bans facts (All-tail (IsFact graphs) fact facts each) in
      subst (λ l. Lead (headed graphs given) (fact_records fact ++ flat_map fact_records facts) (headed graphs (record { facts = l; bans = bans }))) (append_assoc before (decided_by fact ∷ []) (map decided_by facts))
      (lead_on one rest)

  ban_taken : (given : Given) (ban : Ban) → IsValidBan graphs given ban → IsTaken (headed graphs given) (entry.Ban ban)
  ban_taken given ban is = record {
    there = refl;
    right = inr (many, inr (is.known, inr (is.ordered, inr ((is.names, names_kept ban.step), inr (is.rule, inr (is.shown, refl))))));
  }

  bans_lead : (facts : List Decided) (before : List (List Pair)) (bans : List Ban) → EachAt (λ k ban. IsValidBan graphs (record { facts = facts; bans = before ++ pairs_of (take k bans) }) ban) bans → Lead (headed graphs (record { facts = facts; bans = before })) (map (λ ban. entry.Ban ban) bans) (headed graphs (record { facts = facts; bans = before ++ pairs_of bans }))
  bans_lead facts before [] each =
      subst (λ l. Lead (headed graphs (record { facts = facts; bans = before })) [] (headed graphs (record { facts = facts; bans = l }))) (sym (append-nil before)) lead_none
  bans_lead facts before (ban ∷ bans) each =
      subst (λ l. Lead (headed graphs (record { facts = facts; bans = before })) (entry.Ban ban ∷ map (λ b. entry.Ban b) bans) (headed graphs (record { facts = facts; bans = l }))) (append_assoc before (ban.pairs ∷ []) (pairs_of bans))
      (lead_first (ban_taken (record { facts = facts; bans = before }) ban first) (bans_lead facts (before ++ ban.pairs ∷ []) bans rest))
    where
      first : IsValidBan graphs (record { facts = facts; bans = before }) ban
      first = subst (λ (l : List (List Pair)). IsValidBan graphs (record { facts = facts; bans = l }) ban) (append-nil before) (each 0 ban (omega arith))

      rest : EachAt (λ k other. IsValidBan graphs (record { facts = facts; bans = (before ++ ban.pairs ∷ []) ++ pairs_of (take k bans) }) other) bans
      rest k d below = subst (λ (l : List (List Pair)). IsValidBan graphs (record { facts = facts; bans = l }) (slice_index_or bans k d)) (sym (append_assoc before (ban.pairs ∷ []) (pairs_of (take k bans)))) (each (suc k) d (omega (arith, below)))

  conclusion_taken : (facts : List Decided) (bans : List Ban) (number : ℕ) → IsEmptyBan bans number → IsTaken (headed graphs (record { facts = facts; bans = pairs_of bans })) (entry.Conclusion (conclusion.NoneBan number))
  conclusion_taken facts bans number empty = record {
    there = refl;
    right = inr (many, inr ((omega (arith, length-map bans (λ (b : Ban). b.pairs), empty.kept), refl), inr (get_or-map (λ (b : Ban). b.pairs) bans number none [] empty.kept ∙ empty.pairs none, refl)));
  }
    where
      none : Ban
      none = record { pairs = []; step = Mismatch 0 0 }

  pub refusal_leads : (facts : List Fact) (bans : List Ban) (number : ℕ) → AreFacts graphs facts → AreValidBans graphs (map decided_by facts) bans → IsEmptyBan bans number
      → Lead (empty_account graphs) (refusal_records facts bans number) (refusing graphs (record { facts = map decided_by facts; bans = pairs_of bans }))
  refusal_leads facts bans number are_facts valid empty =
      let decided = map decided_by facts in
      lead_on (header_leads graphs)
      (lead_on (facts_lead [] [] facts are_facts.each)
      (lead_on (bans_lead decided [] bans valid)
      (lead_one (conclusion_taken decided bans number empty) refl)))

  pub refusal_accepted : (facts : List Fact) (bans : List Ban) (number : ℕ) → AreFacts graphs facts → AreValidBans graphs (map decided_by facts) bans → IsEmptyBan bans number
      → All IsWritable (refusal_records facts bans number) → IsAccepted graphs (account_of (refusal_records facts bans number)) verdict.None
  refusal_accepted facts bans number are_facts valid empty writable =
      accepted_at_end graphs (refusal_records facts bans number) (refusing graphs (record { facts = map decided_by facts; bans = pairs_of bans })) verdict.None writable (refusal_leads facts bans number are_facts valid empty) refl refl
