-- What an account has come to, and what is left of it.
use Rattle.std.proofs.Common.{◌≡◌, ◌≢◌, ◌⊎◌, ◌==◌, ℕ, ◌+◌, ◌<◌, ◌≤◌, Bool, true, false, cond, List, [], ◌∷◌, ◌++◌, length, map, All, Option, None, Some, slice_index_or, append-nil, refl, sym, ap, ◌∙◌, arith}
use Rattle.std.specs.Prelude.{unwrap_or}
use Rattle.std.proofs.lemmas.List.{length-append}
use Rattle.circuits.specs.Literals.{bit}
use Rattle.cnf_core.specs.declared.literal.SatLit.{SatLit}
use Rattle.cnf_core.specs.declared.log.LogLine.{LogLine}
use Rattle.net_core.specs.Sides.{Graphs}
use Rattle.net_core.specs.declared.matching.Matching.{Matching}
use Rattle.claim_core.specs.declared.claims.Claim.{Claim}
use Rattle.claim_core.specs.ClaimQueries.{claim_query}
use Rattle.claim_core.specs.Formulas.{query_clauses}
use Rattle.account_core.specs.Given.{Given}
use Rattle.account_file.specs.declared.place.Place.{Place}
use Rattle.account_file.specs.declared.place.Place.TheVariants.{Headed, FactLog, Logs, Ended}
use Rattle.account_file.specs.declared.record.Record.{Record}
use Rattle.account_file.specs.declared.record.Record.TheVariants as record_of
use Rattle.account_file.specs.Order.{logs_after, next_place}
use Rattle.account_check.specs.declared.verdict.Verdict.{Verdict}
use Rattle.account_check.specs.Accounts.{Account, HasFault, after}
use Rattle.account_check.specs.Drops.{Dropped, nothing_dropped}
use Rattle.account_check.specs.Logs.{OpenFact, Proof, with_line}
use Rattle.refusal_core.specs.Trims.{kept, number_of}
use Rattle.account_trim.specs.declared.links.Links.{Links}
use Rattle.account_trim.specs.declared.places.Places.{Places}
use Rattle.account_trim.specs.Links.{is_root, names}
use Rattle.account_trim.specs.Places.{match_base, with_one}
use Rattle.account_trim.proofs.KeptLemmas.{AreNumbered, between, between_length, between_more, between_none, kept_push}
use Rattle.account_trim.proofs.PastLemmas.{Past, Stays}

abbrev pub account_with : Graphs → Place → Given → Dropped → Option OpenFact → Proof → Option Verdict → Account
account_with graphs place given dropped fact proof concluded = record {
  graphs = graphs;
  place = place;
  given = given;
  dropped = dropped;
  fact = fact;
  proof = proof;
  concluded = concluded;
}

abbrev pub fact_with : Claim → List (List SatLit) → OpenFact
fact_with claim taken = record { claim = claim; taken = taken }

abbrev pub proof_with : Matching → ℕ → List (List SatLit) → Proof
proof_with matching closed taken = record { matching = matching; closed = closed; taken = taken }

-- Of the lines of an open log those are kept that are marked.
pub record IsLogKept (marks : List Bool) (k : ℕ) (spots own : Places) (taken own_taken : List (List SatLit)) : Type 0 where
  pub from : spots.start + length taken ≡ k
  pub own_start : own.start ≡ number_of marks spots.start
  pub own_base : own.base ≡ spots.base
  pub own_is : own_taken ≡ kept (between marks spots.start k) taken

-- No log is open.
pub record IsPlain (graphs : Graphs) (old new : Account) (spots own : Places) (past : Past) (given own_given : Given) (concluded : Option Verdict) : Type 0 where
  pub place : Place
  pub proof : Proof
  pub own_proof : Proof
  pub old_is : old ≡ account_with graphs place given past.dropped None proof concluded
  pub new_is : new ≡ account_with graphs place own_given nothing_dropped None own_proof concluded
  pub no_line : (line : LogLine) → next_place place (record_of.Line line) ≡ None
  pub owner : spots.owner ≡ None
  pub own_owner : own.owner ≡ None

-- The logs of a match.
pub record IsProving (graphs : Graphs) (marks : List Bool) (k : ℕ) (old new : Account) (spots own : Places) (past : Past) (given own_given : Given) (concluded : Option Verdict) : Type 0 where
  pub logs : ℕ
  pub matching : Matching
  pub closed : ℕ
  pub taken : List (List SatLit)
  pub own_taken : List (List SatLit)
  pub old_is : old ≡ account_with graphs (Logs logs) given past.dropped None (proof_with matching closed taken) concluded
  pub new_is : new ≡ account_with graphs (Logs logs) own_given nothing_dropped None (proof_with matching closed own_taken) concluded
  pub owner : spots.owner ≡ None
  pub own_owner : own.owner ≡ None
  pub base : spots.base ≡ match_base graphs
  pub log : IsLogKept marks k spots own taken own_taken

-- whether the record of a place is a root
abbrev pub no_link : Links
no_link = record { is_root = false; names = []; start = 0; base = 0 }

abbrev pub root_at : List Links → ℕ → Bool
root_at links k = (slice_index_or links k no_link).is_root

-- The log of a fact that is kept. No line of it so far is a root.
pub record IsShowing (graphs : Graphs) (links : List Links) (marks : List Bool) (k : ℕ) (old new : Account) (spots own : Places) (past : Past) (given own_given : Given) (concluded : Option Verdict) : Type 0 where
  pub claim : Claim
  pub taken : List (List SatLit)
  pub own_taken : List (List SatLit)
  pub proof : Proof
  pub own_proof : Proof
  pub owned_by : ℕ
  pub old_is : old ≡ account_with graphs FactLog given past.dropped (Some (fact_with claim taken)) proof concluded
  pub new_is : new ≡ account_with graphs FactLog own_given nothing_dropped (Some (fact_with claim own_taken)) own_proof concluded
  pub owner : spots.owner ≡ Some owned_by
  pub own_owner : own.owner ≡ Some (number_of marks owned_by)
  pub marked : bit marks owned_by ≡ true
  pub before : owned_by < k
  pub facts_before : All (λ p. p < owned_by) spots.facts
  pub bans_before : All (λ p. p < owned_by) spots.bans
  pub no_roots : (j : ℕ) → owned_by ≤ j → j < k → root_at links j ≡ false
  pub base : spots.base ≡ length (query_clauses graphs (claim_query graphs claim))
  pub log : IsLogKept marks k spots own taken own_taken

-- The log of a fact that is left out.
pub record IsSkipping (graphs : Graphs) (marks : List Bool) (old new : Account) (spots own : Places) (past : Past) (given own_given : Given) (concluded : Option Verdict) : Type 0 where
  pub claim : Claim
  pub taken : List (List SatLit)
  pub proof : Proof
  pub own_proof : Proof
  pub owned_by : ℕ
  pub old_is : old ≡ account_with graphs FactLog given past.dropped (Some (fact_with claim taken)) proof concluded
  pub new_is : new ≡ account_with graphs Headed own_given nothing_dropped None own_proof concluded
  pub owner : spots.owner ≡ Some owned_by
  pub own_owner : own.owner ≡ None
  pub unmarked : bit marks owned_by ≡ false

abbrev pub IsMode : Graphs → List Links → List Bool → ℕ → Account → Account → Places → Places → Past → Given → Given → Option Verdict → Type 0
IsMode graphs links marks k old new spots own past given own_given concluded =
    (IsPlain graphs old new spots own past given own_given concluded ⊎ IsProving graphs marks k old new spots own past given own_given concluded)
    ⊎ (IsShowing graphs links marks k old new spots own past given own_given concluded ⊎ IsSkipping graphs marks old new spots own past given own_given concluded)

-- Of what k records have come to, that is left which those come to that are marked.
pub record IsKept (graphs : Graphs) (links : List Links) (marks : List Bool) (k : ℕ) (old new : Account) (spots own : Places) : Type 0 where
  pub past : Past
  pub given : Given
  pub stay : Stays past given.bans
  pub own_given : Given
  pub concluded : Option Verdict
  pub facts : AreNumbered marks k spots.facts own.facts given.facts own_given.facts
  pub bans : AreNumbered marks k spots.bans own.bans past.bans own_given.bans
  pub mode : IsMode graphs links marks k old new spots own past given own_given concluded

-- A record that is marked is taken under its new numbers.
pub record IsTaken (graphs : Graphs) (links : List Links) (marks : List Bool) (k : ℕ) (old new : Account) (spots own : Places) (entry own_entry : Record) : Type 0 where
  pub fine : HasFault new own_entry None
  pub place : next_place new.place own_entry ≡ Some (after new own_entry).place
  pub root : is_root own.owner own_entry ≡ is_root spots.owner entry
  pub named : names own (number_of marks k) own_entry ≡ map (number_of marks) (names spots k entry)
  pub kept : IsKept graphs links marks (k + 1) (after old entry) (after new own_entry) (with_one graphs spots k entry) (with_one graphs own (number_of marks k) own_entry)

-- ---- the lines of an open log

module _ (marks : List Bool) (k : ℕ) (below : k < length marks) (spots own : Places) (taken own_taken : List (List SatLit)) (log : IsLogKept marks k spots own taken own_taken) (clause : List SatLit) where
  from_more : spots.start + length (taken ++ clause ∷ []) ≡ k + 1
  from_more = omega (arith, log.from, length-append taken (clause ∷ []))

  lines_more : (mark : Bool) → bit marks k ≡ mark → own_taken ++ cond mark (clause ∷ []) [] ≡ kept (between marks spots.start (k + 1)) (taken ++ clause ∷ [])
  lines_more mark is =
      ap (λ l. l ++ cond mark (clause ∷ []) []) log.own_is
      ∙ (sym (kept_push (between marks spots.start k) taken mark clause (omega (arith, between_length marks spots.start k (omega (arith, below)), log.from)))
      ∙ ap (λ ms. kept ms (taken ++ clause ∷ [])) (ap (λ b. between marks spots.start k ++ b ∷ []) (sym is) ∙ sym (between_more marks spots.start k (omega (arith, log.from)) below)))

  pub line_more : bit marks k ≡ true → IsLogKept marks (k + 1) spots own (taken ++ clause ∷ []) (own_taken ++ clause ∷ [])
  line_more marked = record {
    from = from_more;
    own_start = log.own_start;
    own_base = log.own_base;
    own_is = lines_more true marked;
  }

  pub line_left_out : bit marks k ≡ false → IsLogKept marks (k + 1) spots own (taken ++ clause ∷ []) own_taken
  line_left_out unmarked = record {
    from = from_more;
    own_start = log.own_start;
    own_base = log.own_base;
    own_is = sym (append-nil own_taken) ∙ lines_more false unmarked;
  }

pub log_begun : (marks : List Bool) (k : ℕ) (spots own : Places) → spots.start ≡ k → own.start ≡ number_of marks k → own.base ≡ spots.base → IsLogKept marks k spots own [] []
log_begun marks k spots own start own_start own_base = record {
  from = omega (arith, start);
  own_start = own_start ∙ ap (number_of marks) (sym start);
  own_base = own_base;
  own_is = ap (λ ms. kept ms []) (sym (between_none marks spots.start k (omega (arith, start))));
}

-- ---- how many logs are left

pub logs_left : (logs : ℕ) (place : Place) → (cond (logs == 0) None (Some place) ≢ None) → (logs == 0) ≡ false
logs_left logs place may = by (logs == 0) may
  where
    by : (b : Bool) → (cond b None (Some place) ≢ None) → b ≡ false
    by true may = absurd (may refl)
    by false may = refl

pub no_logs_left : (logs : ℕ) (place : Place) → (cond (logs == 0) (Some place) None ≢ None) → (logs == 0) ≡ true
no_logs_left logs place may = by (logs == 0) may
  where
    by : (b : Bool) → (cond b (Some place) None ≢ None) → b ≡ true
    by true may = refl
    by false may = absurd (may refl)

-- the end comes after the last log
pub next_end : (logs : ℕ) → (logs == 0) ≡ true → next_place (Logs logs) record_of.End ≡ Some Ended
next_end logs none = ap (λ b. cond b (Some Ended) None) none

pub after_end : (graphs : Graphs) (logs : ℕ) (given : Given) (dropped : Dropped) (proof : Proof) (concluded : Option Verdict) → (logs == 0) ≡ true → after (account_with graphs (Logs logs) given dropped None proof concluded) record_of.End ≡ account_with graphs Ended given dropped None proof concluded
after_end graphs logs given dropped proof concluded none = ap (λ o. account_with graphs (unwrap_or o (Logs logs)) given dropped None proof concluded) (next_end logs none)

pub next_line : (logs : ℕ) (line : LogLine) → (logs == 0) ≡ false → next_place (Logs logs) (record_of.Line line) ≡ Some (Logs (logs_after logs line.clause))
next_line logs line some = ap (λ b. cond b None (Some (Logs (logs_after logs line.clause)))) some

pub after_line : (graphs : Graphs) (logs : ℕ) (given : Given) (dropped : Dropped) (proof : Proof) (concluded : Option Verdict) (line : LogLine) → (logs == 0) ≡ false
    → after (account_with graphs (Logs logs) given dropped None proof concluded) (record_of.Line line) ≡ account_with graphs (Logs (logs_after logs line.clause)) given dropped None (with_line proof line) concluded
after_line graphs logs given dropped proof concluded line some = ap (λ o. account_with graphs (unwrap_or o (Logs logs)) given dropped None (with_line proof line) concluded) (next_line logs line some)

-- where a record may stand, it leads to the place after it
pub leads_on : (place next : Place) (entry : Record) → next_place place entry ≡ Some next → next_place place entry ≡ Some (unwrap_or (next_place place entry) place)
leads_on place next entry is = is ∙ ap (λ o. Some (unwrap_or o place)) (sym is)
