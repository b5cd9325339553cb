-- One line more of an open log.
use Rattle.std.proofs.Common.{◌≡◌, ◌≢◌, ◌&&◌, ℕ, ◌+◌, ◌-◌, ◌<◌, ◌≤◌, Bool, true, false, List, [], ◌∷◌, ◌++◌, length, map, All, Option, None, Some, is_none, slice_index_or, append-nil, inl, inr, refl, sym, ap, subst, ◌∙◌, arith}
use Rattle.std.proofs.Math.Bool.{and-false}
use Rattle.std.specs.Prelude.{option_to_list}
use Rattle.std.specs.List.{flat_map}
use Rattle.std.proofs.lemmas.Bool.{cases_lt, false≢true}
use Rattle.std.proofs.lemmas.List.{length-append, map-append}
use Rattle.circuits.specs.Literals.{bit}
use Rattle.circuits.proofs.Lists.{All-front}
use Rattle.cnf_core.specs.declared.literal.SatLit.{SatLit}
use Rattle.cnf_core.specs.declared.log.LogLine.{LogLine}
use Rattle.cnf_core.specs.Derivations.{is_empty, line_fault}
use Rattle.net_core.specs.Sides.{Graphs}
use Rattle.net_core.specs.declared.matching.Matching.{Matching}
use Rattle.claim_core.specs.declared.claims.Claim.{Claim}
use Rattle.claim_core.specs.declared.query.Query.{Query}
use Rattle.claim_core.specs.ClaimQueries.{claim_query}
use Rattle.claim_core.specs.Formulas.{formula_of, query_clauses}
use Rattle.claim_core.proofs.FormulaLemmas.{count_of}
use Rattle.account_core.specs.Given.{Given, decided}
use Rattle.account_file.specs.declared.place.Place.TheVariants.{Headed, FactLog, Logs, Ended}
use Rattle.account_file.specs.declared.record.Record.{Record}
use Rattle.account_file.specs.declared.record.Record.TheVariants as record_of
use Rattle.account_file.specs.Order.{logs_after, next_place}
use Rattle.account_check.specs.declared.verdict.Verdict.{Verdict}
use Rattle.account_check.specs.Accounts.{Account, HasFault, after}
use Rattle.account_check.specs.Drops.{nothing_dropped}
use Rattle.account_check.specs.Logs.{Proof, log_query, refutation_of, with_fact}
use Rattle.account_check.proofs.RightLemmas.{no_reject}
use Rattle.refusal_core.specs.Names.{AreMarked}
use Rattle.refusal_core.specs.Trims.{number_of}
use Rattle.account_trim.specs.declared.links.Links.{Links}
use Rattle.account_trim.specs.declared.lowering.Lower.{Lower}
use Rattle.account_trim.specs.declared.places.Places.{Places}
use Rattle.account_trim.specs.Links.{hinted, is_root, link, names}
use Rattle.account_trim.specs.Lowered.{all_left_out, lowered_hint, lowered_record}
use Rattle.account_trim.specs.Places.{given_at, match_base, with_one}
use Rattle.account_trim.proofs.HintLemmas.{IsNewHint, line_hints_there, line_kept}
use Rattle.account_trim.proofs.KeptLemmas.{AreNumbered, between, between_length, later_numbered, one_left_out, one_numbered}
use Rattle.account_trim.proofs.MovedLemmas.{flat_each, flat_moved, hint_moved, new_hint, next_kept}
use Rattle.account_trim.proofs.PastLemmas.{Past, Stays}
use Rattle.account_trim.proofs.RelationLemmas.{IsKept, IsLogKept, IsTaken, account_with, after_end, after_line, fact_with, leads_on, line_left_out, line_more, log_begun, logs_left, next_end, next_line, no_logs_left, proof_with, root_at}

-- a line of this clause and these hints
abbrev pub line_with : List SatLit → List ℕ → LogLine
line_with clause hints = record { clause = clause; hints = hints }

abbrev pub entry_with : List SatLit → List ℕ → Record
entry_with clause hints = record_of.Line (line_with clause hints)

-- the lists of places are the same where no fact is given
pub none_given : (facts : List ℕ) (owner : Option ℕ) (k : ℕ) → owner ≡ None → facts ++ given_at owner k ≡ facts
none_given facts owner k is = ap (λ o. facts ++ given_at o k) is ∙ append-nil facts

pub one_given : (facts : List ℕ) (owner : Option ℕ) (o k : ℕ) → owner ≡ Some o → facts ++ given_at owner k ≡ facts ++ k ∷ []
one_given facts owner o k is = ap (λ x. facts ++ given_at x k) is

module _ (graphs : Graphs) (marks : List Bool) (lower : Lower) (records_are : lower.records ≡ all_left_out marks) (many : length lower.records ≡ length marks) (k : ℕ) (below : k < length marks) (spots own : Places) where
  abbrev f_of : Record → ℕ → ℕ
  f_of entry = lowered_hint lower.records (link spots k entry)

  module _ (taken own_taken : List (List SatLit)) (log : IsLogKept marks k spots own taken own_taken) (query : Query) (base : spots.base ≡ length (query_clauses graphs query)) (clause : List SatLit) (hints : List ℕ)
      (each : AreMarked marks (names spots k (entry_with clause hints))) (good : line_fault (formula_of graphs query) taken (line_with clause hints) ≡ None) where
    begun : spots.start ≤ k
    begun = omega (arith, log.from)

    hints_marked : All (λ h. AreMarked marks (hinted spots k h)) hints
    hints_marked = flat_each (λ p. bit marks p ≡ true) (hinted spots k) hints (All-front (λ p. bit marks p ≡ true) (flat_map (hinted spots k) hints) (option_to_list spots.owner) each)

    new_hints : All (IsNewHint (length (query_clauses graphs query)) (between marks spots.start k) (f_of (entry_with clause hints))) hints
    new_hints j d within =
        subst (λ n. IsNewHint n (between marks spots.start k) (f_of (entry_with clause hints)) (slice_index_or hints j d)) base
        (new_hint marks k below spots (link spots k (entry_with clause hints)) lower.records records_are many refl refl begun (slice_index_or hints j d) (hints_marked j d within))

    -- it is derived from what is kept
    pub still_good : line_fault (formula_of graphs query) own_taken (line_with clause (map (f_of (entry_with clause hints)) hints)) ≡ None
    still_good =
        ap (λ t. line_fault (formula_of graphs query) t (line_with clause (map (f_of (entry_with clause hints)) hints))) log.own_is
        ∙ line_kept (formula_of graphs query) taken (between marks spots.start k) (f_of (entry_with clause hints)) (line_with clause hints)
        (omega (arith, between_length marks spots.start k (omega (arith, below)), log.from)) new_hints good

    in_reach : All (λ h. h < spots.base + (k - spots.start)) hints
    in_reach j d within =
        omega (arith, line_hints_there (formula_of graphs query) taken (line_with clause hints) good j d within, length-append (query_clauses graphs query) taken, base, log.from)

    pub hints_moved : flat_map (hinted own (number_of marks k)) (map (f_of (entry_with clause hints)) hints) ≡ map (number_of marks) (flat_map (hinted spots k) hints)
    hints_moved =
        flat_moved (hinted spots k) (hinted own (number_of marks k)) (f_of (entry_with clause hints)) (number_of marks) hints
        (λ j d within. hint_moved marks k below spots (link spots k (entry_with clause hints)) lower.records records_are many refl refl begun own (slice_index_or hints j d) log.own_start log.own_base (hints_marked j d within) (in_reach j d within))

    pub all_moved : (owner own_owner : List ℕ) → option_to_list spots.owner ≡ owner → option_to_list own.owner ≡ own_owner → own_owner ≡ map (number_of marks) owner → names own (number_of marks k) (entry_with clause (map (f_of (entry_with clause hints)) hints)) ≡ map (number_of marks) (names spots k (entry_with clause hints))
    all_moved owner own_owner owner_is own_owner_is moved =
        ap (λ l. l ++ option_to_list own.owner) hints_moved
        ∙ (ap (λ l. map (number_of marks) (flat_map (hinted spots k) hints) ++ l) (own_owner_is ∙ (moved ∙ ap (map (number_of marks)) (sym owner_is)))
        ∙ sym (map-append (number_of marks) (flat_map (hinted spots k) hints) (option_to_list spots.owner)))

-- ---- the log of a fact that is kept

module _ (graphs : Graphs) (links : List Links) (marks : List Bool) (lower : Lower) (records_are : lower.records ≡ all_left_out marks) (many : length lower.records ≡ length marks) (k : ℕ) (below : k < length marks) (spots own : Places) (past : Past) (given : Given) (stay : Stays past given.bans) (own_given : Given) (concluded : Option Verdict)
    (facts : AreNumbered marks k spots.facts own.facts given.facts own_given.facts) (bans : AreNumbered marks k spots.bans own.bans past.bans own_given.bans)
    (claim : Claim) (taken own_taken : List (List SatLit)) (proof own_proof : Proof) (o : ℕ) (owner : spots.owner ≡ Some o) (own_owner : own.owner ≡ Some (number_of marks o)) (owner_marked : bit marks o ≡ true) (before : o < k)
    (facts_before : All (λ p. p < o) spots.facts) (bans_before : All (λ p. p < o) spots.bans) (no_roots : (j : ℕ) → o ≤ j → j < k → root_at links j ≡ false)
    (base : spots.base ≡ length (query_clauses graphs (claim_query graphs claim))) (log : IsLogKept marks k spots own taken own_taken) where
  abbrev old_now : Account
  old_now = account_with graphs FactLog given past.dropped (Some (fact_with claim taken)) proof concluded

  abbrev new_now : Account
  new_now = account_with graphs FactLog own_given nothing_dropped (Some (fact_with claim own_taken)) own_proof concluded

  bans_on : AreNumbered marks (k + 1) spots.bans own.bans past.bans own_given.bans
  bans_on = later_numbered marks k spots.bans own.bans past.bans own_given.bans bans

  facts_on : AreNumbered marks (k + 1) spots.facts own.facts given.facts own_given.facts
  facts_on = later_numbered marks k spots.facts own.facts given.facts own_given.facts facts

  -- no line of the log of a fact is a root
  none_here : (clause : List SatLit) → root_at links k ≡ (is_empty clause && is_none spots.owner) → (j : ℕ) → o ≤ j → j < k + 1 → root_at links j ≡ false
  none_here clause here j from to = elim (cases_lt j k) [
    | inl earlier ↦ no_roots j from earlier
    | inr late ↦ let same : j ≡ k = omega (arith, to, late) in ap (root_at links) same ∙ (here ∙ (ap (λ (x : Option ℕ). is_empty clause && is_none x) owner ∙ and-false (is_empty clause)))
  ]

  module _ (clause : List SatLit) (hints : List ℕ) (fine : HasFault old_now (entry_with clause hints) None) (each : AreMarked marks (names spots k (entry_with clause hints))) where
    good : line_fault (formula_of graphs (claim_query graphs claim)) taken (line_with clause hints) ≡ None
    good = no_reject (line_fault (formula_of graphs (claim_query graphs claim)) taken (line_with clause hints)) fine

    own_fine : HasFault new_now (lowered_record lower (link spots k (entry_with clause hints)) (entry_with clause hints)) None
    own_fine = sym (ap refutation_of (still_good graphs marks lower records_are many k below spots own taken own_taken log (claim_query graphs claim) base clause hints each good))

    own_names : names own (number_of marks k) (lowered_record lower (link spots k (entry_with clause hints)) (entry_with clause hints)) ≡ map (number_of marks) (names spots k (entry_with clause hints))
    own_names = all_moved graphs marks lower records_are many k below spots own taken own_taken log (claim_query graphs claim) base clause hints each good (o ∷ []) (number_of marks o ∷ []) (ap option_to_list owner) (ap option_to_list own_owner) refl

    own_root : is_root own.owner (lowered_record lower (link spots k (entry_with clause hints)) (entry_with clause hints)) ≡ is_root spots.owner (entry_with clause hints)
    own_root = ap (λ (x : Option ℕ). is_empty clause && is_none x) own_owner ∙ sym (ap (λ (x : Option ℕ). is_empty clause && is_none x) owner)

  pub shown_taken : (clause : List SatLit) (hints : List ℕ) → root_at links k ≡ (is_empty clause && is_none spots.owner) → HasFault old_now (entry_with clause hints) None → AreMarked marks (names spots k (entry_with clause hints)) → bit marks k ≡ true
      → IsTaken graphs links marks k old_now new_now spots own (entry_with clause hints) (lowered_record lower (link spots k (entry_with clause hints)) (entry_with clause hints))
  shown_taken [] hints here fine each marked = record {
    fine = own_fine [] hints fine each;
    place = refl;
    root = own_root [] hints fine each;
    named = own_names [] hints fine each;
    kept = record {
      past = past;
      given = with_fact given claim true;
      stay = stay;
      own_given = with_fact own_given claim true;
      concluded = concluded;
      facts =
          subst (λ ps. AreNumbered marks (k + 1) ps (own.facts ++ given_at own.owner (number_of marks k)) (given.facts ++ decided claim true ∷ []) (own_given.facts ++ decided claim true ∷ [])) (sym (one_given spots.facts spots.owner o k owner))
          (subst (λ ps. AreNumbered marks (k + 1) (spots.facts ++ k ∷ []) ps (given.facts ++ decided claim true ∷ []) (own_given.facts ++ decided claim true ∷ [])) (sym (one_given own.facts own.owner (number_of marks o) (number_of marks k) own_owner))
          (one_numbered marks k spots.facts own.facts given.facts own_given.facts facts below (decided claim true) marked));
      bans = bans_on;
      mode = inl (inl (record { place = Headed; proof = proof; own_proof = own_proof; old_is = refl; new_is = refl; no_line = λ line. refl; owner = refl; own_owner = refl }));
    };
  }
  shown_taken (literal ∷ others) hints here fine each marked = record {
    fine = own_fine (literal ∷ others) hints fine each;
    place = refl;
    root = own_root (literal ∷ others) hints fine each;
    named = own_names (literal ∷ others) hints fine each;
    kept = record {
      past = past;
      given = given;
      stay = stay;
      own_given = own_given;
      concluded = concluded;
      facts = facts_on;
      bans = bans_on;
      mode = inr (inl (record {
        claim = claim;
        taken = taken ++ (literal ∷ others) ∷ [];
        own_taken = own_taken ++ (literal ∷ others) ∷ [];
        proof = proof;
        own_proof = own_proof;
        owned_by = o;
        old_is = refl;
        new_is = refl;
        owner = owner;
        own_owner = own_owner;
        marked = owner_marked;
        before = omega (arith, before);
        facts_before = facts_before;
        bans_before = bans_before;
        no_roots = none_here (literal ∷ others) here;
        base = base;
        log = line_more marks k below spots own taken own_taken log (literal ∷ others) marked;
      }));
    };
  }

  -- the last line of the log of a fact that is kept is marked
  pub shown_left_out : (clause : List SatLit) (hints : List ℕ) → root_at links k ≡ (is_empty clause && is_none spots.owner) → (clause ≡ [] → ⊥) → bit marks k ≡ false → IsKept graphs links marks (k + 1) (after old_now (entry_with clause hints)) new_now (with_one graphs spots k (entry_with clause hints)) own
  shown_left_out [] hints here not_last unmarked = absurd (not_last refl)
  shown_left_out (literal ∷ others) hints here not_last unmarked = record {
    past = past;
    given = given;
    stay = stay;
    own_given = own_given;
    concluded = concluded;
    facts = facts_on;
    bans = bans_on;
    mode = inr (inl (record {
      claim = claim;
      taken = taken ++ (literal ∷ others) ∷ [];
      own_taken = own_taken;
      proof = proof;
      own_proof = own_proof;
      owned_by = o;
      old_is = refl;
      new_is = refl;
      owner = owner;
      own_owner = own_owner;
      marked = owner_marked;
      before = omega (arith, before);
      facts_before = facts_before;
      bans_before = bans_before;
      no_roots = none_here (literal ∷ others) here;
      base = base;
      log = line_left_out marks k below spots own taken own_taken log (literal ∷ others) unmarked;
    }));
  }

-- ---- the log of a fact that is left out

pub skipped : (graphs : Graphs) (links : List Links) (marks : List Bool) (k : ℕ) → k < length marks → (spots own : Places) (past : Past) (given : Given) → Stays past given.bans → (own_given : Given) (concluded : Option Verdict)
    → AreNumbered marks k spots.facts own.facts given.facts own_given.facts
    → AreNumbered marks k spots.bans own.bans past.bans own_given.bans
    → (claim : Claim) (taken : List (List SatLit)) (proof own_proof : Proof) (o : ℕ) → spots.owner ≡ Some o → own.owner ≡ None → bit marks o ≡ false → (clause : List SatLit) (hints : List ℕ) → bit marks k ≡ false
    → IsKept graphs links marks (k + 1) (after (account_with graphs FactLog given past.dropped (Some (fact_with claim taken)) proof concluded) (entry_with clause hints)) (account_with graphs Headed own_given nothing_dropped None own_proof concluded) (with_one graphs spots k (entry_with clause hints)) own
skipped graphs links marks k below spots own past given stay own_given concluded facts bans claim taken proof own_proof o owner own_owner owner_unmarked [] hints unmarked = record {
  past = past;
  given = with_fact given claim true;
  stay = stay;
  own_given = own_given;
  concluded = concluded;
  facts =
      subst (λ ps. AreNumbered marks (k + 1) ps own.facts (given.facts ++ decided claim true ∷ []) own_given.facts) (sym (one_given spots.facts spots.owner o k owner))
      (one_left_out marks k spots.facts own.facts given.facts own_given.facts facts below (decided claim true) unmarked);
  bans = later_numbered marks k spots.bans own.bans past.bans own_given.bans bans;
  mode = inl (inl (record { place = Headed; proof = proof; own_proof = own_proof; old_is = refl; new_is = refl; no_line = λ line. refl; owner = refl; own_owner = own_owner }));
}
skipped graphs links marks k below spots own past given stay own_given concluded facts bans claim taken proof own_proof o owner own_owner owner_unmarked (literal ∷ others) hints unmarked = record {
  past = past;
  given = given;
  stay = stay;
  own_given = own_given;
  concluded = concluded;
  facts = later_numbered marks k spots.facts own.facts given.facts own_given.facts facts;
  bans = later_numbered marks k spots.bans own.bans past.bans own_given.bans bans;
  mode = inr (inr (record {
    claim = claim;
    taken = taken ++ (literal ∷ others) ∷ [];
    proof = proof;
    own_proof = own_proof;
    owned_by = o;
    old_is = refl;
    new_is = refl;
    owner = owner;
    own_owner = own_owner;
    unmarked = owner_unmarked;
  }));
}

-- ---- the logs of a match

module _ (graphs : Graphs) (links : List Links) (marks : List Bool) (lower : Lower) (records_are : lower.records ≡ all_left_out marks) (many : length lower.records ≡ length marks) (k : ℕ) (below : k < length marks) (spots own : Places) (past : Past) (given : Given) (stay : Stays past given.bans) (own_given : Given) (concluded : Option Verdict)
    (facts : AreNumbered marks k spots.facts own.facts given.facts own_given.facts) (bans : AreNumbered marks k spots.bans own.bans past.bans own_given.bans)
    (matching : Matching) (closed : ℕ) (taken own_taken : List (List SatLit)) (owner : spots.owner ≡ None) (own_owner : own.owner ≡ None) (base : spots.base ≡ match_base graphs) (log : IsLogKept marks k spots own taken own_taken) where
  abbrev old_of : ℕ → Account
  old_of logs = account_with graphs (Logs logs) given past.dropped None (proof_with matching closed taken) concluded

  abbrev new_of : ℕ → Account
  new_of logs = account_with graphs (Logs logs) own_given nothing_dropped None (proof_with matching closed own_taken) concluded

  logs_bans : AreNumbered marks (k + 1) spots.bans own.bans past.bans own_given.bans
  logs_bans = later_numbered marks k spots.bans own.bans past.bans own_given.bans bans

  logs_facts : AreNumbered marks (k + 1) spots.facts own.facts given.facts own_given.facts
  logs_facts = later_numbered marks k spots.facts own.facts given.facts own_given.facts facts

  query_base : spots.base ≡ length (query_clauses graphs (log_query graphs matching closed))
  query_base = base ∙ sym (count_of graphs (log_query graphs matching closed))

  module _ (logs : ℕ) (clause : List SatLit) (hints : List ℕ) (fine : HasFault (old_of logs) (entry_with clause hints) None) (each : AreMarked marks (names spots k (entry_with clause hints))) where
    sound : line_fault (formula_of graphs (log_query graphs matching closed)) taken (line_with clause hints) ≡ None
    sound = no_reject (line_fault (formula_of graphs (log_query graphs matching closed)) taken (line_with clause hints)) fine

    log_fine : HasFault (new_of logs) (lowered_record lower (link spots k (entry_with clause hints)) (entry_with clause hints)) None
    log_fine = sym (ap refutation_of (still_good graphs marks lower records_are many k below spots own taken own_taken log (log_query graphs matching closed) query_base clause hints each sound))

    log_names : names own (number_of marks k) (lowered_record lower (link spots k (entry_with clause hints)) (entry_with clause hints)) ≡ map (number_of marks) (names spots k (entry_with clause hints))
    log_names = all_moved graphs marks lower records_are many k below spots own taken own_taken log (log_query graphs matching closed) query_base clause hints each sound [] [] (ap option_to_list owner) (ap option_to_list own_owner) refl

    log_root : is_root own.owner (lowered_record lower (link spots k (entry_with clause hints)) (entry_with clause hints)) ≡ is_root spots.owner (entry_with clause hints)
    log_root = ap (λ (x : Option ℕ). is_empty clause && is_none x) own_owner ∙ sym (ap (λ (x : Option ℕ). is_empty clause && is_none x) owner)

  pub proved_taken : (logs : ℕ) (clause : List SatLit) (hints : List ℕ) → next_place (Logs logs) (entry_with clause hints) ≢ None → HasFault (old_of logs) (entry_with clause hints) None → AreMarked marks (names spots k (entry_with clause hints)) → bit marks k ≡ true
      → IsTaken graphs links marks k (old_of logs) (new_of logs) spots own (entry_with clause hints) (lowered_record lower (link spots k (entry_with clause hints)) (entry_with clause hints))
  proved_taken logs [] hints may fine each marked =
      let some = logs_left logs (Logs (logs_after {X = SatLit} logs [])) may in
      record {
        fine = log_fine logs [] hints fine each;
        place = leads_on (Logs logs) (Logs (logs_after {X = SatLit} logs [])) (lowered_record lower (link spots k (entry_with [] hints)) (entry_with [] hints)) (next_line logs (line_with [] (map (f_of graphs marks lower records_are many k below spots own (entry_with [] hints)) hints)) some);
        root = log_root logs [] hints fine each;
        named = log_names logs [] hints fine each;
        kept = record {
          past = past;
          given = given;
          stay = stay;
          own_given = own_given;
          concluded = concluded;
          facts =
              subst (λ ps. AreNumbered marks (k + 1) ps (own.facts ++ given_at own.owner (number_of marks k)) given.facts own_given.facts) (sym (none_given spots.facts spots.owner k owner))
              (subst (λ ps. AreNumbered marks (k + 1) spots.facts ps given.facts own_given.facts) (sym (none_given own.facts own.owner (number_of marks k) own_owner)) logs_facts);
          bans = logs_bans;
          mode = inl (inr (record {
            logs = logs_after {X = SatLit} logs [];
            matching = matching;
            closed = closed + 1;
            taken = [];
            own_taken = [];
            old_is = after_line graphs logs given past.dropped (proof_with matching closed taken) concluded (line_with [] hints) some;
            new_is = after_line graphs logs own_given nothing_dropped (proof_with matching closed own_taken) concluded (line_with [] (map (f_of graphs marks lower records_are many k below spots own (entry_with [] hints)) hints)) some;
            owner = refl;
            own_owner = refl;
            base = base;
            log = log_begun marks (k + 1) (with_one graphs spots k (entry_with [] hints)) (with_one graphs own (number_of marks k) (lowered_record lower (link spots k (entry_with [] hints)) (entry_with [] hints))) refl (sym (next_kept marks k below marked)) log.own_base;
          }));
        };
      }
  proved_taken logs (literal ∷ others) hints may fine each marked =
      let some = logs_left logs (Logs (logs_after logs (literal ∷ others))) may in
      record {
        fine = log_fine logs (literal ∷ others) hints fine each;
        place = leads_on (Logs logs) (Logs (logs_after logs (literal ∷ others))) (lowered_record lower (link spots k (entry_with (literal ∷ others) hints)) (entry_with (literal ∷ others) hints)) (next_line logs (line_with (literal ∷ others) (map (f_of graphs marks lower records_are many k below spots own (entry_with (literal ∷ others) hints)) hints)) some);
        root = log_root logs (literal ∷ others) hints fine each;
        named = log_names logs (literal ∷ others) hints fine each;
        kept = record {
          past = past;
          given = given;
          stay = stay;
          own_given = own_given;
          concluded = concluded;
          facts = logs_facts;
          bans = logs_bans;
          mode = inl (inr (record {
            logs = logs_after logs (literal ∷ others);
            matching = matching;
            closed = closed;
            taken = taken ++ (literal ∷ others) ∷ [];
            own_taken = own_taken ++ (literal ∷ others) ∷ [];
            old_is = after_line graphs logs given past.dropped (proof_with matching closed taken) concluded (line_with (literal ∷ others) hints) some;
            new_is = after_line graphs logs own_given nothing_dropped (proof_with matching closed own_taken) concluded (line_with (literal ∷ others) (map (f_of graphs marks lower records_are many k below spots own (entry_with (literal ∷ others) hints)) hints)) some;
            owner = owner;
            own_owner = own_owner;
            base = base;
            log = line_more marks k below spots own taken own_taken log (literal ∷ others) marked;
          }));
        };
      }

  -- the last line of a log of a match is a root
  pub proved_left_out : (logs : ℕ) (clause : List SatLit) (hints : List ℕ) → next_place (Logs logs) (entry_with clause hints) ≢ None → (is_root spots.owner (entry_with clause hints) ≡ true → bit marks k ≡ true) → bit marks k ≡ false
      → IsKept graphs links marks (k + 1) (after (old_of logs) (entry_with clause hints)) (new_of logs) (with_one graphs spots k (entry_with clause hints)) own
  proved_left_out logs [] hints may root unmarked = absurd (false≢true (sym unmarked ∙ root (ap (λ (x : Option ℕ). true && is_none x) owner)))
  proved_left_out logs (literal ∷ others) hints may root unmarked =
      let some = logs_left logs (Logs (logs_after logs (literal ∷ others))) may in
      record {
        past = past;
        given = given;
        stay = stay;
        own_given = own_given;
        concluded = concluded;
        facts = logs_facts;
        bans = logs_bans;
        mode = inl (inr (record {
          logs = logs_after logs (literal ∷ others);
          matching = matching;
          closed = closed;
          taken = taken ++ (literal ∷ others) ∷ [];
          own_taken = own_taken;
          old_is = after_line graphs logs given past.dropped (proof_with matching closed taken) concluded (line_with (literal ∷ others) hints) some;
          new_is = refl;
          owner = owner;
          own_owner = own_owner;
          base = base;
          log = line_left_out marks k below spots own taken own_taken log (literal ∷ others) unmarked;
        }));
      }

  pub proved_ends : (logs : ℕ) → next_place (Logs logs) record_of.End ≢ None → IsTaken graphs links marks k (old_of logs) (new_of logs) spots own record_of.End record_of.End
  proved_ends logs may =
      let none = no_logs_left logs Ended may in
      record {
        fine = refl;
        place = leads_on (Logs logs) Ended record_of.End (next_end logs none);
        root = refl;
        named = refl;
        kept = record {
          past = past;
          given = given;
          stay = stay;
          own_given = own_given;
          concluded = concluded;
          facts = logs_facts;
          bans = logs_bans;
          mode = inl (inl (record {
            place = Ended;
            proof = proof_with matching closed taken;
            own_proof = proof_with matching closed own_taken;
            old_is = after_end graphs logs given past.dropped (proof_with matching closed taken) concluded none;
            new_is = after_end graphs logs own_given nothing_dropped (proof_with matching closed own_taken) concluded none;
            no_line = λ line. refl;
            owner = owner;
            own_owner = own_owner;
          }));
        };
      }
