-- One record more, while no log is open.
use Rattle.std.proofs.Common.{◌≡◌, ◌≢◌, ℕ, ◌+◌, ◌<◌, ◌≤◌, Bool, true, false, List, [], ◌++◌, length, map, All, Option, None, Some, slice_index_or, inl, inr, refl, sym, ap, subst, ◌∙◌, arith}
use Rattle.std.specs.List.{flat_map}
use Rattle.std.proofs.lemmas.Bool.{false≢true}
use Rattle.std.proofs.lemmas.List.{map-append}
use Rattle.circuits.specs.Literals.{bit}
use Rattle.circuits.specs.declared.port.Pair.{Pair}
use Rattle.circuits.proofs.Lists.{All-back, All-front}
use Rattle.cnf_core.specs.declared.log.LogLine.{LogLine}
use Rattle.net_core.specs.Sides.{Graphs}
use Rattle.claim_core.specs.declared.claims.Claim.{Claim}
use Rattle.claim_core.specs.ClaimQueries.{claim_query}
use Rattle.claim_core.proofs.FormulaLemmas.{count_of}
use Rattle.account_core.specs.declared.conclusion.Conclusion.{Conclusion}
use Rattle.account_core.specs.declared.conclusion.Conclusion.TheVariants as conclusion
use Rattle.account_core.specs.declared.fact.FactHead.TheVariants as head
use Rattle.account_core.specs.declared.step.Ban.{Ban}
use Rattle.account_core.specs.Given.{Given, ban_at, decided, no_fact}
use Rattle.account_core.specs.Steps.{IsValidBan}
use Rattle.ban_check.specs.More.{without_pairs}
use Rattle.account_file.specs.declared.place.Place.{Place}
use Rattle.account_file.specs.declared.place.Place.TheVariants.{Start, Headed, FactLog, Logs, Ended}
use Rattle.account_file.specs.declared.record.Record.{Record}
use Rattle.account_file.specs.declared.record.Record.TheVariants as record_of
use Rattle.account_file.specs.Order.{logs_asked, next_place}
use Rattle.account_file.specs.Spelling.{HasLine}
use Rattle.account_check.specs.declared.verdict.Verdict.{Verdict}
use Rattle.account_check.specs.declared.verdict.Verdict.TheVariants as verdict
use Rattle.account_check.specs.Accounts.{Account, HasFault, after}
use Rattle.account_check.specs.Bans.{BanTests}
use Rattle.account_check.specs.Conclusions.{matching_of}
use Rattle.account_check.specs.Drops.{AreNamesKept, IsUnmarked, nothing_dropped, without_fact}
use Rattle.account_check.specs.Logs.{Proof, with_ban, with_fact}
use Rattle.account_check.proofs.RightLemmas.{ban_passed}
use Rattle.account_check.proofs.TestLemmas.{through}
use Rattle.refusal_core.specs.Names.{AreMarked, bans_named, facts_named}
use Rattle.refusal_core.specs.Numbered.{step_by}
use Rattle.refusal_core.specs.Trims.{number_of, renumbered_ban}
use Rattle.refusal_core.proofs.ValidLemmas.{Carries, valid_carried}
use Rattle.account_trim.specs.declared.links.Links.{Links}
use Rattle.account_trim.specs.declared.lowering.Lower.{Lower}
use Rattle.account_trim.specs.declared.places.Places.{Places}
use Rattle.account_trim.specs.Links.{is_root, link, listed, names}
use Rattle.account_trim.specs.Lowered.{lowered, lowered_record, marks_at}
use Rattle.account_trim.specs.Places.{with_one}
use Rattle.account_trim.proofs.KeptLemmas.{AreNumbered, IsCarried, carried, later_numbered, one_left_out, one_numbered}
use Rattle.account_trim.proofs.MovedLemmas.{bans_given, bans_moved, facts_given, facts_moved, flat_each, flat_moved, listed_marked, listed_moved, next_kept, step_same}
use Rattle.account_trim.proofs.PastLemmas.{Past, Stays, bans_unmarked, names_kept, none_dropped, stays_more, stays_without, with_more, without}
use Rattle.account_trim.proofs.RelationLemmas.{IsKept, IsTaken, account_with, after_end, leads_on, log_begun, next_end, no_logs_left, root_at}

-- The numbers of facts and of bans that were given go down by what is left out.
pub record AreLower (lower : Lower) (marks : List Bool) (spots : Places) : Type 0 where
  pub facts : (n : ℕ) → n < length spots.facts → lowered lower.facts n ≡ number_of (marks_at marks spots.facts) n
  pub bans : (n : ℕ) → n < length spots.bans → lowered lower.bans n ≡ number_of (marks_at marks spots.bans) n

-- what passes the tests of a ban, by what they find
tests_passed : (graphs : Graphs) (given : Given) (ban : Ban) → IsValidBan graphs given ban → BanTests graphs given nothing_dropped ban None
tests_passed graphs given ban valid = inr (valid.known, inr (valid.ordered, inr ((valid.names, none_dropped ban.step), inr (valid.rule, inr (valid.shown, refl)))))

module _ (graphs : Graphs) (links : List Links) (marks : List Bool) (lower : Lower) (k : ℕ) (below : k < length marks) (spots own : Places) (past : Past) (given : Given) (stay : Stays past given.bans) (own_given : Given) (proof own_proof : Proof) (concluded : Option Verdict)
    (facts : AreNumbered marks k spots.facts own.facts given.facts own_given.facts) (bans : AreNumbered marks k spots.bans own.bans past.bans own_given.bans)
    (owner : spots.owner ≡ None) (own_owner : own.owner ≡ None) (numbers : AreLower lower marks spots) where
  abbrev old_at : Place → Account
  old_at place = account_with graphs place given past.dropped None proof concluded

  abbrev new_at : Place → Account
  new_at place = account_with graphs place own_given nothing_dropped None own_proof concluded

  -- what is taken, and what is left out
  abbrev Taken : Place → Record → Type 0
  Taken place entry = IsTaken graphs links marks k (old_at place) (new_at place) spots own entry (lowered_record lower (link spots k entry) entry)

  abbrev LeftOut : Place → Record → Type 0
  LeftOut place entry = IsKept graphs links marks (k + 1) (after (old_at place) entry) (new_at place) (with_one graphs spots k entry) own

  facts_later : AreNumbered marks (k + 1) spots.facts own.facts given.facts own_given.facts
  facts_later = later_numbered marks k spots.facts own.facts given.facts own_given.facts facts

  bans_later : AreNumbered marks (k + 1) spots.bans own.bans past.bans own_given.bans
  bans_later = later_numbered marks k spots.bans own.bans past.bans own_given.bans bans

  header : (place : Place) → next_place place record_of.Header ≢ None → bit marks k ≡ true → Taken place record_of.Header
  header Start may marked = record {
    fine = refl;
    place = refl;
    root = refl;
    named = refl;
    kept = record {
      past = past;
      given = given;
      stay = stay;
      own_given = own_given;
      concluded = concluded;
      facts = facts_later;
      bans = bans_later;
      mode = inl (inl (record { place = Headed; proof = proof; own_proof = own_proof; old_is = refl; new_is = refl; no_line = λ line. refl; owner = owner; own_owner = own_owner }));
    };
  }
  header Headed may marked = absurd (may refl)
  header FactLog may marked = absurd (may refl)
  header (Logs logs) may marked = absurd (may refl)
  header Ended may marked = absurd (may refl)

  -- a fact that fails
  fails : (place : Place) (claim : Claim) (bits : List Bool) → next_place place (record_of.Fact (head.Fails claim bits)) ≢ None → HasFault (old_at place) (record_of.Fact (head.Fails claim bits)) None → bit marks k ≡ true → Taken place (record_of.Fact (head.Fails claim bits))
  fails Headed claim bits may fine marked = record {
    fine = fine;
    place = refl;
    root = refl;
    named = refl;
    kept = record {
      past = past;
      given = with_fact given claim false;
      stay = stay;
      own_given = with_fact own_given claim false;
      concluded = concluded;
      facts = one_numbered marks k spots.facts own.facts given.facts own_given.facts facts below (decided claim false) marked;
      bans = bans_later;
      mode = inl (inl (record { place = Headed; proof = proof; own_proof = own_proof; old_is = refl; new_is = refl; no_line = λ line. refl; owner = owner; own_owner = own_owner }));
    };
  }
  fails Start claim bits may fine marked = absurd (may refl)
  fails FactLog claim bits may fine marked = absurd (may refl)
  fails (Logs logs) claim bits may fine marked = absurd (may refl)
  fails Ended claim bits may fine marked = absurd (may refl)

  fails_left_out : (place : Place) (claim : Claim) (bits : List Bool) → next_place place (record_of.Fact (head.Fails claim bits)) ≢ None → bit marks k ≡ false → LeftOut place (record_of.Fact (head.Fails claim bits))
  fails_left_out Headed claim bits may unmarked = record {
    past = past;
    given = with_fact given claim false;
    stay = stay;
    own_given = own_given;
    concluded = concluded;
    facts = one_left_out marks k spots.facts own.facts given.facts own_given.facts facts below (decided claim false) unmarked;
    bans = bans_later;
    mode = inl (inl (record { place = Headed; proof = proof; own_proof = own_proof; old_is = refl; new_is = refl; no_line = λ line. refl; owner = owner; own_owner = own_owner }));
  }
  fails_left_out Start claim bits may unmarked = absurd (may refl)
  fails_left_out FactLog claim bits may unmarked = absurd (may refl)
  fails_left_out (Logs logs) claim bits may unmarked = absurd (may refl)
  fails_left_out Ended claim bits may unmarked = absurd (may refl)

  only_here : (j : ℕ) → k ≤ j → j < k + 1 → j ≡ k
  only_here j from to = omega (arith, from, to)

  -- a fact that holds
  holds : (place : Place) (claim : Claim) → root_at links k ≡ false → next_place place (record_of.Fact (head.Holds claim)) ≢ None → HasFault (old_at place) (record_of.Fact (head.Holds claim)) None → bit marks k ≡ true → Taken place (record_of.Fact (head.Holds claim))
  holds Headed claim no_root may fine marked = record {
    fine = fine;
    place = refl;
    root = refl;
    named = refl;
    kept = record {
      past = past;
      given = given;
      stay = stay;
      own_given = own_given;
      concluded = concluded;
      facts = facts_later;
      bans = bans_later;
      mode = inr (inl (record {
        claim = claim;
        taken = [];
        own_taken = [];
        proof = proof;
        own_proof = own_proof;
        owned_by = k;
        old_is = refl;
        new_is = refl;
        owner = refl;
        own_owner = refl;
        marked = marked;
        before = omega arith;
        facts_before = facts.early;
        bans_before = bans.early;
        no_roots = λ j from to. ap (root_at links) (only_here j from to) ∙ no_root;
        base = sym (count_of graphs (claim_query graphs claim));
        log = log_begun marks (k + 1) (with_one graphs spots k (record_of.Fact (head.Holds claim))) (with_one graphs own (number_of marks k) (record_of.Fact (head.Holds claim))) refl (sym (next_kept marks k below marked)) refl;
      }));
    };
  }
  holds Start claim no_root may fine marked = absurd (may refl)
  holds FactLog claim no_root may fine marked = absurd (may refl)
  holds (Logs logs) claim no_root may fine marked = absurd (may refl)
  holds Ended claim no_root may fine marked = absurd (may refl)

  holds_left_out : (place : Place) (claim : Claim) → next_place place (record_of.Fact (head.Holds claim)) ≢ None → bit marks k ≡ false → LeftOut place (record_of.Fact (head.Holds claim))
  holds_left_out Headed claim may unmarked = record {
    past = past;
    given = given;
    stay = stay;
    own_given = own_given;
    concluded = concluded;
    facts = facts_later;
    bans = bans_later;
    mode = inr (inr (record {
      claim = claim;
      taken = [];
      proof = proof;
      own_proof = own_proof;
      owned_by = k;
      old_is = refl;
      new_is = refl;
      owner = refl;
      own_owner = own_owner;
      unmarked = unmarked;
    }));
  }
  holds_left_out Start claim may unmarked = absurd (may refl)
  holds_left_out FactLog claim may unmarked = absurd (may refl)
  holds_left_out (Logs logs) claim may unmarked = absurd (may refl)
  holds_left_out Ended claim may unmarked = absurd (may refl)

  -- a ban's step by the new numbers
  fact_there : (n : ℕ) → n < length given.facts → AreMarked marks (listed k spots.facts n) → IsCarried marks spots.facts own.facts given.facts own_given.facts n
  fact_there n there each =
      let within : n < length spots.facts = omega (arith, there, facts.many) in
      carried marks k spots.facts own.facts given.facts own_given.facts n facts within (listed_marked marks k spots.facts own.facts given.facts own_given.facts n facts within each) (omega (arith, below))

  ban_there : (n : ℕ) → n < length past.bans → AreMarked marks (listed k spots.bans n) → IsCarried marks spots.bans own.bans past.bans own_given.bans n
  ban_there n there each =
      let within : n < length spots.bans = omega (arith, there, bans.many) in
      carried marks k spots.bans own.bans past.bans own_given.bans n bans within (listed_marked marks k spots.bans own.bans past.bans own_given.bans n bans within each) (omega (arith, below))

  fact_moves : (n : ℕ) → n < length given.facts → AreMarked marks (listed k spots.facts n) → listed (number_of marks k) own.facts (number_of (marks_at marks spots.facts) n) ≡ map (number_of marks) (listed k spots.facts n)
  fact_moves n there each =
      let within : n < length spots.facts = omega (arith, there, facts.many) in
      listed_moved marks k spots.facts own.facts given.facts own_given.facts n facts within (omega (arith, below)) (listed_marked marks k spots.facts own.facts given.facts own_given.facts n facts within each)

  ban_moves : (n : ℕ) → n < length past.bans → AreMarked marks (listed k spots.bans n) → listed (number_of marks k) own.bans (number_of (marks_at marks spots.bans) n) ≡ map (number_of marks) (listed k spots.bans n)
  ban_moves n there each =
      let within : n < length spots.bans = omega (arith, there, bans.many) in
      listed_moved marks k spots.bans own.bans past.bans own_given.bans n bans within (omega (arith, below)) (listed_marked marks k spots.bans own.bans past.bans own_given.bans n bans within each)

  -- the ban with the new numbers
  abbrev ban_of : Ban → Ban
  ban_of ban = record { pairs = ban.pairs; step = step_by (lowered lower.facts) (lowered lower.bans) ban.step }

  abbrev own_ban : Ban → Ban
  own_ban ban = renumbered_ban (marks_at marks spots.facts) (marks_at marks spots.bans) ban

  module _ (ban : Ban) (valid : IsValidBan graphs given ban) (unforgotten : AreNamesKept past.dropped ban.step) (each : AreMarked marks (names spots k (record_of.Ban ban))) where
    facts_marked : All (λ n. AreMarked marks (listed k spots.facts n)) (facts_named ban.step)
    facts_marked = flat_each (λ p. bit marks p ≡ true) (listed k spots.facts) (facts_named ban.step) (All-front (λ p. bit marks p ≡ true) (flat_map (listed k spots.facts) (facts_named ban.step)) (flat_map (listed k spots.bans) (bans_named ban.step)) each)

    bans_marked : All (λ n. AreMarked marks (listed k spots.bans n)) (bans_named ban.step)
    bans_marked = flat_each (λ p. bit marks p ≡ true) (listed k spots.bans) (bans_named ban.step) (All-back (λ p. bit marks p ≡ true) (flat_map (listed k spots.facts) (facts_named ban.step)) (flat_map (listed k spots.bans) (bans_named ban.step)) each)

    of_facts : All (λ f. f < length given.facts) (facts_named ban.step)
    of_facts = facts_given graphs given ban.step valid.names

    of_bans : All (λ b. b < length past.bans) (bans_named ban.step)
    of_bans j d within = omega (arith, bans_given graphs given ban.step valid.names j d within, stay.many)

    of_kept : All (IsUnmarked past.dropped.bans) (bans_named ban.step)
    of_kept = bans_unmarked past.dropped ban.step unforgotten

    carries : Carries given own_given (marks_at marks spots.facts) (marks_at marks spots.bans) ban.step
    carries = record {
      facts_are = λ j d within. let is = fact_there (slice_index_or (facts_named ban.step) j d) (of_facts j d within) (facts_marked j d within) in (is.there, is.same no_fact);
      bans_are = λ j d within. let is = ban_there (slice_index_or (bans_named ban.step) j d) (of_bans j d within) (bans_marked j d within) in (is.there, is.same [] ∙ sym (stay.same (slice_index_or (bans_named ban.step) j d) (of_kept j d within)));
    }

    own_is : ban_of ban ≡ own_ban ban
    own_is =
        let same = step_same (lowered lower.facts) (lowered lower.bans) (number_of (marks_at marks spots.facts)) (number_of (marks_at marks spots.bans)) ban.step
        (λ j d within. numbers.facts (slice_index_or (facts_named ban.step) j d) (omega (arith, of_facts j d within, facts.many)))
        (λ j d within. numbers.bans (slice_index_or (bans_named ban.step) j d) (omega (arith, of_bans j d within, bans.many))) in
        ap (λ s. record { pairs = ban.pairs; step = s }) same

    own_valid : IsValidBan graphs own_given (ban_of ban)
    own_valid = subst (IsValidBan graphs own_given) (sym own_is) (valid_carried graphs given own_given (marks_at marks spots.facts) (marks_at marks spots.bans) ban carries valid)

    own_named : names own (number_of marks k) (record_of.Ban (ban_of ban)) ≡ map (number_of marks) (names spots k (record_of.Ban ban))
    own_named =
        let i = number_of marks k in
        let fm = number_of (marks_at marks spots.facts) in
        let bm = number_of (marks_at marks spots.bans) in
        let of_fact = flat_map (listed i own.facts) in
        let of_ban = flat_map (listed i own.bans) in
        ap (λ (b : Ban). names own i (record_of.Ban b)) own_is
        ∙ (ap (λ ns. of_fact ns ++ of_ban (bans_named (step_by fm bm ban.step))) (facts_moved fm bm ban.step)
        ∙ (ap (λ ns. of_fact (map fm (facts_named ban.step)) ++ of_ban ns) (bans_moved fm bm ban.step)
        ∙ (ap (λ l. l ++ of_ban (map bm (bans_named ban.step))) (flat_moved (listed k spots.facts) (listed i own.facts) fm (number_of marks) (facts_named ban.step) (λ j d within. fact_moves (slice_index_or (facts_named ban.step) j d) (of_facts j d within) (facts_marked j d within)))
        ∙ (ap (λ l. map (number_of marks) (flat_map (listed k spots.facts) (facts_named ban.step)) ++ l) (flat_moved (listed k spots.bans) (listed i own.bans) bm (number_of marks) (bans_named ban.step) (λ j d within. ban_moves (slice_index_or (bans_named ban.step) j d) (of_bans j d within) (bans_marked j d within)))
        ∙ sym (map-append (number_of marks) (flat_map (listed k spots.facts) (facts_named ban.step)) (flat_map (listed k spots.bans) (bans_named ban.step)))))))

  a_ban : (place : Place) (ban : Ban) → next_place place (record_of.Ban ban) ≢ None → HasFault (old_at place) (record_of.Ban ban) None → AreMarked marks (names spots k (record_of.Ban ban)) → bit marks k ≡ true → Taken place (record_of.Ban ban)
  a_ban Headed ban may fine each marked =
      let ports = through fine in
      let valid = ban_passed graphs given past.dropped ban ports.1 in
      let unforgotten = names_kept graphs given past.dropped ban ports.1 in
      record {
        fine = inr (ports.0, tests_passed graphs own_given (ban_of ban) (own_valid ban valid unforgotten each));
        place = refl;
        root = refl;
        named = own_named ban valid unforgotten each;
        kept = record {
          past = with_more past ban.pairs;
          given = with_ban given ban.pairs;
          stay = stays_more past given.bans ban.pairs stay;
          own_given = with_ban own_given ban.pairs;
          concluded = concluded;
          facts = facts_later;
          bans = one_numbered marks k spots.bans own.bans past.bans own_given.bans bans below ban.pairs marked;
          mode = inl (inl (record { place = Headed; proof = proof; own_proof = own_proof; old_is = refl; new_is = refl; no_line = λ line. refl; owner = owner; own_owner = own_owner }));
        };
      }
  a_ban Start ban may fine each marked = absurd (may refl)
  a_ban FactLog ban may fine each marked = absurd (may refl)
  a_ban (Logs logs) ban may fine each marked = absurd (may refl)
  a_ban Ended ban may fine each marked = absurd (may refl)

  ban_left_out : (place : Place) (ban : Ban) → next_place place (record_of.Ban ban) ≢ None → bit marks k ≡ false → LeftOut place (record_of.Ban ban)
  ban_left_out Headed ban may unmarked = record {
    past = with_more past ban.pairs;
    given = with_ban given ban.pairs;
    stay = stays_more past given.bans ban.pairs stay;
    own_given = own_given;
    concluded = concluded;
    facts = facts_later;
    bans = one_left_out marks k spots.bans own.bans past.bans own_given.bans bans below ban.pairs unmarked;
    mode = inl (inl (record { place = Headed; proof = proof; own_proof = own_proof; old_is = refl; new_is = refl; no_line = λ line. refl; owner = owner; own_owner = own_owner }));
  }
  ban_left_out Start ban may unmarked = absurd (may refl)
  ban_left_out FactLog ban may unmarked = absurd (may refl)
  ban_left_out (Logs logs) ban may unmarked = absurd (may refl)
  ban_left_out Ended ban may unmarked = absurd (may refl)

  -- a drop is left out
  drop_fact_left_out : (place : Place) (fact : ℕ) → next_place place (record_of.DropFact fact) ≢ None → LeftOut place (record_of.DropFact fact)
  drop_fact_left_out Headed fact may = record {
    past = record { dropped = without_fact past.dropped fact; bans = past.bans };
    given = given;
    stay = record { many = stay.many; same = stay.same };
    own_given = own_given;
    concluded = concluded;
    facts = facts_later;
    bans = bans_later;
    mode = inl (inl (record { place = Headed; proof = proof; own_proof = own_proof; old_is = refl; new_is = refl; no_line = λ line. refl; owner = owner; own_owner = own_owner }));
  }
  drop_fact_left_out Start fact may = absurd (may refl)
  drop_fact_left_out FactLog fact may = absurd (may refl)
  drop_fact_left_out (Logs logs) fact may = absurd (may refl)
  drop_fact_left_out Ended fact may = absurd (may refl)

  drop_ban_left_out : (place : Place) (ban : ℕ) → next_place place (record_of.DropBan ban) ≢ None → LeftOut place (record_of.DropBan ban)
  drop_ban_left_out Headed ban may = record {
    past = without past ban;
    given = without_pairs given ban;
    stay = stays_without past given.bans ban stay;
    own_given = own_given;
    concluded = concluded;
    facts = facts_later;
    bans = bans_later;
    mode = inl (inl (record { place = Headed; proof = proof; own_proof = own_proof; old_is = refl; new_is = refl; no_line = λ line. refl; owner = owner; own_owner = own_owner }));
  }
  drop_ban_left_out Start ban may = absurd (may refl)
  drop_ban_left_out FactLog ban may = absurd (may refl)
  drop_ban_left_out (Logs logs) ban may = absurd (may refl)
  drop_ban_left_out Ended ban may = absurd (may refl)

  -- conclusions
  no_ports : HasFault (old_at Headed) (record_of.Conclusion conclusion.NonePorts) None → Taken Headed (record_of.Conclusion conclusion.NonePorts)
  no_ports fine = record {
    fine = fine;
    place = refl;
    root = refl;
    named = refl;
    kept = record {
      past = past;
      given = given;
      stay = stay;
      own_given = own_given;
      concluded = Some verdict.None;
      facts = facts_later;
      bans = bans_later;
      mode = inl (inl (record { place = Logs 0; proof = proof; own_proof = own_proof; old_is = refl; new_is = refl; no_line = λ line. refl; owner = owner; own_owner = own_owner }));
    };
  }

  no_match : (ban : ℕ) → HasFault (old_at Headed) (record_of.Conclusion (conclusion.NoneBan ban)) None → AreMarked marks (names spots k (record_of.Conclusion (conclusion.NoneBan ban))) → Taken Headed (record_of.Conclusion (conclusion.NoneBan ban))
  no_match ban fine each =
      let ports = through fine in
      let there = through ports.1 in
      let empty = through there.1 in
      let within : ban < length past.bans = omega (arith, there.0.0, stay.many) in
      let is = ban_there ban within each in
      let number = numbers.bans ban (omega (arith, within, bans.many)) in
      record {
        fine = inr (ports.0, inr ((omega (arith, number, is.there), refl), inr (ap (ban_at own_given) number ∙ (is.same [] ∙ (sym (stay.same ban there.0.1) ∙ empty.0)), refl)));
        place = refl;
        root = refl;
        named = ap (listed (number_of marks k) own.bans) number ∙ ban_moves ban within each;
        kept = record {
          past = past;
          given = given;
          stay = stay;
          own_given = own_given;
          concluded = Some verdict.None;
          facts = facts_later;
          bans = bans_later;
          mode = inl (inl (record { place = Logs 0; proof = proof; own_proof = own_proof; old_is = refl; new_is = refl; no_line = λ line. refl; owner = owner; own_owner = own_owner }));
        };
      }

  a_match : (pairs : List Pair) → HasFault (old_at Headed) (record_of.Conclusion (conclusion.Match pairs)) None → bit marks k ≡ true → Taken Headed (record_of.Conclusion (conclusion.Match pairs))
  a_match pairs fine marked = record {
    fine = fine;
    place = refl;
    root = refl;
    named = refl;
    kept = record {
      past = past;
      given = given;
      stay = stay;
      own_given = own_given;
      concluded = Some (verdict.Match (matching_of graphs.first.inputs pairs));
      facts = facts_later;
      bans = bans_later;
      mode = inl (inr (record {
        logs = logs_asked (conclusion.Match pairs);
        matching = matching_of graphs.first.inputs pairs;
        closed = 0;
        taken = [];
        own_taken = [];
        old_is = refl;
        new_is = refl;
        owner = owner;
        own_owner = own_owner;
        base = refl;
        log = log_begun marks (k + 1) (with_one graphs spots k (record_of.Conclusion (conclusion.Match pairs))) (with_one graphs own (number_of marks k) (record_of.Conclusion (conclusion.Match pairs))) refl (sym (next_kept marks k below marked)) refl;
      }));
    };
  }

  concludes : (place : Place) (ends : Conclusion) → next_place place (record_of.Conclusion ends) ≢ None → HasFault (old_at place) (record_of.Conclusion ends) None → AreMarked marks (names spots k (record_of.Conclusion ends)) → bit marks k ≡ true → Taken place (record_of.Conclusion ends)
  concludes Headed conclusion.NonePorts may fine each marked = no_ports fine
  concludes Headed (conclusion.NoneBan ban) may fine each marked = no_match ban fine each
  concludes Headed (conclusion.Match pairs) may fine each marked = a_match pairs fine marked
  concludes Start ends may fine each marked = absurd (may refl)
  concludes FactLog ends may fine each marked = absurd (may refl)
  concludes (Logs logs) ends may fine each marked = absurd (may refl)
  concludes Ended ends may fine each marked = absurd (may refl)

  -- the end
  ends_after : (logs : ℕ) → next_place (Logs logs) record_of.End ≢ None → Taken (Logs logs) record_of.End
  ends_after logs may =
      let none = no_logs_left logs Ended may in
      record {
        fine = refl;
        place = leads_on (Logs logs) Ended record_of.End (next_end logs none);
        root = refl;
        named = refl;
        kept = record {
          past = past;
          given = given;
          stay = stay;
          own_given = own_given;
          concluded = concluded;
          facts = facts_later;
          bans = bans_later;
          mode = inl (inl (record {
            place = Ended;
            proof = proof;
            own_proof = own_proof;
            old_is = after_end graphs logs given past.dropped proof concluded none;
            new_is = after_end graphs logs own_given nothing_dropped own_proof concluded none;
            no_line = λ line. refl;
            owner = owner;
            own_owner = own_owner;
          }));
        };
      }

  ends : (place : Place) → next_place place record_of.End ≢ None → Taken place record_of.End
  ends (Logs logs) may = ends_after logs may
  ends Start may = absurd (may refl)
  ends Headed may = absurd (may refl)
  ends FactLog may = absurd (may refl)
  ends Ended may = absurd (may refl)

  -- a record that is marked, and one that isn't
  pub plain_taken : (place : Place) (entry : Record) → root_at links k ≡ is_root spots.owner entry → next_place place entry ≢ None → ((line : LogLine) → next_place place (record_of.Line line) ≡ None) → HasFault (old_at place) entry None → HasLine entry → AreMarked marks (names spots k entry) → bit marks k ≡ true → Taken place entry
  plain_taken place record_of.Header root may no_line fine has each marked = header place may marked
  plain_taken place (record_of.Fact (head.Fails claim bits)) root may no_line fine has each marked = fails place claim bits may fine marked
  plain_taken place (record_of.Fact (head.Holds claim)) root may no_line fine has each marked = holds place claim root may fine marked
  plain_taken place (record_of.Line line) root may no_line fine has each marked = absurd (may (no_line line))
  plain_taken place (record_of.Ban ban) root may no_line fine has each marked = a_ban place ban may fine each marked
  plain_taken place (record_of.Conclusion ends) root may no_line fine has each marked = concludes place ends may fine each marked
  plain_taken place (record_of.DropFact fact) root may no_line fine has each marked = absurd has
  plain_taken place (record_of.DropBan ban) root may no_line fine has each marked = absurd has
  plain_taken place record_of.End root may no_line fine has each marked = ends place may

  pub plain_left_out : (place : Place) (entry : Record) → next_place place entry ≢ None → ((line : LogLine) → next_place place (record_of.Line line) ≡ None) → (◌≡◌ {A = Bool} (is_root spots.owner entry) true → bit marks k ≡ true) → bit marks k ≡ false → LeftOut place entry
  plain_left_out place record_of.Header may no_line root unmarked = absurd (false≢true (sym unmarked ∙ root refl))
  plain_left_out place (record_of.Fact (head.Fails claim bits)) may no_line root unmarked = fails_left_out place claim bits may unmarked
  plain_left_out place (record_of.Fact (head.Holds claim)) may no_line root unmarked = holds_left_out place claim may unmarked
  plain_left_out place (record_of.Line line) may no_line root unmarked = absurd (may (no_line line))
  plain_left_out place (record_of.Ban ban) may no_line root unmarked = ban_left_out place ban may unmarked
  plain_left_out place (record_of.Conclusion ends) may no_line root unmarked = absurd (false≢true (sym unmarked ∙ root refl))
  plain_left_out place (record_of.DropFact fact) may no_line root unmarked = drop_fact_left_out place fact may
  plain_left_out place (record_of.DropBan ban) may no_line root unmarked = drop_ban_left_out place ban may
  plain_left_out place record_of.End may no_line root unmarked = absurd (false≢true (sym unmarked ∙ root refl))
