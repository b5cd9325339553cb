-- One record more, whatever the account has come to.
use Rattle.std.proofs.Common.{◌≡◌, ◌≢◌, ℕ, ◌+◌, ◌<◌, ◌≤◌, Bool, true, false, List, [], length, All, Option, None, Some, inl, inr, refl, sym, ap, subst, ◌∙◌}
use Rattle.std.specs.Prelude.{option_to_list}
use Rattle.std.specs.List.{flat_map}
use Rattle.std.proofs.lemmas.Bool.{false≢true}
use Rattle.std.proofs.lemmas.List.Elements.{All-head}
use Rattle.circuits.specs.Literals.{bit}
use Rattle.circuits.proofs.Lists.{All-back}
use Rattle.net_core.specs.Sides.{Graphs}
use Rattle.account_core.specs.Given.{Given}
use Rattle.account_file.specs.declared.place.Place.TheVariants.{FactLog, Headed, Logs}
use Rattle.account_file.specs.declared.record.Record.{Record}
use Rattle.account_file.specs.declared.record.Record.TheVariants as record_of
use Rattle.account_file.specs.Order.{next_place}
use Rattle.account_file.specs.Spelling.{HasLine}
use Rattle.account_check.specs.declared.verdict.Verdict.{Verdict}
use Rattle.account_check.specs.Accounts.{Account, HasFault, after}
use Rattle.account_check.specs.Drops.{nothing_dropped}
use Rattle.refusal_core.specs.Names.{AreMarked}
use Rattle.account_trim.specs.declared.links.Links.{Links}
use Rattle.account_trim.specs.declared.lowering.Lower.{Lower}
use Rattle.account_trim.specs.declared.places.Places.{Places}
use Rattle.account_trim.specs.Links.{hinted, is_root, link, names}
use Rattle.account_trim.specs.Lowered.{all_left_out, lowered_record}
use Rattle.account_trim.specs.Places.{with_one}
use Rattle.account_trim.proofs.KeptLemmas.{AreNumbered}
use Rattle.account_trim.proofs.LogStepLemmas.{entry_with, proved_ends, proved_left_out, proved_taken, shown_left_out, shown_taken, skipped}
use Rattle.account_trim.proofs.PastLemmas.{Past, Stays}
use Rattle.account_trim.proofs.RelationLemmas.{IsKept, IsPlain, IsProving, IsShowing, IsSkipping, IsTaken, account_with, fact_with, proof_with, root_at}
use Rattle.account_trim.proofs.StepLemmas.{AreLower, plain_left_out, plain_taken}

module _ (graphs : Graphs) (links : List Links) (marks : List Bool) (lower : Lower) (records_are : lower.records ≡ all_left_out marks) (many : length lower.records ≡ length marks) (k : ℕ) (below : k < length marks) (spots own : Places) (past : Past) (given : Given) (stay : Stays past given.bans) (own_given : Given) (concluded : Option Verdict)
    (facts : AreNumbered marks k spots.facts own.facts given.facts own_given.facts) (bans : AreNumbered marks k spots.bans own.bans past.bans own_given.bans)
    (numbers : AreLower lower marks spots) where
  abbrev TakenFrom : Account → Account → Record → Type 0
  TakenFrom old new entry = IsTaken graphs links marks k old new spots own entry (lowered_record lower (link spots k entry) entry)

  abbrev LeftFrom : Account → Account → Record → Type 0
  LeftFrom old new entry = IsKept graphs links marks (k + 1) (after old entry) new (with_one graphs spots k entry) own

  -- while no log is open
  plain : (old new : Account) (entry : Record) → IsPlain graphs old new spots own past given own_given concluded → root_at links k ≡ is_root spots.owner entry → HasFault old entry None → next_place old.place entry ≢ None → HasLine entry → AreMarked marks (names spots k entry) → bit marks k ≡ true → TakenFrom old new entry
  plain old new entry is root fine may has each marked =
      subst (λ a. TakenFrom a new entry) (sym is.old_is)
      (subst (λ b. TakenFrom (account_with graphs is.place given past.dropped None is.proof concluded) b entry) (sym is.new_is)
      (plain_taken graphs links marks lower k below spots own past given stay own_given is.proof is.own_proof concluded facts bans is.owner is.own_owner numbers is.place entry root
      (subst (λ (a : Account). next_place a.place entry ≢ None) is.old_is may) is.no_line (subst (λ a. HasFault a entry None) is.old_is fine) has each marked))

  plain_out : (old new : Account) (entry : Record) → IsPlain graphs old new spots own past given own_given concluded → (is_root spots.owner entry ≡ true → bit marks k ≡ true) → next_place old.place entry ≢ None → bit marks k ≡ false → LeftFrom old new entry
  plain_out old new entry is root may unmarked =
      subst (λ a. LeftFrom a new entry) (sym is.old_is)
      (subst (λ b. LeftFrom (account_with graphs is.place given past.dropped None is.proof concluded) b entry) (sym is.new_is)
      (plain_left_out graphs links marks lower k below spots own past given stay own_given is.proof is.own_proof concluded facts bans is.owner is.own_owner numbers is.place entry
      (subst (λ (a : Account). next_place a.place entry ≢ None) is.old_is may) is.no_line root unmarked))

  -- in the logs of a match
  proving_by : (entry : Record) (is_logs : ℕ) (old new : Account) → (is : IsProving graphs marks k old new spots own past given own_given concluded) → HasFault (account_with graphs (Logs is.logs) given past.dropped None (proof_with is.matching is.closed is.taken) concluded) entry None → next_place (Logs is.logs) entry ≢ None → AreMarked marks (names spots k entry) → bit marks k ≡ true
      → TakenFrom (account_with graphs (Logs is.logs) given past.dropped None (proof_with is.matching is.closed is.taken) concluded) (account_with graphs (Logs is.logs) own_given nothing_dropped None (proof_with is.matching is.closed is.own_taken) concluded) entry
  proving_by (record_of.Line line) is_logs old new is fine may each marked = proved_taken graphs links marks lower records_are many k below spots own past given stay own_given concluded facts bans is.matching is.closed is.taken is.own_taken is.owner is.own_owner is.base is.log is.logs line.clause line.hints may fine each marked
  proving_by record_of.End is_logs old new is fine may each marked = proved_ends graphs links marks lower records_are many k below spots own past given stay own_given concluded facts bans is.matching is.closed is.taken is.own_taken is.owner is.own_owner is.base is.log is.logs may
  proving_by record_of.Header is_logs old new is fine may each marked = absurd (may refl)
  proving_by (record_of.Fact fact) is_logs old new is fine may each marked = absurd (may refl)
  proving_by (record_of.Ban ban) is_logs old new is fine may each marked = absurd (may refl)
  proving_by (record_of.DropFact fact) is_logs old new is fine may each marked = absurd (may refl)
  proving_by (record_of.DropBan ban) is_logs old new is fine may each marked = absurd (may refl)
  proving_by (record_of.Conclusion ends) is_logs old new is fine may each marked = absurd (may refl)

  proving : (old new : Account) (entry : Record) → IsProving graphs marks k old new spots own past given own_given concluded → HasFault old entry None → next_place old.place entry ≢ None → AreMarked marks (names spots k entry) → bit marks k ≡ true → TakenFrom old new entry
  proving old new entry is fine may each marked =
      subst (λ a. TakenFrom a new entry) (sym is.old_is)
      (subst (λ b. TakenFrom (account_with graphs (Logs is.logs) given past.dropped None (proof_with is.matching is.closed is.taken) concluded) b entry) (sym is.new_is)
      (proving_by entry is.logs old new is (subst (λ a. HasFault a entry None) is.old_is fine) (subst (λ (a : Account). next_place a.place entry ≢ None) is.old_is may) each marked))

  proving_out_by : (entry : Record) (old new : Account) → (is : IsProving graphs marks k old new spots own past given own_given concluded) → (is_root spots.owner entry ≡ true → bit marks k ≡ true) → next_place (Logs is.logs) entry ≢ None → bit marks k ≡ false
      → LeftFrom (account_with graphs (Logs is.logs) given past.dropped None (proof_with is.matching is.closed is.taken) concluded) (account_with graphs (Logs is.logs) own_given nothing_dropped None (proof_with is.matching is.closed is.own_taken) concluded) entry
  proving_out_by (record_of.Line line) old new is root may unmarked = proved_left_out graphs links marks lower records_are many k below spots own past given stay own_given concluded facts bans is.matching is.closed is.taken is.own_taken is.owner is.own_owner is.base is.log is.logs line.clause line.hints may root unmarked
  proving_out_by record_of.End old new is root may unmarked = absurd (false≢true (sym unmarked ∙ root refl))
  proving_out_by record_of.Header old new is root may unmarked = absurd (may refl)
  proving_out_by (record_of.Fact fact) old new is root may unmarked = absurd (may refl)
  proving_out_by (record_of.Ban ban) old new is root may unmarked = absurd (may refl)
  proving_out_by (record_of.DropFact fact) old new is root may unmarked = absurd (may refl)
  proving_out_by (record_of.DropBan ban) old new is root may unmarked = absurd (may refl)
  proving_out_by (record_of.Conclusion ends) old new is root may unmarked = absurd (may refl)

  proving_out : (old new : Account) (entry : Record) → IsProving graphs marks k old new spots own past given own_given concluded → (is_root spots.owner entry ≡ true → bit marks k ≡ true) → next_place old.place entry ≢ None → bit marks k ≡ false → LeftFrom old new entry
  proving_out old new entry is root may unmarked =
      subst (λ a. LeftFrom a new entry) (sym is.old_is)
      (subst (λ b. LeftFrom (account_with graphs (Logs is.logs) given past.dropped None (proof_with is.matching is.closed is.taken) concluded) b entry) (sym is.new_is)
      (proving_out_by entry old new is root (subst (λ (a : Account). next_place a.place entry ≢ None) is.old_is may) unmarked))

  -- in the log of a fact that is kept
  showing_by : (entry : Record) (old new : Account) → (is : IsShowing graphs links marks k old new spots own past given own_given concluded) → root_at links k ≡ is_root spots.owner entry → HasFault (account_with graphs FactLog given past.dropped (Some (fact_with is.claim is.taken)) is.proof concluded) entry None → next_place FactLog entry ≢ None → AreMarked marks (names spots k entry) → bit marks k ≡ true
      → TakenFrom (account_with graphs FactLog given past.dropped (Some (fact_with is.claim is.taken)) is.proof concluded) (account_with graphs FactLog own_given nothing_dropped (Some (fact_with is.claim is.own_taken)) is.own_proof concluded) entry
  showing_by (record_of.Line line) old new is root fine may each marked = shown_taken graphs links marks lower records_are many k below spots own past given stay own_given concluded facts bans is.claim is.taken is.own_taken is.proof is.own_proof is.owned_by is.owner is.own_owner is.marked is.before is.facts_before is.bans_before is.no_roots is.base is.log line.clause line.hints root fine each marked
  showing_by record_of.End old new is root fine may each marked = absurd (may refl)
  showing_by record_of.Header old new is root fine may each marked = absurd (may refl)
  showing_by (record_of.Fact fact) old new is root fine may each marked = absurd (may refl)
  showing_by (record_of.Ban ban) old new is root fine may each marked = absurd (may refl)
  showing_by (record_of.DropFact fact) old new is root fine may each marked = absurd (may refl)
  showing_by (record_of.DropBan ban) old new is root fine may each marked = absurd (may refl)
  showing_by (record_of.Conclusion ends) old new is root fine may each marked = absurd (may refl)

  showing : (old new : Account) (entry : Record) → IsShowing graphs links marks k old new spots own past given own_given concluded → root_at links k ≡ is_root spots.owner entry → HasFault old entry None → next_place old.place entry ≢ None → AreMarked marks (names spots k entry) → bit marks k ≡ true → TakenFrom old new entry
  showing old new entry is root fine may each marked =
      subst (λ a. TakenFrom a new entry) (sym is.old_is)
      (subst (λ b. TakenFrom (account_with graphs FactLog given past.dropped (Some (fact_with is.claim is.taken)) is.proof concluded) b entry) (sym is.new_is)
      (showing_by entry old new is root (subst (λ a. HasFault a entry None) is.old_is fine) (subst (λ (a : Account). next_place a.place entry ≢ None) is.old_is may) each marked))

  showing_out_by : (entry : Record) (old new : Account) → (is : IsShowing graphs links marks k old new spots own past given own_given concluded) → root_at links k ≡ is_root spots.owner entry → next_place FactLog entry ≢ None → ((hints : List ℕ) → entry ≡ entry_with [] hints → ⊥) → bit marks k ≡ false
      → LeftFrom (account_with graphs FactLog given past.dropped (Some (fact_with is.claim is.taken)) is.proof concluded) (account_with graphs FactLog own_given nothing_dropped (Some (fact_with is.claim is.own_taken)) is.own_proof concluded) entry
  showing_out_by (record_of.Line line) old new is root may not_last unmarked =
      shown_left_out graphs links marks lower records_are many k below spots own past given stay own_given concluded facts bans is.claim is.taken is.own_taken is.proof is.own_proof is.owned_by is.owner is.own_owner is.marked is.before is.facts_before is.bans_before is.no_roots is.base is.log line.clause line.hints root (λ none. not_last line.hints (ap (λ c. entry_with c line.hints) none)) unmarked
  showing_out_by record_of.End old new is root may not_last unmarked = absurd (may refl)
  showing_out_by record_of.Header old new is root may not_last unmarked = absurd (may refl)
  showing_out_by (record_of.Fact fact) old new is root may not_last unmarked = absurd (may refl)
  showing_out_by (record_of.Ban ban) old new is root may not_last unmarked = absurd (may refl)
  showing_out_by (record_of.DropFact fact) old new is root may not_last unmarked = absurd (may refl)
  showing_out_by (record_of.DropBan ban) old new is root may not_last unmarked = absurd (may refl)
  showing_out_by (record_of.Conclusion ends) old new is root may not_last unmarked = absurd (may refl)

  showing_out : (old new : Account) (entry : Record) → IsShowing graphs links marks k old new spots own past given own_given concluded → root_at links k ≡ is_root spots.owner entry → next_place old.place entry ≢ None → ((hints : List ℕ) → entry ≡ entry_with [] hints → ⊥) → bit marks k ≡ false → LeftFrom old new entry
  showing_out old new entry is root may not_last unmarked =
      subst (λ a. LeftFrom a new entry) (sym is.old_is)
      (subst (λ b. LeftFrom (account_with graphs FactLog given past.dropped (Some (fact_with is.claim is.taken)) is.proof concluded) b entry) (sym is.new_is)
      (showing_out_by entry old new is root (subst (λ (a : Account). next_place a.place entry ≢ None) is.old_is may) not_last unmarked))

  -- in the log of a fact that is left out no line is marked
  skipping : (old : Account) (entry : Record) {new : Account} → IsSkipping graphs marks old new spots own past given own_given concluded → next_place old.place entry ≢ None → AreMarked marks (names spots k entry) → ⊥
  skipping old entry {new} is may each =
      by entry (subst (λ (a : Account). next_place a.place entry ≢ None) is.old_is may) each
    where
      by : (e : Record) → next_place FactLog e ≢ None → AreMarked marks (names spots k e) → ⊥
      by (record_of.Line line) may each =
          let owner = All-back (λ p. bit marks p ≡ true) (flat_map (hinted spots k) line.hints) (option_to_list spots.owner) each in
          let marked = All-head (λ p. bit marks p ≡ true) is.owned_by [] (subst (λ x. All (λ p. bit marks p ≡ true) (option_to_list x)) is.owner owner) in
          false≢true (sym is.unmarked ∙ marked)
      by record_of.End may each = absurd (may refl)
      by record_of.Header may each = absurd (may refl)
      by (record_of.Fact fact) may each = absurd (may refl)
      by (record_of.Ban ban) may each = absurd (may refl)
      by (record_of.DropFact fact) may each = absurd (may refl)
      by (record_of.DropBan ban) may each = absurd (may refl)
      by (record_of.Conclusion ends) may each = absurd (may refl)

  skipping_out_by : (entry : Record) (old new : Account) → (is : IsSkipping graphs marks old new spots own past given own_given concluded) → next_place FactLog entry ≢ None → bit marks k ≡ false
      → LeftFrom (account_with graphs FactLog given past.dropped (Some (fact_with is.claim is.taken)) is.proof concluded) (account_with graphs Headed own_given nothing_dropped None is.own_proof concluded) entry
  skipping_out_by (record_of.Line line) old new is may unmarked = skipped graphs links marks k below spots own past given stay own_given concluded facts bans is.claim is.taken is.proof is.own_proof is.owned_by is.owner is.own_owner is.unmarked line.clause line.hints unmarked
  skipping_out_by record_of.End old new is may unmarked = absurd (may refl)
  skipping_out_by record_of.Header old new is may unmarked = absurd (may refl)
  skipping_out_by (record_of.Fact fact) old new is may unmarked = absurd (may refl)
  skipping_out_by (record_of.Ban ban) old new is may unmarked = absurd (may refl)
  skipping_out_by (record_of.DropFact fact) old new is may unmarked = absurd (may refl)
  skipping_out_by (record_of.DropBan ban) old new is may unmarked = absurd (may refl)
  skipping_out_by (record_of.Conclusion ends) old new is may unmarked = absurd (may refl)

  skipping_out : (old new : Account) (entry : Record) → IsSkipping graphs marks old new spots own past given own_given concluded → next_place old.place entry ≢ None → bit marks k ≡ false → LeftFrom old new entry
  skipping_out old new entry is may unmarked =
      subst (λ a. LeftFrom a new entry) (sym is.old_is)
      (subst (λ b. LeftFrom (account_with graphs FactLog given past.dropped (Some (fact_with is.claim is.taken)) is.proof concluded) b entry) (sym is.new_is)
      (skipping_out_by entry old new is (subst (λ (a : Account). next_place a.place entry ≢ None) is.old_is may) unmarked))

-- What is known of the next record: its link, and what is marked with it.
pub record IsNext (links : List Links) (marks : List Bool) (k : ℕ) (spots : Places) (old : Account) (entry : Record) : Type 0 where
  pub root_is : root_at links k ≡ is_root spots.owner entry
  pub root : is_root spots.owner entry ≡ true → bit marks k ≡ true
  pub named : bit marks k ≡ true → AreMarked marks (names spots k entry)
  pub line : bit marks k ≡ true → HasLine entry
  pub fine : HasFault old entry None
  pub may : next_place old.place entry ≢ None
  pub closes : (o : ℕ) (hints : List ℕ) → entry ≡ entry_with [] hints → bit marks k ≡ false → spots.owner ≡ Some o → o < k → All (λ p. p < o) spots.facts → All (λ p. p < o) spots.bans → ((j : ℕ) → o ≤ j → j < k → root_at links j ≡ false) → bit marks o ≡ true → ⊥

module _ (graphs : Graphs) (links : List Links) (marks : List Bool) (lower : Lower) (records_are : lower.records ≡ all_left_out marks) (many : length lower.records ≡ length marks) (k : ℕ) (below : k < length marks) (spots own : Places)
    (numbers : AreLower lower marks spots) (old new : Account) (entry : Record) (next : IsNext links marks k spots old entry) (is : IsKept graphs links marks k old new spots own) where
  -- a record that is marked is taken
  pub taken : bit marks k ≡ true → IsTaken graphs links marks k old new spots own entry (lowered_record lower (link spots k entry) entry)
  taken marked = elim is.mode [
    | inl open_none ↦ elim open_none [
      | inl mode ↦ plain graphs links marks lower records_are many k below spots own is.past is.given is.stay is.own_given is.concluded is.facts is.bans numbers old new entry mode next.root_is next.fine next.may (next.line marked) (next.named marked) marked
      | inr mode ↦ proving graphs links marks lower records_are many k below spots own is.past is.given is.stay is.own_given is.concluded is.facts is.bans numbers old new entry mode next.fine next.may (next.named marked) marked
    ]
    | inr open_one ↦ elim open_one [
      | inl mode ↦ showing graphs links marks lower records_are many k below spots own is.past is.given is.stay is.own_given is.concluded is.facts is.bans numbers old new entry mode next.root_is next.fine next.may (next.named marked) marked
      | inr mode ↦ absurd (skipping graphs links marks lower records_are many k below spots own is.past is.given is.stay is.own_given is.concluded is.facts is.bans numbers old entry mode next.may (next.named marked))
    ]
  ]

  -- and one that isn't is left out
  pub left_out : bit marks k ≡ false → IsKept graphs links marks (k + 1) (after old entry) new (with_one graphs spots k entry) own
  left_out unmarked = elim is.mode [
    | inl open_none ↦ elim open_none [
      | inl mode ↦ plain_out graphs links marks lower records_are many k below spots own is.past is.given is.stay is.own_given is.concluded is.facts is.bans numbers old new entry mode next.root next.may unmarked
      | inr mode ↦ proving_out graphs links marks lower records_are many k below spots own is.past is.given is.stay is.own_given is.concluded is.facts is.bans numbers old new entry mode next.root next.may unmarked
    ]
    | inr open_one ↦ elim open_one [
      | inl mode ↦ showing_out graphs links marks lower records_are many k below spots own is.past is.given is.stay is.own_given is.concluded is.facts is.bans numbers old new entry mode next.root_is next.may
          (λ hints last. next.closes mode.owned_by hints last unmarked mode.owner mode.before mode.facts_before mode.bans_before mode.no_roots mode.marked) unmarked
      | inr mode ↦ skipping_out graphs links marks lower records_are many k below spots own is.past is.given is.stay is.own_given is.concluded is.facts is.bans numbers old new entry mode next.may unmarked
    ]
  ]
