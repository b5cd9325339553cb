-- A record has one fault at most, so that an answer names exactly it.
use Rattle.std.proofs.Common.{◌≡◌, ◌≢◌, Option, None, Some, Result, Ok, Err, IsOk, OnOk, refl, sym, ap, ◌∙◌}
use Rattle.std.proofs.lemmas.Option.{none-some}
use Rattle.net_core.specs.Sides.{Graphs}
use Rattle.claim_core.specs.declared.claims.Claim.{Claim}
use Rattle.account_core.specs.declared.conclusion.Conclusion.{Conclusion}
use Rattle.account_core.specs.declared.conclusion.Conclusion.TheVariants as conclusion
use Rattle.account_core.specs.declared.fact.FactHead.{FactHead}
use Rattle.account_core.specs.declared.fact.FactHead.TheVariants as fact
use Rattle.account_core.specs.declared.step.Ban.{Ban}
use Rattle.account_core.specs.Given.{Given}
use Rattle.account_file.specs.declared.record.Record.{Record}
use Rattle.account_file.specs.declared.record.Record.TheVariants as entry
use Rattle.account_check.specs.declared.reject.Reject.{Reject}
use Rattle.account_check.specs.declared.reject.RecordStop.{RecordStop}
use Rattle.account_check.specs.declared.reject.RecordStop.TheVariants as stop
use Rattle.account_check.specs.Accounts.{Account, HasFault}
use Rattle.account_check.specs.Bans.{BanTests}
use Rattle.account_check.specs.Drops.{Dropped}
use Rattle.account_check.specs.Conclusions.{ConclusionTests}
use Rattle.account_check.specs.Facts.{ClaimTests, FactTests}
use Rattle.account_check.proofs.TestLemmas.{one_passed, one_unless}

one_claim_fault : (graphs : Graphs) (claim : Claim) (Rest : Option Reject → Type 0) → ((a b : Option Reject) → Rest a → Rest b → a ≡ b) → (a b : Option Reject) → ClaimTests graphs claim Rest a → ClaimTests graphs claim Rest b → a ≡ b
one_claim_fault graphs claim Rest one = one_unless _ _ _ (one_unless _ _ Rest one)

one_fact_fault : (graphs : Graphs) (head : FactHead) (a b : Option Reject) → FactTests graphs head a → FactTests graphs head b → a ≡ b
one_fact_fault graphs (fact.Fails claim bits) = one_claim_fault graphs claim _ (one_unless _ _ _ one_passed)
one_fact_fault graphs (fact.Holds claim) = one_claim_fault graphs claim _ one_passed

one_ban_fault : (graphs : Graphs) (given : Given) (dropped : Dropped) (ban : Ban) (a b : Option Reject) → BanTests graphs given dropped ban a → BanTests graphs given dropped ban b → a ≡ b
one_ban_fault graphs given dropped ban =
    one_unless _ _ _ (one_unless _ _ _ (one_unless _ _ _ (one_unless _ _ _ (one_unless _ _ _ one_passed))))

one_conclusion_fault : (graphs : Graphs) (given : Given) (dropped : Dropped) (x : Conclusion) (a b : Option Reject) → ConclusionTests graphs given dropped x a → ConclusionTests graphs given dropped x b → a ≡ b
one_conclusion_fault graphs given dropped conclusion.NonePorts = one_unless _ _ _ one_passed
one_conclusion_fault graphs given dropped (conclusion.NoneBan ban) = one_unless _ _ _ (one_unless _ _ _ (one_unless _ _ _ one_passed))
one_conclusion_fault graphs given dropped (conclusion.Match pairs) = one_unless _ _ _ (one_unless _ _ _ (one_unless _ _ _ one_passed))

pub one_fault : (account : Account) (record_ : Record) (a b : Option Reject) → HasFault account record_ a → HasFault account record_ b → a ≡ b
one_fault account entry.Header = one_passed
one_fault account (entry.Fact head) = one_unless _ _ _ (one_fact_fault account.graphs head)
one_fault account (entry.Line line) = λ a b one other. one ∙ sym other
one_fault account (entry.Ban ban) = one_unless _ _ _ (one_ban_fault account.graphs account.given account.dropped ban)
one_fault account (entry.Conclusion x) = one_conclusion_fault account.graphs account.given account.dropped x
one_fault account (entry.DropFact fact) = one_unless _ _ _ (one_unless _ _ _ one_passed)
one_fault account (entry.DropBan ban) = one_unless _ _ _ (one_unless _ _ _ one_passed)
one_fault account entry.End = one_passed

-- the fault that an answer names is the record's, and the record's fault is named
pub refused_exactly : (account : Account) (record_ : Record) (result : Result (Unit {0}) RecordStop) (reject : Reject) → ((r : Reject) → result ≡ Err (stop.Reject r) → HasFault account record_ (Some r)) → OnOk result (HasFault account record_ None) → result ≢ Err stop.Memory → HasFault account record_ (Some reject) → result ≡ Err (stop.Reject reject)
refused_exactly account record_ (Ok done) reject refused taken memory has = absurd (none-some reject (one_fault account record_ None (Some reject) taken has))
refused_exactly account record_ (Err (stop.Reject r)) reject refused taken memory has =
    ap (λ f. Err (stop.Reject f)) (same r reject (one_fault account record_ (Some r) (Some reject) (refused r refl) has))
  where
    same : (r s : Reject) → Some r ≡ Some s → r ≡ s
    same r s e = cc
refused_exactly account record_ (Err stop.Memory) reject refused taken memory has = absurd (memory refl)

pub taken_exactly : (account : Account) (record_ : Record) (result : Result (Unit {0}) RecordStop) → ((r : Reject) → result ≡ Err (stop.Reject r) → HasFault account record_ (Some r)) → result ≢ Err stop.Memory → HasFault account record_ None → IsOk result
taken_exactly account record_ (Ok done) refused memory has = refl
taken_exactly account record_ (Err (stop.Reject r)) refused memory has = absurd (none-some r (one_fault account record_ None (Some r) has (refused r refl)))
taken_exactly account record_ (Err stop.Memory) refused memory has = absurd (memory refl)

pub taken_told : (account : Account) (record_ : Record) (result : Result (Unit {0}) RecordStop) → OnOk result (HasFault account record_ None) → IsOk result → HasFault account record_ None
taken_told account record_ (Ok done) taken ok = taken
taken_told account record_ (Err stop) taken ok = cc
