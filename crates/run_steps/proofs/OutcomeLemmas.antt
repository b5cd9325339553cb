-- Outcomes by their kinds: what is so of each variant of a kind, and what an outcome of a kind isn't.
use Rattle.std.proofs.Common.{◌≢◌, inl, inr, List, ℕ, sym, subst}
use Rattle.circuits.specs.Matches.{HaveNpnpEqualFunctions, IsMatchOfFunctions}
use Rattle.net_core.specs.Sides.{Graphs}
use Rattle.net_core.specs.declared.matching.Matching.{Matching}
use Rattle.query_core.specs.Ledgers.{Ledgered}
use Rattle.account_check.specs.Verdicts.{IsAccepted as Proves}
use Rattle.account_check.specs.declared.verdict.Verdict.TheVariants as verdict
use Rattle.run_steps.specs.Info.{IsSpentOf}
use Rattle.run_steps.specs.Steps.{IsAnswered, IsStopWithin, IsUnwritten}
use Rattle.check_steps.specs.Reading.{IsEarly, IsOfReading}
use Rattle.check_steps.specs.declared.outcome.Outcome.{Outcome}
use Rattle.check_steps.specs.declared.outcome.Outcome.TheVariants.{Matched, NoMatching, Spent, ReadFault, WriteFault, Memory}
use Rattle.check_steps.proofs.EndLemmas.{EndsReading, early, of_reading}

-- the variants of a write that was refused, of a search without an answer, and of an answer

pub of_unwritten : (P : Outcome → Type 0) (o : Outcome) → IsUnwritten o → P WriteFault → P Memory → P o
of_unwritten P o is fault memory = elim is [ inl e ↦ subst P (sym e) fault | inr e ↦ subst P (sym e) memory ]

pub of_stop : (P : Outcome → Type 0) (graphs : Graphs) (budget : ℕ) (o : Outcome) → IsStopWithin graphs budget o → ((ledger : Ledgered) → IsSpentOf graphs budget ledger → P (Spent ledger)) → P Memory → P o
of_stop P graphs budget o stop spent memory =
    elim stop [ inl (ledger, is, all) ↦ subst P (sym is) (spent ledger all) | inr is ↦ subst P (sym is) memory ]

pub of_answer : (P : Outcome → Type 0) (graphs : Graphs) (account : List ℕ) (o : Outcome) → IsAnswered graphs account o
    → ((matching : Matching) → Proves graphs account (verdict.Match matching) → IsMatchOfFunctions graphs.first graphs.second matching.inputs matching.outputs → P (Matched matching))
    → (Proves graphs account verdict.None → (HaveNpnpEqualFunctions graphs.first graphs.second → ⊥) → P NoMatching)
    → P o
of_answer P graphs account o answer matched none =
    elim answer.1 [
      | inl (matching, is, proves, matches) ↦ subst P (sym is) (matched matching proves matches)
      | inr (is, proves, unequal) ↦ subst P (sym is) (none proves unequal)
    ]

-- what ends a run early, and what does so before a write

pub early_unwritten : (o : Outcome) → IsUnwritten o → IsEarly o
early_unwritten o is = of_unwritten IsEarly o is (early WriteFault tt) (early Memory tt)

pub stop_line : (graphs : Graphs) (budget : ℕ) (o : Outcome) → IsStopWithin graphs budget o → IsOfReading o
stop_line graphs budget o stop = of_reading o (of_stop EndsReading graphs budget o stop (λ ledger spent. tt) tt)

-- a search ends by no fault of the outside
pub no_fault : (graphs : Graphs) (budget : ℕ) (o : Outcome) → IsStopWithin graphs budget o → (o ≢ ReadFault) × (o ≢ WriteFault)
no_fault graphs budget o stop = of_stop (λ end. (end ≢ ReadFault) × (end ≢ WriteFault)) graphs budget o stop (λ ledger spent. (λ e. cc, λ e. cc)) (λ e. cc, λ e. cc)
