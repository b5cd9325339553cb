-- Outputs that are compared one after the other.
use Rattle.std.proofs.Common.{◌≡◌, ◌⊎◌, ℕ, ◌+◌, ◌*◌, ◌<◌, ◌≤◌, Bool, true, false, List, [], ◌∷◌, ◌++◌, length, get_or, sym, ap, subst, ◌∙◌, inl, inr, arith}
use Rattle.std.proofs.lemmas.Bool.{cases_lt}
use Rattle.std.proofs.lemmas.List.{get_or_append_left, get_or-append-add, length-append}
use Rattle.cnf_core.specs.declared.log.Log.{Log}
use Rattle.net_core.specs.Sides.{Graphs}
use Rattle.net_core.specs.declared.matching.Matching.{Matching}
use Rattle.query_core.specs.Ledgers.{Ledgered}
use Rattle.account_core.specs.Facts.{AreFacts}
use Rattle.account_core.specs.Shown.{AreSame, AreLogs, AreLogsOf, IsShownMatch}
use Rattle.oracle_core.specs.Oracles.{Known}
use Rattle.circuits.specs.Matches.{HavePorts}
use Rattle.net_core.specs.Graph.{IsGraph}
use Rattle.claim_core.specs.Formulas.{IsRefuted}
use Rattle.claim_core.specs.MatchQueries.{match_query}
use Rattle.claim_core.proofs.MatchLemmas.{match_query_fits}
use Rattle.claim_core.proofs.RefutedLemmas.{match_of_refuted}
use Rattle.match_search.specs.Founds.{AddsLogs}
use Rattle.match_search.specs.States.{HasServed, MayCompare}
use Rattle.fact_bans.proofs.ServeLemmas.{served_same}

-- nothing was asked yet
pub asked_none : {graphs : Graphs} {known : Known} {ledger : Ledgered} → MayCompare graphs known ledger → HasServed known known ledger ledger
asked_none {graphs} {known} {ledger} may = served_same known ledger (subst (λ (g : Graphs). AreFacts g known.facts) may.graphs_are may.lawful) may.suits

-- and after calls that were answered more may be asked
pub may_ask_later : {graphs : Graphs} {old now : Known} {a b : Ledgered} → MayCompare graphs old a → HasServed old now a b → MayCompare graphs now b
may_ask_later {graphs} {old} {now} may served =
    let are = may.graphs_are ∙ sym served.grows.graphs in
    record { graphs_are = are; lawful = subst (λ (g : Graphs). AreFacts g now.facts) (sym are) served.grows.lawful; suits = served.suits }

-- That many outputs were compared, and agree with their partners.
pub record IsComparing (graphs : Graphs) (matching : Matching) (old now : Known) (before after : Ledgered) (count : ℕ) (logs : List Log) : Type 0 where
  pub served : HasServed old now before after
  pub shown : AreLogsOf graphs matching count logs

pub comparing_start : (graphs : Graphs) (matching : Matching) (known : Known) (ledger : Ledgered) (logs : List Log) → MayCompare graphs known ledger → logs ≡ [] → IsComparing graphs matching known known ledger ledger 0 logs
comparing_start graphs matching known ledger logs may none = record {
  served = asked_none may;
  shown = record { number = ap length none; same = λ k d below. absurd (omega (arith, below)) };
}

pub logs_more : (graphs : Graphs) (matching : Matching) (count : ℕ) (logs after : List Log) → AreLogsOf graphs matching count logs → AddsLogs graphs matching count logs after → AreLogsOf graphs matching (count + 1) after
logs_more graphs matching count logs after are adds = record {
  number = omega (arith, ap length adds.after_is, length-append logs (adds.one ∷ adds.other ∷ []), are.number);
  same = λ k d below. by_place k d below (cases_lt k count);
}
  where
    read : (i : ℕ) (d : Log) → i < length logs → get_or after i d ≡ get_or logs i d
    read i d below = ap (λ l. get_or l i d) adds.after_is ∙ get_or_append_left logs (adds.one ∷ adds.other ∷ []) d i below

    read_new : (i j : ℕ) (d : Log) → j ≡ length logs + i → get_or after j d ≡ get_or (adds.one ∷ adds.other ∷ []) i d
    read_new i j d is = ap (λ l. get_or l j d) adds.after_is ∙ (ap (λ n. get_or (logs ++ adds.one ∷ adds.other ∷ []) n d) is ∙ get_or-append-add logs (adds.one ∷ adds.other ∷ []) i d)

    by_place : (k : ℕ) (d : Log) → k < count + 1 → (k < count) ⊎ (count ≤ k) → AreSame graphs matching k (get_or after (2 * k) d) (get_or after (2 * k + 1) d)
    by_place k d below (inl less) =
        subst (λ l. AreSame graphs matching k l (get_or after (2 * k + 1) d)) (sym (read (2 * k) d (omega (arith, less, are.number)))) (subst (AreSame graphs matching k (get_or logs (2 * k) d)) (sym (read (2 * k + 1) d (omega (arith, less, are.number)))) (are.same k d less))
    by_place k d below (inr past) =
        let e : k ≡ count = omega (arith, below, past) in
        subst (λ l. AreSame graphs matching k l (get_or after (2 * k + 1) d)) (sym (read_new 0 (2 * k) d (omega (arith, e, are.number)))) (subst (AreSame graphs matching k adds.one) (sym (read_new 1 (2 * k + 1) d (omega (arith, e, are.number)))) (subst (λ n. AreSame graphs matching n adds.one adds.other) (sym e) adds.same))

abbrev no_log : Log
no_log = record { lines = [] }

-- a whole matching whose outputs all agree with their partners is a match
pub shown_match : (graphs : Graphs) (matching : Matching) (logs : List Log) → IsGraph graphs.first → IsGraph graphs.second → HavePorts graphs.first graphs.second matching.inputs matching.outputs → AreLogs graphs matching logs → IsShownMatch graphs matching logs
shown_match graphs matching logs first second ports are = record {
  is_match = match_of_refuted graphs matching first second ports refuted;
  shown = are;
}
  where
    refuted : (k : ℕ) (value : Bool) → k < length graphs.first.outputs → IsRefuted graphs (match_query graphs.first.inputs matching k value)
    refuted k true below = record {
      fits = match_query_fits graphs matching k true ports below;
      lines = (get_or logs (2 * k) no_log).lines;
      refuted = (are.same k no_log below).of_true;
    }
    refuted k false below = record {
      fits = match_query_fits graphs matching k false ports below;
      lines = (get_or logs (2 * k + 1) no_log).lines;
      refuted = (are.same k no_log below).of_false;
    }
