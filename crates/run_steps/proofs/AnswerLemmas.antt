-- The answers of a search, with accounts that are accepted.
use Rattle.std.proofs.Common.{◌≡◌, ℕ, inl, inr, false, List, All, map, refl, sym, ap, subst, ◌∙◌}
use Rattle.cnf_core.specs.declared.log.Log.{Log}
use Rattle.net_core.specs.Graph.{IsGraph}
use Rattle.net_core.specs.Sides.{Graphs}
use Rattle.net_core.specs.declared.matching.Matching.{Matching}
use Rattle.account_core.specs.declared.fact.Fact.{Fact}
use Rattle.account_core.specs.declared.step.Ban.{Ban}
use Rattle.account_core.specs.Given.{decided_by}
use Rattle.account_core.specs.Facts.{AreFacts}
use Rattle.account_core.specs.Ports.{HaveAsMany}
use Rattle.account_core.specs.Steps.{AreValidBans}
use Rattle.account_file.specs.Binary.{is_binary}
use Rattle.account_file.specs.Spelling.{IsWritable}
use Rattle.account_check.specs.Verdicts.{IsAccepted as Proves}
use Rattle.account_check.specs.declared.verdict.Verdict.TheVariants as verdict
use Rattle.account_check.proofs.RefusalLemmas.{right_refusal}
use Rattle.account_file.specs.declared.record.Record.{Record}
use Rattle.account_write.specs.Records.{account_of, match_records, none_ports_records, refusal_records}
use Rattle.account_write.proofs.MatchLemmas.{match_accepted}
use Rattle.account_write.proofs.RefusalLemmas.{none_ports_accepted, refusal_accepted}
use Rattle.account_core.specs.Shown.{IsEmptyBan, IsShownMatch}
use Rattle.run_steps.specs.Steps.{IsAnswered}
use Rattle.check_steps.specs.declared.outcome.Outcome.TheVariants.{Matched, NoMatching}

pub answer_matched : (graphs : Graphs) (matching : Matching) (logs : List Log) (records : List Record) → IsShownMatch graphs matching logs → records ≡ match_records matching logs → All IsWritable records → IsAnswered graphs (account_of records) (Matched matching)
answer_matched graphs matching logs records shown is writable =
    (ap (λ entries. is_binary (account_of entries)) is, inl (matching, refl, subst (λ entries. Proves graphs (account_of entries) (verdict.Match matching)) (sym is) (match_accepted graphs matching logs shown (subst (λ entries. All IsWritable entries) is writable)), shown.is_match))

-- what an account refuses has no match
refused : (graphs : Graphs) (records others : List Record) → IsGraph graphs.first → IsGraph graphs.second → records ≡ others → is_binary (account_of others) ≡ false → Proves graphs (account_of others) verdict.None → IsAnswered graphs (account_of records) NoMatching
refused graphs records others first second is text proves =
    let there = subst (λ entries. Proves graphs (account_of entries) verdict.None) (sym is) proves in
    (ap (λ entries. is_binary (account_of entries)) is ∙ text, inr (refl, there, right_refusal graphs (account_of records) first second there))

pub answer_refused : (graphs : Graphs) (facts : List Fact) (bans : List Ban) (number : ℕ) (records : List Record) → IsGraph graphs.first → IsGraph graphs.second → HaveAsMany graphs.first graphs.second → AreFacts graphs facts → AreValidBans graphs (map decided_by facts) bans → IsEmptyBan bans number → records ≡ refusal_records facts bans number → All IsWritable records → IsAnswered graphs (account_of records) NoMatching
answer_refused graphs facts bans number records first second many are_facts valid empty is writable =
    refused graphs records (refusal_records facts bans number) first second is refl (refusal_accepted graphs many facts bans number are_facts valid empty (subst (λ entries. All IsWritable entries) is writable))

pub answer_other_ports : (graphs : Graphs) (records : List Record) → IsGraph graphs.first → IsGraph graphs.second → (HaveAsMany graphs.first graphs.second → ⊥) → records ≡ none_ports_records → IsAnswered graphs (account_of records) NoMatching
answer_other_ports graphs records first second differ is =
    refused graphs records none_ports_records first second is refl (none_ports_accepted graphs differ)
