-- The records of the account of what a search came to (this project's format): after the header, for a match its pairs
-- and the logs that show it; for none the facts and bans, up to a ban without pairs; or that the circuits differ in
-- their numbers of ports.
use Rattle.std.specs.Prelude.{◌≡◌, ℕ, ◌+◌, ◌<◌, Bool, List, [], ◌∷◌, ◌++◌, length, map, All}
use Rattle.std.specs.List.{flat_map}
use Rattle.circuits.specs.declared.port.Pair.{Pair}
use Rattle.circuits.specs.declared.port.PortKind.{PortKind}
use Rattle.circuits.specs.declared.port.PortKind.TheVariants.{Input, Output}
use Rattle.cnf_core.specs.declared.log.Log.{Log}
use Rattle.cnf_core.specs.declared.log.LogLine.{LogLine}
use Rattle.net_core.specs.declared.matching.Matching.{Matching}
use Rattle.claim_core.specs.declared.claims.Claim.{Claim}
use Rattle.account_core.specs.declared.conclusion.Conclusion.TheVariants as conclusion
use Rattle.account_core.specs.declared.fact.Evidence.{Evidence}
use Rattle.account_core.specs.declared.fact.Evidence.TheVariants as evidence
use Rattle.account_core.specs.declared.fact.Fact.{Fact}
use Rattle.account_core.specs.declared.fact.FactHead.TheVariants as head
use Rattle.account_core.specs.declared.step.Ban.{Ban}
use Rattle.account_core.specs.Covers.{way}
use Rattle.account_file.specs.declared.record.Record.{Record}
use Rattle.account_file.specs.declared.record.Record.TheVariants as entry
use Rattle.account_file.specs.Spelling.{record_line, IsWritable}
use Rattle.account_write.specs.declared.account.Account.{Account}
use Rattle.account_write.specs.declared.lines.AccountLines.{AccountLines}

-- where each port of a kind goes, from port `first` on, as pairs
abbrev pub pairs_from : PortKind → ℕ → List (ℕ × Bool) → List Pair
pairs_from kind first [] = []
pairs_from kind first (goes ∷ others) = way kind first goes.0 goes.1 ∷ pairs_from kind (first + 1) others

-- the pairs of a matching: of all inputs, in order, and then of all outputs
abbrev pub pairs_of_matching : Matching → List Pair
pairs_of_matching matching = pairs_from Input 0 matching.inputs ++ pairs_from Output 0 matching.outputs

-- the lines of a log
abbrev pub log_records : Log → List Record
log_records log = map (λ line. entry.Line line) log.lines

-- the lines of records
abbrev pub lines_of : List Record → List ℕ
lines_of records = flat_map record_line records

-- a fact, and after one that holds the lines of its log
abbrev pub shown_records : Claim → Evidence → List Record
shown_records claim (evidence.Fails bits) = entry.Fact (head.Fails claim bits) ∷ []
shown_records claim (evidence.Holds log) = entry.Fact (head.Holds claim) ∷ log_records log

-- a fact as an account has it, with its log if it holds
abbrev pub fact_records : Fact → List Record
fact_records fact = shown_records fact.claim fact.evidence

-- the account of a match
abbrev pub match_records : Matching → List Log → List Record
match_records matching logs =
    entry.Header ∷ entry.Conclusion (conclusion.Match (pairs_of_matching matching)) ∷ flat_map log_records logs

-- the account of none, by facts and bans of which one has no pairs
abbrev pub refusal_records : List Fact → List Ban → ℕ → List Record
refusal_records facts bans number =
    entry.Header
    ∷ (flat_map fact_records facts
    ++ (map (λ ban. entry.Ban ban) bans ++ entry.Conclusion (conclusion.NoneBan number) ∷ []))

-- the account of none, by the numbers of ports
abbrev pub none_ports_records : List Record
none_ports_records = entry.Header ∷ entry.Conclusion conclusion.NonePorts ∷ []

-- the whole text of an account: the lines of its records, and the last line
abbrev pub account_of : List Record → List ℕ
account_of records = lines_of records ++ record_line entry.End

-- the record of a fact
abbrev pub head_of : Claim → Evidence → Record
head_of claim (evidence.Fails bits) = entry.Fact (head.Fails claim bits)
head_of claim (evidence.Holds log) = entry.Fact (head.Holds claim)

-- the lines of a fact's log: none where the claim fails
abbrev pub log_lines : Evidence → List LogLine
log_lines (evidence.Fails bits) = []
log_lines (evidence.Holds log) = log.lines

-- records, the lines of a log, those of facts, of logs and of bans, and records again
abbrev pub in_order : List Record → List LogLine → List Fact → List Log → List Ban → List Record → List Record
in_order front log facts logs bans back =
    front
    ++ (map (λ line. entry.Line line) log
    ++ (flat_map fact_records facts
    ++ (flat_map log_records logs
    ++ (map (λ ban. entry.Ban ban) bans ++ back))))

-- the records of an account, up to the last line
abbrev pub records_of : Account → List Record
records_of account = in_order account.front [] account.facts account.logs account.bans account.back

-- the records of an account that are still to be printed: what is left of a log that was begun comes before the next
-- fact
abbrev pub records_left : AccountLines → List Record
records_left lines = in_order lines.front.now lines.log.now lines.facts.now lines.logs.now lines.bans.now lines.back.now

-- how many steps are left: one for each record, and one for each log that is to be begun
abbrev pub steps_left : AccountLines → ℕ
steps_left lines = length (records_left lines) + length lines.logs.now

-- One step was taken: a line was printed, or a log was begun.
pub record Steps (old new : AccountLines) (before after : List ℕ) : Type 0 where
  -- what was printed and what is left are the same text as before
  pub lines : after ++ lines_of (records_left new) ≡ before ++ lines_of (records_left old)
  -- what was printed can be read back
  pub writable : All IsWritable (records_left new) → All IsWritable (records_left old)
  pub fewer : 0 < steps_left old → steps_left new < steps_left old
