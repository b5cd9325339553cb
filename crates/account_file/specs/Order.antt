-- What may stand after what in an account (this project's format): the header; facts and bans in any order, after a
-- fact that holds the lines of its log, and drops between them; a conclusion; the logs that prove it; the end.
use Rattle.std.specs.Prelude.{◌≡◌, ℕ, ◌-◌, ◌*◌, ◌==◌, Bool, true, false, List, [], ◌∷◌, ◌++◌, count_by, fold, Option, None, Some, IsSome, option_and_then}
use Rattle.std.specs.Prelude.{if◌then◌else◌}
use Rattle.circuits.specs.declared.port.Pair.{Pair}
use Rattle.circuits.specs.declared.port.PortKind.{PortKind}
use Rattle.circuits.specs.declared.port.PortKind.TheVariants.{Input, Output}
use Rattle.account_core.specs.declared.conclusion.Conclusion.{Conclusion}
use Rattle.account_core.specs.declared.conclusion.Conclusion.TheVariants.{NonePorts, NoneBan, Match}
use Rattle.account_core.specs.declared.fact.FactHead.TheVariants.{Fails, Holds}
use Rattle.account_file.specs.declared.record.Record.{Record}
use Rattle.account_file.specs.declared.record.Record.TheVariants as record_of
use Rattle.account_file.specs.declared.place.Place.{Place}
use Rattle.account_file.specs.declared.place.Place.TheVariants.{Start, Headed, FactLog, Logs, Ended}

-- ports of this kind are outputs
abbrev pub is_output_kind : PortKind → Bool
is_output_kind Input = false
is_output_kind Output = true

-- a pair is of two outputs
abbrev pub is_output : Pair → Bool
is_output pair = is_output_kind pair.kind

-- how many logs a conclusion asks for: a match two for each pair of outputs, one for either value of the output
abbrev pub logs_asked : Conclusion → ℕ
logs_asked NonePorts = 0
logs_asked (NoneBan ban) = 0
logs_asked (Match pairs) = 2 * count_by is_output pairs

-- how many logs are left after a line of a log: the empty clause ends a log
abbrev pub logs_after : {X : Type 0} → ℕ → List X → ℕ
logs_after {X} logs [] = logs - 1
logs_after {X} logs (literal ∷ clause) = logs

-- the same where the log is that of a fact
abbrev pub place_in_log : {X : Type 0} → List X → Place
place_in_log {X} [] = Headed
place_in_log {X} (literal ∷ clause) = FactLog

-- where an account stands after a record that may stand there
abbrev pub next_place : Place → Record → Option Place
next_place Start record_of.Header = Some Headed
next_place Headed (record_of.Fact (Fails claim bits)) = Some Headed
next_place Headed (record_of.Fact (Holds claim)) = Some FactLog
next_place Headed (record_of.Ban ban) = Some Headed
next_place Headed (record_of.DropFact fact) = Some Headed
next_place Headed (record_of.DropBan ban) = Some Headed
next_place Headed (record_of.Conclusion conclusion) = Some (Logs (logs_asked conclusion))
next_place FactLog (record_of.Line line) = Some (place_in_log line.clause)
next_place (Logs logs) (record_of.Line line) = if logs == 0 then None else Some (Logs (logs_after logs line.clause))
next_place (Logs logs) record_of.End = if logs == 0 then Some Ended else None
next_place place entry = None

-- the same, where the records before it may stand as they do
abbrev pub place_after_one : Option Place → Record → Option Place
place_after_one place entry = option_and_then (λ p. next_place p entry) place

-- where an account stands after records, if each may stand where it does
abbrev pub place_after : List Record → Option Place
place_after records = fold place_after_one (Some Start) records

-- each record may stand where it does
abbrev pub AreInOrder : List Record → Type 0
AreInOrder records = IsSome (place_after records)

-- a record may stand after others
abbrev pub MayStand : List Record → Record → Type 0
MayStand before entry = AreInOrder (before ++ entry ∷ [])

-- the last of the records is the end
abbrev pub HaveEnded : List Record → Type 0
HaveEnded records = place_after records ≡ Some Ended
