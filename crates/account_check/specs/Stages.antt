-- What a checker keeps of an account.
use Rattle.std.specs.Prelude.{◌≡◌, ◌-◌, Option, None, Some}
use Rattle.net_core.specs.Sides.{Graphs}
use Rattle.account_file.specs.declared.place.Place.{Place}
use Rattle.account_file.specs.declared.place.Place.TheVariants as place
use Rattle.account_check.specs.declared.checker.CheckStage.{CheckStage}
use Rattle.account_check.specs.declared.checker.CheckStage.TheVariants as stage
use Rattle.account_check.specs.declared.verdict.Verdict.{Verdict}
use Rattle.account_check.specs.declared.verdict.Verdict.TheVariants as verdict
use Rattle.account_check.specs.Logs.{OpenFact, Proof, log_count, nothing}

-- what may stand next
abbrev pub place_of : CheckStage → Place
place_of stage.Empty = place.Start
place_of stage.Begun = place.Headed
place_of (stage.Showing log) = place.FactLog
place_of (stage.Proving logs) = place.Logs (log_count logs.proof.matching - logs.proof.closed)
place_of stage.Refusing = place.Logs 0
place_of (stage.Proved logs) = place.Ended
place_of stage.Refused = place.Ended

-- the fact whose log is open
abbrev pub fact_of : CheckStage → Option OpenFact
fact_of (stage.Showing log) = Some log.fact
fact_of other = None

-- the match that the account concludes in
abbrev pub proof_of : CheckStage → Proof
proof_of (stage.Proving logs) = logs.proof
proof_of (stage.Proved logs) = logs.proof
proof_of other = nothing

-- the conclusion
abbrev pub concluded_of : CheckStage → Option Verdict
concluded_of (stage.Proving logs) = Some (verdict.Match logs.proof.matching)
concluded_of stage.Refusing = Some verdict.None
concluded_of (stage.Proved logs) = Some (verdict.Match logs.proof.matching)
concluded_of stage.Refused = Some verdict.None
concluded_of other = None

-- What is kept of an account: logs are of its two circuits, and at the end all logs of a match are closed.
abbrev pub IsStage : Graphs → CheckStage → Type 0
IsStage graphs (stage.Showing log) = log.graphs ≡ graphs
IsStage graphs (stage.Proving logs) = logs.graphs ≡ graphs
IsStage graphs (stage.Proved logs) = (logs.graphs ≡ graphs) × (logs.proof.closed ≡ log_count logs.proof.matching)
IsStage graphs other = Unit {0}

-- What is kept of an account: its stage, and the last logs of facts of its circuits.
pub record IsChecker (graphs : Graphs) (stage : CheckStage) (logs : Graphs) : Type 0 where
  pub stage_is : IsStage graphs stage
  pub logs_are : logs ≡ graphs
