-- Where a match leads that a checker takes.
use Rattle.std.proofs.Common.{◌≡◌, ◌-◌, List, IsSome, ap, ◌∙◌, arith}
use Rattle.circuits.specs.declared.port.Pair.{Pair}
use Rattle.net_core.specs.Sides.{Graphs}
use Rattle.net_core.specs.declared.matching.Matching.{Matching}
use Rattle.account_core.specs.declared.conclusion.Conclusion.TheVariants as conclusion
use Rattle.account_core.specs.Given.{Given}
use Rattle.account_file.specs.declared.place.Place.TheVariants as place
use Rattle.account_file.specs.declared.record.Record.TheVariants as entry
use Rattle.account_file.specs.Order.{logs_asked, next_place}
use Rattle.account_check.specs.declared.checker.CheckStage.{CheckStage}
use Rattle.account_check.specs.declared.checker.CheckStage.TheVariants as stage
use Rattle.account_check.specs.Logs.{log_count, unproved}
use Rattle.account_check.specs.Accounts.{Account, after}
use Rattle.account_check.specs.Drops.{Dropped}
use Rattle.account_check.specs.Conclusions.{matching_of, AreInOrder}
use Rattle.account_check.specs.Proofs.{MatchLogs}
use Rattle.account_check.specs.Stages.{concluded_of, fact_of, place_of, proof_of}
use Rattle.account_check.proofs.PairLemmas.{outputs_counted}

-- the account that a checker keeps
abbrev pub kept : Graphs → Given → Dropped → CheckStage → Account
kept graphs given dropped stage = record {
  graphs = graphs;
  place = place_of stage;
  given = given;
  dropped = dropped;
  fact = fact_of stage;
  proof = proof_of stage;
  concluded = concluded_of stage;
}

-- a match, whose logs follow
pub match_after : (graphs : Graphs) (given : Given) (dropped : Dropped) (now : CheckStage) (logs : MatchLogs) (matching : Matching) (pairs : List Pair) → IsSome (next_place (place_of now) (entry.Conclusion (conclusion.Match pairs))) → logs ≡ record { graphs = graphs; proof = unproved matching } → matching ≡ matching_of graphs.first.inputs pairs → AreInOrder graphs.first pairs → kept graphs given dropped (stage.Proving logs) ≡ after (kept graphs given dropped now) (entry.Conclusion (conclusion.Match pairs))
match_after graphs given dropped stage.Begun logs matching pairs may made is order =
    let m = matching_of graphs.first.inputs pairs in
    let count : log_count m - 0 ≡ logs_asked (conclusion.Match pairs) = omega (arith, outputs_counted graphs.first pairs order) in
    ap (λ (l : MatchLogs). kept graphs given dropped (stage.Proving l)) made
    ∙ (ap (λ (x : Matching). kept graphs given dropped (stage.Proving (record { graphs = graphs; proof = unproved x }))) is
    ∙ ap (λ n. record (kept graphs given dropped (stage.Proving (record { graphs = graphs; proof = unproved m }))) { place = place.Logs n }) count)
match_after graphs given dropped other logs matching pairs may made is order = cc
