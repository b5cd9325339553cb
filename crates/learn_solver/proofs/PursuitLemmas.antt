-- A search that goes on from one part of the question to the next.
use Rattle.std.proofs.Common.{◌≡◌, Option, None, Some, Result, IfErr, subst}
use Rattle.std.specs.Result.{IsErrAnd}
use Rattle.cnf_core.specs.declared.stop.Stop.{Stop}
use Rattle.cnf_core.specs.Charges.{Charging}
use Rattle.learn_solver.specs.declared.search.Search.{Search}
use Rattle.learn_solver.specs.declared.verdict.Finding.{Finding}
use Rattle.learn_solver.specs.Searches.{CanGo, HasEnded, HasGone, KeepsClauses}
use Rattle.learn_solver.specs.Solvers.{IsStopped, Solving}
use Rattle.learn_solver.proofs.AdvanceLemmas.{extended_none, extended_twice, stopped_after}
use Rattle.learn_solver.proofs.RunLemmas.{running_again}
use Rattle.learn_solver.proofs.StepLemmas.{passed_on}

-- ---- a search that went on, without an answer so far

pub gone_none : {O : Type 0} {s : Solving} {first : Charging O} {search : Search} → CanGo s first search → HasGone s s first first search None
gone_none {O} {s} {first} {search} can = record { extended = extended_none s first can.asking; asking = can.asking; answer_is = can.running }

pub gone_with : {O : Type 0} {one two : Solving} {first second : Charging O} {mid : Search} {answer back : Option Finding} → HasGone one two first second mid answer → answer ≡ back → HasGone one two first second mid back
gone_with {O} {one} {two} {first} {second} {mid} {answer} {back} gone is = subst (HasGone one two first second mid) is gone

pub gone_on : {O : Type 0} {one two three : Solving} {first second third : Charging O} {mid next : Search} {answer : Option Finding} → HasGone one two first second mid None → HasGone two three second third next answer → HasGone one three first third next answer
gone_on {O} {one} {two} {three} {first} {second} {third} {mid} {next} {answer} so_far gone = record {
  extended = extended_twice one two three first second third so_far.extended gone.extended;
  asking = gone.asking;
  answer_is = gone.answer_is;
}

pub gone_keeping : {O : Type 0} {one two : Solving} {first second : Charging O} {mid next : Search} → HasGone one two first second mid None → KeepsClauses mid next → HasGone one two first second next None
gone_keeping {O} {one} {two} {first} {second} {mid} {next} so_far keeps = record {
  extended = so_far.extended;
  asking = so_far.asking;
  answer_is = running_again two mid next so_far.answer_is keeps;
}

pub can_go : {O : Type 0} {one two : Solving} {first second : Charging O} {mid : Search} → HasGone one two first second mid None → CanGo two second mid
can_go {O} {one} {two} {first} {second} {mid} so_far = record { running = so_far.answer_is; asking = so_far.asking }

-- ---- how it ends

pub ended_with : {O : Type 0} {one two : Solving} {first second : Charging O} {mid : Search} {found : Finding} → HasGone one two first second mid (Some found) → HasEnded one two first second found
ended_with {O} {one} {two} {first} {second} {mid} {found} gone = record { extended = gone.extended; asking = gone.asking; found_is = gone.answer_is }

pub ended_on : {O : Type 0} {one two three : Solving} {first second third : Charging O} {mid : Search} {found : Finding} → HasGone one two first second mid None → HasEnded two three second third found → HasEnded one three first third found
ended_on {O} {one} {two} {three} {first} {second} {third} {mid} {found} so_far ended = record {
  extended = extended_twice one two three first second third so_far.extended ended.extended;
  asking = ended.asking;
  found_is = ended.found_is;
}

pub stopped_on : {O : Type 0} {one two : Solving} {first second : Charging O} {mid : Search} {T : Type 0} (three : Solving) (third : Charging O) (r : Result T Stop) (stop : Stop) → HasGone one two first second mid None → IsStopped two three second third stop → IsErrAnd r (λ e. e ≡ stop) → IfErr r (IsStopped one three first third)
stopped_on {O} {one} {two} {first} {second} {mid} {T} three third r stop so_far stopped is =
    passed_on r stop (IsStopped one three first third) is (stopped_after one two three first second third stop so_far.extended stopped)
