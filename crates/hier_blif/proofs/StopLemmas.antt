-- What a stop says, where it is passed on and where it is answered.
use Rattle.std.proofs.Common.{◌≡◌, Result, Ok, Err, IfErr, sym, subst}
use Rattle.std.specs.Result.{IsErrAnd}
use Rattle.hier_blif.specs.declared.fault.HierFault.{HierFault}
use Rattle.hier_blif.specs.declared.fault.HierStop.{HierStop}
use Rattle.hier_blif.specs.declared.fault.HierStop.TheVariants.{Fault, Memory}
use Rattle.hier_blif.specs.Stops.{IsStopBy}

-- what a fault of a part says of the whole
pub stop_as : (R S : HierFault → Type 0) (why : HierStop) → ((fault : HierFault) → R fault → S fault) → IsStopBy R why → IsStopBy S why
stop_as R S (Fault fault) turn is = turn fault is
stop_as R S Memory turn is = tt

-- and where the stop of the part is passed on
pub stop_passed : {X Y : Type 0} (call : Result X HierStop) (answer : Result Y HierStop) (R S : HierFault → Type 0) (why : HierStop) → call ≡ Err why → IsErrAnd answer (λ e. e ≡ why) → IfErr call (IsStopBy R) → ((fault : HierFault) → R fault → S fault) → IfErr answer (IsStopBy S)
stop_passed call (Ok y) R S why was from is turn = tt
stop_passed call (Err e) R S why was from is turn =
    subst (IsStopBy S) (sym from) (stop_as R S why turn (subst (λ r. IfErr r (IsStopBy R)) was is))

-- a fault that is answered
pub fault_answered : {T : Type 0} (answer : Result T HierStop) (R : HierFault → Type 0) → IfErr answer (IsStopBy R) → (fault : HierFault) → answer ≡ Err (Fault fault) → R fault
fault_answered answer R is fault same = subst (λ r. IfErr r (IsStopBy R)) same is
