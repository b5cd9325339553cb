-- What a stop says, where it is passed on and where it is answered.
use Rattle.std.proofs.Common.{◌≡◌, ℕ, Result, Ok, Err, IfErr, sym, subst}
use Rattle.std.specs.Result.{IsErrAnd}
use Rattle.net_file.specs.declared.fault.NetFault.{NetFault}
use Rattle.net_file.specs.declared.fault.NetKind.{NetKind}
use Rattle.net_file.specs.declared.fault.NetStop.{NetStop}
use Rattle.net_file.specs.declared.fault.NetStop.TheVariants.{Fault, Memory}
use Rattle.net_file.specs.Stops.{IsStopBy}

-- what a fault of a part says of the whole
pub stop_as : (R S : NetKind → ℕ → Type 0) (why : NetStop) → ((kind : NetKind) (at : ℕ) → R kind at → S kind at) → IsStopBy R why → IsStopBy S why
stop_as R S (Fault fault) turn is = turn fault.kind fault.at is
stop_as R S Memory turn is = tt

-- and where the stop of the part is passed on
pub stop_passed : {X Y : Type 0} (call : Result X NetStop) (answer : Result Y NetStop) (R S : NetKind → ℕ → Type 0) (why : NetStop) → call ≡ Err why → IsErrAnd answer (λ e. e ≡ why) → IfErr call (IsStopBy R) → ((kind : NetKind) (at : ℕ) → R kind at → S kind at) → IfErr answer (IsStopBy S)
stop_passed call (Ok y) R S why was from is turn = tt
stop_passed call (Err e) R S why was from is turn =
    subst (IsStopBy S) (sym from) (stop_as R S why turn (subst (λ r. IfErr r (IsStopBy R)) was is))

-- a fault that is answered
pub fault_answered : {T : Type 0} (answer : Result T NetStop) (R : NetKind → ℕ → Type 0) → IfErr answer (IsStopBy R) → (fault : NetFault) → answer ≡ Err (Fault fault) → R fault.kind fault.at
fault_answered answer R is fault same = subst (λ r. IfErr r (IsStopBy R)) same is
