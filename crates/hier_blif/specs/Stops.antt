-- What a stop says of a file of models, and what a check of it finds.
use Rattle.std.specs.Prelude.{◌≡◌, List, [], ◌∷◌, Result, Ok, Err, Option, None, Some}
use Rattle.hier_blif.specs.declared.fault.HierFault.{HierFault}
use Rattle.hier_blif.specs.declared.fault.HierStop.{HierStop}
use Rattle.hier_blif.specs.declared.fault.HierStop.TheVariants.{Fault, Memory}

-- a fault is one of these; running out of memory says nothing of the file
abbrev pub IsStopBy : (HierFault → Type 0) → HierStop → Type 0
IsStopBy IsFault (Fault fault) = IsFault fault
IsStopBy IsFault Memory = Unit {0}

-- the first of these, if there is one
abbrev pub first_of : List HierFault → Option HierFault
first_of [] = None
first_of (fault ∷ faults) = Some fault

-- there is none of these faults, or the first of them is named
abbrev pub Finds : {T : Type 0} → List HierFault → Result T HierStop → Type 0
Finds faults (Ok value) = faults ≡ []
Finds faults (Err stop) = IsStopBy (λ fault. first_of faults ≡ Some fault) stop
