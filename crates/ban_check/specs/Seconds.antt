-- The ports of the second circuit to which pairs of a kind go.
use Rattle.std.specs.Prelude.{ℕ, List, [], ◌∷◌, if◌then◌else◌}
use Rattle.circuits.specs.declared.port.Pair.{Pair}
use Rattle.circuits.specs.declared.port.PortKind.{PortKind}
use Rattle.claim_core.specs.Images.{same_kind}

-- the partners, in the second circuit, of the inputs that are paired, or of the outputs
abbrev pub seconds_of : PortKind → List Pair → List ℕ
seconds_of kind [] = []
seconds_of kind (pair ∷ pairs) =
    if same_kind pair.kind kind then pair.to ∷ seconds_of kind pairs else seconds_of kind pairs
