-- Where an output goes.
use Rattle.std.proofs.Common.{◌≡◌, ℕ, ◌<◌, ◌&&◌, ◌==◌, Bool, true, List, length, All, Some, refl, subst}
use Rattle.circuits.specs.declared.port.Pair.{Pair}
use Rattle.circuits.specs.declared.port.PortKind.{PortKind}
use Rattle.circuits.specs.declared.port.PortKind.TheVariants.{Input, Output}
use Rattle.net_core.specs.Sides.{Graphs}
use Rattle.claim_core.specs.Images.{is_of, pair_of, same_kind}
use Rattle.claim_core.proofs.ImageLemmas.{found-is}
use Rattle.account_core.specs.Ports.{ports_in, IsKnown}

-- an output's partner exists
is_output : (kind : PortKind) (b : Bool) → (same_kind kind Output && b) ≡ true → kind ≡ Output
is_output Input b e = cc
is_output Output b e = refl

pub partner_there : (graphs : Graphs) (pairs : List Pair) (output : ℕ) (pair : Pair) → All (IsKnown graphs) pairs → pair_of pairs Output output ≡ Some pair → pair.to < length graphs.second.outputs
partner_there graphs pairs output pair known is =
    let found = found-is (IsKnown graphs) (is_of Output output) pairs pair known is in
    subst (λ k. pair.to < ports_in graphs.second k) (is_output pair.kind (pair.from == output) found.1) found.0.to
