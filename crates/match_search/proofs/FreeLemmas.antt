-- Ports of which a pair is assigned.
use Rattle.std.proofs.Common.{◌<◌, ℕ, List, Option, None, Some, arith}
use Rattle.std.specs.Prelude.{IfNone}
use Rattle.circuits.specs.declared.port.Pair.{Pair}
use Rattle.circuits.specs.declared.port.PortKind.{PortKind}
use Rattle.circuits.specs.declared.port.PortKind.TheVariants.{Input, Output}
use Rattle.net_core.specs.Sides.{Graphs}
use Rattle.net_core.specs.declared.graphs.Side.{Side}
use Rattle.net_core.specs.declared.graphs.Side.TheVariants.{First}
use Rattle.account_core.specs.Assigned.{IsOf, IsTaken, IsWhole}
use Rattle.ban_book.proofs.BlockListLemmas.{any_of_contained}
use Rattle.pair_domains.specs.declared.entry.Entry.{Entry}
use Rattle.pair_domains.specs.Trails.{IsAssignedAt, assigned_in}
use Rattle.pair_domains.proofs.EntryLemmas.{of_at}
use Rattle.pair_search.specs.ConflictSets.{FitPorts}
use Rattle.account_core.specs.declared.ports.Port.{Port}

-- a port of an assigned pair is taken
pub taken_of : (es : List Entry) (side : Side) (kind : PortKind) (port : ℕ) (p : Pair) → IsAssignedAt es side kind port p → IsTaken side (assigned_in es) kind port
taken_of es side kind port p is =
    let at = of_at side kind port p is.at in
    any_of_contained (IsOf side kind port) (assigned_in es) p is.assigned (record { kind_is = at.0; port_is = at.1 })

-- all ports of the first circuit are taken
whole_of : (graphs : Graphs) (n m : ℕ) (assigned : List Pair) → FitPorts graphs n m → ((port : ℕ) → port < n → IsTaken First assigned Input port) → ((port : ℕ) → port < m → IsTaken First assigned Output port) → IsWhole graphs assigned
whole_of graphs n m assigned fit inputs outputs Input port below = inputs port (omega (arith, below, fit.inputs_are))
whole_of graphs n m assigned fit inputs outputs Output port below = outputs port (omega (arith, below, fit.outputs_are))

-- where no input is answered, and all outputs are taken, all ports are
pub whole_if : (n m : ℕ) (assigned : List Pair) (found : Option Port) → IfNone found ((port : ℕ) → port < n → IsTaken First assigned Input port) → ((port : ℕ) → port < m → IsTaken First assigned Output port) → IfNone found ((graphs : Graphs) → FitPorts graphs n m → IsWhole graphs assigned)
whole_if n m assigned None inputs outputs = λ graphs fit. whole_of graphs n m assigned fit inputs outputs
whole_if n m assigned (Some port) inputs outputs = tt
