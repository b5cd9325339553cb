use Rattle.std.proofs.Common.{ℕ, ◌<◌}
use Rattle.circuits.specs.declared.port.PortKind.{PortKind}
use Rattle.net_core.specs.declared.graphs.Side.{Side}
use Rattle.net_core.specs.declared.graphs.Side.TheVariants.{First, Second}
use Rattle.pair_domains.specs.Trails.{Domained, ports_of}
use Rattle.ban_book.proofs.AlikeLemmas.{none_then}
use Rattle.class_refine.specs.Stable.{HasLeft}
use Rattle.class_refine.proofs.ports.empty_port.Goals as goal

pub returns-in-None-clause-none : goal.returns-in-None-clause-none
returns-in-None-clause-none c =
    let d = c.args.domains.now in
    none_then c.empty_port_on-in-None.result ((kind : PortKind) (port : ℕ) → port < ports_of d.inputs d.outputs kind → HasLeft d Second kind port) ((side : Side) (kind : PortKind) (port : ℕ) → port < ports_of d.inputs d.outputs kind → HasLeft d side kind port) c.empty_port_on-in-None.ensures.none (λ others. λ side kind port below. by_side d (λ k p less. c.in-None.ensures.none k p less) others side kind port below)
  where
    by_side : (d : Domained) → ((kind : PortKind) (port : ℕ) → port < ports_of d.inputs d.outputs kind → HasLeft d First kind port) → ((kind : PortKind) (port : ℕ) → port < ports_of d.inputs d.outputs kind → HasLeft d Second kind port) → (side : Side) (kind : PortKind) (port : ℕ) → port < ports_of d.inputs d.outputs kind → HasLeft d side kind port
    by_side d first second First kind port below = first kind port below
    by_side d first second Second kind port below = second kind port below
