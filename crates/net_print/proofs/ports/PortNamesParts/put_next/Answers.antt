-- The first of the names that are left was printed, after a blank.
use Rattle.std.proofs.Common.{◌∷◌, refl}
use Rattle.std.specs.Fmt.{decimal}
use Rattle.net_print.specs.BlifLines.{names_text}
use Rattle.net_print.proofs.Steps.{next_of_range}
use Rattle.net_print.proofs.ports.PortNamesParts.put_next.Goals as goal

pub returns-clause-same : goal.returns-clause-same
returns-clause-same c =
    let ports = c.args.self.now in
    next_of_range (names_text ports.letter) c.args.out.now.items c.put_port_name.new.out.items (32 ∷ ports.letter ∷ decimal ports.next) ports.next ports.count c.if-self.false (λ rest. refl) c.in_ok-put_port_name.ensures.ok
