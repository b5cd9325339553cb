use Rattle.std.proofs.Common.{false}
use Rattle.circuits.specs.declared.port.Pair.{Pair}
use Rattle.circuits.specs.declared.port.PortKind.TheVariants.{Input}
use Rattle.pair_domains.specs.Trails.{assigned_in}
use Rattle.pair_search.proofs.PivotLemmas.{assigned_pair_of, lent_assigned}
use Rattle.pair_search.proofs.resolution.assigned_at.Goals as goal

abbrev no_pair : Pair
no_pair = record { kind = Input; from = 0; to = 0; flip = false }

pub returns-clause-assigned : goal.returns-clause-assigned
returns-clause-assigned c =
    lent_assigned (assigned_in c.args.domains.now.entries) c.pairs.result.now c.args.index no_pair c.pairs.ensures.value c.requires

pub returns-clause-known : goal.returns-clause-known
returns-clause-known c =
    let d = c.args.domains.now in
    assigned_pair_of d.inputs d.outputs d.entries _ c.entries-lawful.ensures.lawful (lent_assigned (assigned_in d.entries) c.pairs.result.now c.args.index no_pair c.pairs.ensures.value c.requires)
