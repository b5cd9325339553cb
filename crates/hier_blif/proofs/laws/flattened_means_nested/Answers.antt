-- By any numbering of the names.
use Rattle.std.proofs.Common.{subst}
use Rattle.circuits.specs.Functions.{Computes}
use Rattle.circuits.specs.Levels.{IsAcyclic}
use Rattle.hier_blif.proofs.FlatLemmas.{flat_function}
use Rattle.hier_blif.proofs.WellNamedLemmas.{well_named}
use Rattle.hier_blif.proofs.laws.flattened_means_nested.Goals as goal

pub returns : goal.returns
returns c models top depth circuit graph named held deep flattened acyclic computes =
    flat_function models top depth flattened.signal graph (record {
      well = well_named models named;
      held = held;
      deep = deep;
      numbering = flattened.numbered;
    }) (subst IsAcyclic flattened.is acyclic) (subst (Computes graph) flattened.is computes)
