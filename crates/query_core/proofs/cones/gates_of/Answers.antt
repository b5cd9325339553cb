-- The gates that the graph of the cone's side gives.
use Rattle.std.proofs.Common.{subst}
use Rattle.circuits.specs.Netlists.{Net}
use Rattle.claim_core.specs.ConeClauses.{AreReached}
use Rattle.query_core.proofs.cones.gates_of.Goals as goal

pub returns : goal.returns
returns c =
    subst (λ (net : Net). AreReached net c.args.cone.now.output c.in_ok-gates.gates.items) c.side.ensures (record {
      ascending = c.in_ok-gates.ensures.ascending;
      there = c.in_ok-gates.ensures.there;
      reached = c.in_ok-gates.ensures.reached;
    })
