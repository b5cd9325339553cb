-- The netlist that was reduced, and its ledger where the allowance was spent.
use Rattle.std.proofs.Common.{◌≤◌, Option, length, sym, ap, subst}
use Rattle.std.specs.Option.{IfSome}
use Rattle.circuits.specs.Netlists.{Net}
use Rattle.query_core.specs.Ledgers.{Ledgered}
use Rattle.port_moves.specs.Restored.{AreEqual}
use Rattle.sweep.specs.Comparing.{IsSpentWork}
use Rattle.sweep.specs.Exposed.{exposed}
use Rattle.sweep.specs.Swept.{IsLeft}
use Rattle.sweep.proofs.ReducingLemmas.{equal_of, left_of, size_of}
use Rattle.sweep.proofs.reducing.reduce.Goals as goal
use Rattle.sweep.proofs.reducing.reduce.Goals.{then-is_whole, else-is_whole}

pub returns-clause-functions : goal.returns-clause-functions
returns-clause-functions c =
    let net = c.args.net.now.graph in
    subst (AreEqual net) (sym c.in_ok-named.ensures.graph)
    (equal_of net c.in_ok-graph.field-0.graph c.in_ok-graph.ensures.ordered.ordered c.in_ok-graph.ensures.sound.ordered c.in_ok-graph.ensures.reduced.reduces)

pub returns-clause-size : goal.returns-clause-size
returns-clause-size c =
    let net = c.args.net.now.graph in
    subst (λ (n : Net). length n.gates ≤ length net.gates) (sym c.in_ok-named.ensures.graph)
    (size_of net c.in_ok-graph.field-0.graph c.in_ok-graph.ensures.ordered.ordered c.in_ok-graph.ensures.sound.ordered c.in_ok-graph.ensures.reduced.reduces)

pub returns-clause-left : goal.returns-clause-left
returns-clause-left c =
    let net = c.args.net.now.graph in
    let allowance = c.args.allowance in
    let after = c.reduced_graph.new.ledger in
    elim c.if-is_whole.branch [
      | then-is_whole w ↦ subst (λ (o : Option Ledgered). IfSome o (IsLeft net allowance)) (sym w.result-is) tt
      | else-is_whole w ↦
          let spent : IsSpentWork (exposed net) c.new-ledger.result.budget after = c.in_ok-graph.ensures.reduced.spent w.if-is_whole.false in
          let here = left_of net allowance after (subst (λ n. IsSpentWork (exposed net) n after) (ap (λ (l : Ledgered). l.budget) c.new-ledger.ensures) spent) in
          subst (λ (o : Option Ledgered). IfSome o (IsLeft net allowance)) (sym w.result-is) here
    ]
