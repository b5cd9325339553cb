-- All was gone over, and the output isn't listed.
use Rattle.std.proofs.Common.{ap, arith}
use Rattle.circuits.specs.Netlists.{Net}
use Rattle.fact_tests.proofs.LocalLemmas.{hidden_at}
use Rattle.fact_tests.proofs.local_exchange.shows_exchange.Goals as goal

pub between-requires-clause-there : goal.between-requires-clause-there
between-requires-clause-there c =
    omega (arith, c.requires.there, c.outputs-outputs.ensures.graph.signals, ap (λ (net : Net). net.inputs) c.graph.ensures)

pub returns : goal.returns
returns c =
    λ unlisted. hidden_at c.args.readers.now c.graph.result.now c.outputs-outputs.result.now c.args.output c.args.i c.args.j c.args.inverted c.spread.new.near c.deref.result.now c.signal.result _ c.outputs-outputs.ensures.graph.ordered c.graph.ensures c.outputs-outputs.ensures.value c.requires.output c.deref.ensures.value c.signal.ensures
    (c.in_ok-whole.ensures c.if-not-whole.false) (c.is_unlisted.ensures unlisted)
