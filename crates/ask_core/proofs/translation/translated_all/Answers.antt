-- A line is over dense variables.
use Rattle.std.proofs.Common.{length}
use Rattle.learn_solver.proofs.StartLemmas.{line_clause}
use Rattle.ask_core.proofs.translation.translated_all.Goals as goal
use Rattle.cnf_core.specs.Clauses.{AreKnown}

pub translated-requires-clause-known : goal.translated-requires-clause-known
translated-requires-clause-known c =
    line_clause (AreKnown (length c.args.dense.now.names)) c.args.lines.now c.loop-line.line-index c.line-item.result c.loop-line-test.true c.line-item.is c.requires.known
