use Rattle.std.proofs.Common.{arith}
use Rattle.query_core.specs.Ledgers.{charging_of}
use Rattle.learn_solver.specs.Solvers.{IsStopped}
use Rattle.learn_solver.proofs.AdvanceLemmas.{extended_twice, stopped_after}
use Rattle.learn_solver.proofs.StepLemmas.{passed_on}
use Rattle.table_oracle.specs.Splits.{solving_of}
use Rattle.table_oracle.proofs.splitting.Splitting.exclude_all.Goals as goal

pub loop-bits-preserved : goal.loop-bits-preserved
loop-bits-preserved c =
    let base = c.args.self.now.base in
    let l = c.loop-bits in
    let now = c.in_ok-exclude_of-2.ensures in
    record {
      within = omega (arith, l.invariant.within);
      extended = extended_twice (solving_of base c.args.lines.now.items) (solving_of base l.lines.items) (solving_of base c.exclude_of-in-loop-bits.new.lines.items) (charging_of c.args.ledger.now) (charging_of l.ledger) (charging_of c.exclude_of-in-loop-bits.new.ledger) l.invariant.extended now.extended;
      asking = now.asking;
      excluded = now.excluded;
    }

pub returns-in_err-exclude_of-2-clause-stop : goal.returns-in_err-exclude_of-2-clause-stop
returns-in_err-exclude_of-2-clause-stop c =
    let base = c.args.self.now.base in
    let l = c.loop-bits in
    let one = solving_of base c.args.lines.now.items in
    let three = solving_of base c.exclude_of-in-loop-bits.new.lines.items in
    let after = charging_of c.exclude_of-in-loop-bits.new.ledger in
    let stop = c.in_err-exclude_of-2.field-0.0 in
    passed_on c.from_residual-in_err-exclude_of-2.result stop (IsStopped one three (charging_of c.args.ledger.now) after) c.from_residual-in_err-exclude_of-2.ensures.1 (stopped_after one (solving_of base l.lines.items) three (charging_of c.args.ledger.now) (charging_of l.ledger) after stop l.invariant.extended c.in_err-exclude_of-2.ensures.stop)
