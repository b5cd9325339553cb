use Rattle.std.proofs.Common.{◌+◌, below_more, subst, ◌∙◌, arith}
use Rattle.circuits.specs.Literals.{vector_of}
use Rattle.circuits.proofs.MatchLaws.{count-few}
use Rattle.query_core.specs.Ledgers.{charging_of}
use Rattle.learn_solver.specs.Solvers.{IsStopped}
use Rattle.learn_solver.proofs.AdvanceLemmas.{extended_twice, stopped_after}
use Rattle.learn_solver.proofs.StepLemmas.{passed_on}
use Rattle.table_oracle.specs.Splits.{IsExcluded, clauses_in, solving_of}
use Rattle.table_oracle.proofs.SplitLemmas.{all_by_codes, all_still, begun, still_excluded}
use Rattle.table_oracle.proofs.splitting.Splitting.exclude_of.Goals as goal

pub returns-in_err-exclude-clause-stop : goal.returns-in_err-exclude-clause-stop
returns-in_err-exclude-clause-stop c =
    let base = c.args.self.now.base in
    let l = c.loop-code in
    let one = solving_of base c.args.lines.now.items in
    let three = solving_of base c.exclude.new.lines.items in
    let stop = c.in_err-exclude.field-0.0 in
    passed_on c.from_residual-in_err-exclude.result stop (IsStopped one three (charging_of c.args.ledger.now) (charging_of c.exclude.new.ledger)) c.from_residual-in_err-exclude.ensures.1 (stopped_after one (solving_of base l.lines.items) three (charging_of c.args.ledger.now) (charging_of l.ledger) (charging_of c.exclude.new.ledger) stop l.invariant.extended c.in_err-exclude.ensures.stop)

pub loop-code-preserved : goal.loop-code-preserved
loop-code-preserved c =
    let base = c.args.self.now.base in
    let l = c.loop-code in
    let bits = c.args.bits in
    let mid = l.lines.items in
    let new = c.exclude.new.lines.items in
    let now = c.in_ok-exclude.ensures in
    record {
      extended = extended_twice (solving_of base c.args.lines.now.items) (solving_of base mid) (solving_of base new) (charging_of c.args.ledger.now) (charging_of l.ledger) (charging_of c.exclude.new.ledger) l.invariant.extended now.extended;
      asking = now.asking;
      closed = λ less. all_still base mid new (charging_of l.ledger) (charging_of c.exclude.new.ledger) (bits + 1) now.extended (l.invariant.closed less);
      excluded = below_more (λ code. IsExcluded (clauses_in base new) (vector_of bits code)) l.code (λ code below. still_excluded base mid new (charging_of l.ledger) (charging_of c.exclude.new.ledger) (vector_of bits code) now.extended (l.invariant.excluded code below)) (subst (IsExcluded (clauses_in base new)) (c.deref.ensures.value ∙ c.in_ok-beginning.ensures) now.excluded);
    }

pub returns-clause-excluded : goal.returns-clause-excluded
returns-clause-excluded c =
    let l = c.loop-code in
    all_by_codes (clauses_in c.args.self.now.base l.lines.items) c.args.bits (λ code below. l.invariant.excluded code (omega (arith, below, count-few c.args.bits l.code (omega (arith, c.requires.within, c.requires.splitting.small)) c.loop-code-test.false)))

pub exclude-requires-clause-beginning : goal.exclude-requires-clause-beginning
exclude-requires-clause-beginning c =
    begun c.args.self.now c.loop-code.lines.items c.args.bits c.loop-code.code c.deref.result.now (c.deref.ensures.value ∙ c.in_ok-beginning.ensures) c.requires.within c.loop-code.invariant.closed
