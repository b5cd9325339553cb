-- Why there is no operand: no delta, and one that is too small or greater than the literal.
use Rattle.aiger_reader.proofs.PairLemmas.{no_operand}
use Rattle.aiger_reader.proofs.deltas.next_operand.Goals as goal

pub returns-in_err-delta-clause-none : goal.returns-in_err-delta-clause-none
returns-in_err-delta-clause-none c =
    rw c.from_residual.ensures (λ a rest begins. c.in_err-delta.ensures.none begins.delta rest begins.read)

pub returns-clause-none : goal.returns-clause-none
returns-clause-none c =
    no_operand c.literal_below.result c.args.least c.args.literal c.in_ok-delta.delta c.args.cursor.now.bytes c.next_delta.new.cursor.bytes c.literal_below.ensures c.in_ok-delta.ensures.delta
