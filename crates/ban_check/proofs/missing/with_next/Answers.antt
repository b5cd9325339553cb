use Rattle.ban_check.proofs.MissingLemmas.{next_held, next_missing}
use Rattle.ban_check.proofs.BoolLemmas.{untrue}
use Rattle.ban_check.proofs.missing.with_next.Goals as goal

pub returns-then-has : goal.returns-then-has
returns-then-has c = next_held c.args.pairs.now c.args.pair c.args.missing (c.has.ensures.0 c.if-has.true)

pub returns : goal.returns
returns c = next_missing c.args.pairs.now c.args.pair c.args.missing c.with_missing.result (untrue c.has.result _ c.if-has.false c.has.ensures) c.with_missing.ensures
