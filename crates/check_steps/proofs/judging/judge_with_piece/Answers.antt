-- Whatever bytes the account has, a refusal of them is right.
use Rattle.check_steps.proofs.JudgingLemmas.{judged_by}
use Rattle.check_steps.proofs.judging.judge_with_piece.Goals as goal

pub judge_unread-requires-clause-begun : goal.judge_unread-requires-clause-begun
judge_unread-requires-clause-begun g c = (c.args.graphs.now, c.in_ok-check.ensures)

pub returns-clause-judges : goal.returns-clause-judges
returns-clause-judges g c = judged_by _ _ _ _ _ c.first-first.ensures.sound c.second-second.ensures.sound (c.judge_unread.ensures c.args.graphs.now c.in_ok-check.ensures)

pub returns-clause-reading : goal.returns-clause-reading
returns-clause-reading g c = (c.judge_unread.ensures c.args.graphs.now c.in_ok-check.ensures).mode
