-- What was fed settles the account, or a line of it is bad.
use Rattle.std.proofs.Common.{rules}
use Rattle.check_steps.proofs.JudgingLemmas.{rejected_by, settled_by, stopped_by}
use Rattle.check_steps.proofs.judging.judge_unread.Goals as goal

pub settle-requires : goal.settle-requires
settle-requires g c =
    let fed = c.in-Ok.ensures c.requires.begun.0 c.requires.begun.1 in
    (c.requires.begun.0, fed.taken.0, fed.taken.1)

pub returns-in-Ok : goal.returns-in-Ok
returns-in-Ok g c graphs begun =
    settled_by _ graphs _ _ _ _ c.settle.result (c.in-Ok.ensures graphs begun) (c.settle.ensures.verdict graphs) (c.settle.ensures.matches graphs) c.settle.ensures.judged c.settle.ensures.no_fault

pub returns-in-Err-Bad : goal.returns-in-Err-Bad
returns-in-Err-Bad g c graphs begun = rejected_by _ graphs _ _ _ c.feed_rest.result _ _ (c.feed_rest.ensures graphs begun) (search rules)

pub returns-in-Err-Stop : goal.returns-in-Err-Stop
returns-in-Err-Stop g c graphs begun = stopped_by _ graphs _ _ _ c.feed_rest.result _ (c.feed_rest.ensures graphs begun) (search rules)
