-- Closing changes no file.
use Rattle.std.proofs.Common.{rules, arith, ◌∙◌}
use Rattle.check_steps.proofs.judging.judge_open.Goals as goal

pub returns-clause-judges : goal.returns-clause-judges
returns-clause-judges g c =
    let judged = c.in_ok-outcome.ensures.judges in
    record {
      files = λ n. c.close.ensures.files n ∙ c.judge_with_piece.ensures.judges.files n;
      right = judged.right;
      matches = judged.matches;
      refuses = judged.refuses;
      judged = judged.judged;
      clean = search rules;
      last = search (rules, arith);
      failed = search rules;
    }
