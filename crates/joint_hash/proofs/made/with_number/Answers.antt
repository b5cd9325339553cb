use Rattle.std.proofs.Common.{sym, subst}
use Rattle.joint_hash.specs.Made.{AreNumbersOf}
use Rattle.joint_hash.proofs.MadeLemmas.{numbers_more}
use Rattle.joint_hash.proofs.made.with_number.Goals as goal

pub returns : goal.returns
returns c =
    subst (AreNumbersOf _) (sym c.in_ok-insert.ensures.keys) (numbers_more c.args.literals.now c.in_ok-all.all.keys c.args.literal c.in_ok-all.ensures)
