-- Before its first byte no record of an account was taken.
use Rattle.account_check.proofs.CheckingLemmas.{begun}
use Rattle.account_check.proofs.pieces.AccountCheck.new.Goals as goal

pub returns : goal.returns
returns c =
    begun c.args.graphs.now c.new-2.result c.in_ok-checker.checker c.new-2.ensures.begun c.new-2.ensures.more c.new-2.ensures.no_fault c.in_ok-checker.ensures
