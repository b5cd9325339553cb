use Rattle.std.proofs.Common.{sym, subst}
use Rattle.account_check.specs.Checking.{HasTaken}
use Rattle.account_check.proofs.pieces.AccountCheck.finish.Goals as goal

pub returns-clause-proved : goal.returns-clause-proved
returns-clause-proved c graphs bytes matching has is =
    let inside = subst (HasTaken graphs bytes) (sym c.self.view_is) has in
    c.finish.ensures.proved graphs bytes matching inside.so_far is
