use Rattle.std.proofs.Common.{inr}
use Rattle.class_refine.proofs.SettleLemmas.{settles_now}
use Rattle.class_refine.proofs.settling.settle_open.Goals as goal

pub returns-in_default : goal.returns-in_default
returns-in_default c =
    settles_now c.args.grounds.now c.args.book.now c.args.domains.now c.args.way c.requires.may.no_ban (inr (rw c.in_default.is at c.in_ok-exclusion.ensures.none))

pub returns-in-Known : goal.returns-in-Known
returns-in-Known c =
    let why = rw c.in-Known.is at (rw c.in-Some.is at c.in_ok-exclusion.ensures.found) in
    c.delete.ensures c.args.grounds.now c.args.book.now c.requires.may.no_ban why.0 why.1

pub returns-in-Shown : goal.returns-in-Shown
returns-in-Shown c = c.delete_by.ensures c.args.grounds.now (rw c.in-Shown.is at (rw c.in-Some.is at c.in_ok-exclusion.ensures.found))
