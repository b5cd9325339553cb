-- What a hint names.
use Rattle.std.proofs.Common.{arith}
use Rattle.account_trim.proofs.LinkLemmas.{far_hint, low_hint, near_hint}
use Rattle.account_trim.proofs.links.add_hinted.Goals as goal

pub returns-then-hint-places : goal.returns-then-hint-places
returns-then-hint-places c = low_hint c.args.places.now c.args.place c.args.hint c.args.names.now (omega (arith, c.if-hint-places.true))

pub returns-in_ok-push : goal.returns-in_ok-push
returns-in_ok-push c =
    near_hint c.args.places.now c.args.place c.args.hint c.args.names.now c.push.new.self (omega (arith, c.if-hint-places.false))
    (omega (arith, c.if-count-saturating_sub.true, c.saturating_sub.ensures)) c.in_ok-push.ensures.ok

pub returns-else-count-saturating_sub : goal.returns-else-count-saturating_sub
returns-else-count-saturating_sub c =
    far_hint c.args.places.now c.args.place c.args.hint c.args.names.now (omega (arith, c.if-hint-places.false))
    (omega (arith, c.if-count-saturating_sub.false, c.saturating_sub.ensures))
