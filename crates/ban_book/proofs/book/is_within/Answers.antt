use Rattle.std.proofs.Common.{subst, sym, All}
use Rattle.std.specs.Prelude.{Contains}
use Rattle.ban_book.proofs.book.is_within.Goals as goal

pub returns : goal.returns
returns c = let h = c.deref.ensures in (λ is. record { among = subst (All (Contains c.args.pairs.now)) h (c.are_among.ensures.0 is) }, λ within. c.are_among.ensures.1 (subst (All (Contains c.args.pairs.now)) (sym h) within.among))
