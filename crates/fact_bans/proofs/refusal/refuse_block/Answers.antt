use Rattle.std.proofs.Common.{refl}
use Rattle.fact_bans.proofs.MakingLemmas.{made_more, made_one, made_same, makes_err, makes_ok, makes_stop}
use Rattle.fact_bans.proofs.ReferLemmas.{closed_of, nothing_known, nothing_ordered}
use Rattle.fact_bans.proofs.refusal.refuse_block.Goals as goal
use Rattle.ban_book.proofs.BookLemmas.{empty_ban}

pub returns-in_err-refs-clause-makes : goal.returns-in_err-refs-clause-makes
returns-in_err-refs-clause-makes g c =
    makes_err _ _ _ _ _ _ _ _ _ _ _ c.in_err-refs.field-0.0 c.from_residual.ensures.1 (made_same _ _ _ _ c.requires.may) c.in_err-refs.ensures.makes

pub returns-in_default-clause-makes : goal.returns-in_default-clause-makes
returns-in_default-clause-makes g c = makes_ok _ _ _ _ _ _ _ _ _ refl (made_one _ _ _ _ _ _ _ _ c.in_ok-refs.ensures.makes)

pub keep_cover-requires-clause-known : goal.keep_cover-requires-clause-known
keep_cover-requires-clause-known g c = nothing_known c.args.graphs.now

pub keep_cover-requires-clause-ordered : goal.keep_cover-requires-clause-ordered
keep_cover-requires-clause-ordered g c = nothing_ordered

pub keep_cover-requires-clause-closed : goal.keep_cover-requires-clause-closed
keep_cover-requires-clause-closed g c =
    closed_of c.bans_in.new.book _ c.in-Some.refs (rw c.in-Some.is at c.in_ok-refs.ensures.referred)

pub returns-in_err-number-clause-makes : goal.returns-in_err-number-clause-makes
returns-in_err-number-clause-makes g c =
    makes_stop _ _ _ _ _ _ _ _ c.from_residual-in_err-number.ensures.1 (made_more _ _ _ _ _ _ _ _ (made_one _ _ _ _ _ _ _ _ c.in_ok-refs.ensures.makes) c.in_err-number.ensures.more)

pub returns-clause-makes : goal.returns-clause-makes
returns-clause-makes g c =
    makes_ok _ _ _ _ _ _ _ _ _ refl (made_more _ _ _ _ _ _ _ _ (made_one _ _ _ _ _ _ _ _ c.in_ok-refs.ensures.makes) c.in_ok-number.ensures.more)

pub returns-clause-empty : goal.returns-clause-empty
returns-clause-empty g c = empty_ban c.keep_cover.new.book c.in_ok-number.number c.in_ok-number.ensures.covers
