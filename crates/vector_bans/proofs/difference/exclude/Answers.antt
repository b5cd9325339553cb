use Rattle.std.proofs.Common.{ℕ}
use Rattle.std.proofs.lemmas.Result.{IfOk-weaker}
use Rattle.ban_book.specs.Covering.{Covers}
use Rattle.fact_bans.proofs.MakingLemmas.{made_same, makes_stop}
use Rattle.vector_bans.proofs.difference.exclude.Goals as goal
use Rattle.ban_book.proofs.BookLemmas.{covers_wider}

pub returns-in_err-shown-clause-makes : goal.returns-in_err-shown-clause-makes
returns-in_err-shown-clause-makes g c =
    makes_stop _ _ _ _ _ _ _ _ c.from_residual.ensures.1 (made_same _ _ _ _ c.requires.may)

pub returns-clause-covers : goal.returns-clause-covers
returns-clause-covers g c = λ assigned all extends.
    IfOk-weaker c.keep_shown.result (Covers c.keep_shown.new.book c.in_ok-shown.shown.pairs) (Covers c.keep_shown.new.book assigned) (λ (number : ℕ). covers_wider c.keep_shown.new.book c.in_ok-shown.shown.pairs assigned number (c.in_ok-shown.ensures.assigned assigned all extends)) c.keep_shown.ensures.covers
