-- The records that were taken stay so where more bytes come.
use Rattle.std.proofs.Common.{◌++◌, false}
use Rattle.account_check.specs.declared.verdict.CheckStop.TheVariants.{Memory}
use Rattle.account_check.specs.Checking.{TakesAll}
use Rattle.account_check.proofs.CheckingLemmas.{fed, handed}
use Rattle.account_check.proofs.pieces.feed.Goals as goal

pub take_all-requires : goal.take_all-requires
take_all-requires c =
    let under_way = c.requires.under_way in
    (false, under_way.0, under_way.1 ++ c.args.piece.now, fed under_way.0 under_way.1 c.args.piece.now _ _ c.args.reader.now c.feed.new.self c.args.checker.now c.in_ok-feed.ensures.reads c.in_ok-feed.ensures.ok under_way.2)

pub returns : goal.returns
returns c graphs bytes so_far =
    c.take_all.ensures false graphs (bytes ++ c.args.piece.now) (fed graphs bytes c.args.piece.now _ _ c.args.reader.now c.feed.new.self c.args.checker.now c.in_ok-feed.ensures.reads c.in_ok-feed.ensures.ok so_far)

pub returns-in_err-feed : goal.returns-in_err-feed
returns-in_err-feed c graphs bytes so_far =
    handed (TakesAll false graphs (bytes ++ c.args.piece.now) c.feed.new.self c.args.checker.now) Memory c.from_residual.result (λ more. tt) c.from_residual.ensures.1
