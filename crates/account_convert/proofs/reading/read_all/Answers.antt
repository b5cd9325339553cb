-- All bytes are read, and then all records.
use Rattle.std.proofs.Common.{[], IfErr}
use Rattle.account_convert.specs.Reading.{IsStop}
use Rattle.account_convert.proofs.ReadLemmas.{begun, handed}
use Rattle.account_convert.proofs.reading.read_all.Goals as goal

pub take_all-requires : goal.take_all-requires
take_all-requires g c =
    let account = c.args.account.now in
    let fed = c.in_ok-feed.ensures.reads [] [] c.new-reader.ensures.begun in
    (account, c.args.taker.now, begun g.T.TakeRecords.leads account _ _ c.new-reader.result c.feed.new.self c.finish.new.self c.args.taker.now c.new-reader.ensures.begun c.new-reader.ensures.more c.new-reader.ensures.no_fault fed c.in_ok-feed.ensures.ok (c.finish.ensures.reads account [] fed) c.finish.ensures.finished c.requires)

pub returns-in_err-take_all-clause-stop : goal.returns-in_err-take_all-clause-stop
returns-in_err-take_all-clause-stop g c =
    let account = c.args.account.now in
    let fed = c.in_ok-feed.ensures.reads [] [] c.new-reader.ensures.begun in
    let so_far = begun g.T.TakeRecords.leads account _ _ c.new-reader.result c.feed.new.self c.finish.new.self c.args.taker.now c.new-reader.ensures.begun c.new-reader.ensures.more c.new-reader.ensures.no_fault fed c.in_ok-feed.ensures.ok (c.finish.ensures.reads account [] fed) c.finish.ensures.finished c.requires in
    handed (λ result. IfErr result (IsStop account)) c.in_err-take_all.field-0.0 c.from_residual-in_err-take_all.result (c.in_err-take_all.ensures account c.args.taker.now so_far) c.from_residual-in_err-take_all.ensures.1
