-- What is left of the records proves what they do.
use Rattle.std.proofs.lemmas.Result.{IfOk-weaker}
use Rattle.account_trim.specs.Trims.{IsLeft, IsTrimmed}
use Rattle.account_trim.proofs.OutcomeLemmas.{trimmed_is}
use Rattle.account_trim.proofs.trimming.trim_accepted.Goals as goal

pub records_of-requires : goal.records_of-requires
records_of-requires c = (c.requires.1.records, c.requires.1.account)

pub returns : goal.returns
returns c =
    let graphs = c.args.graphs.now in
    let bytes = c.args.account.now in
    let records = c.in_ok-records.records in
    IfOk-weaker c.trim_records.result (IsLeft graphs records) (IsTrimmed graphs bytes)
    (λ trimmed left. trimmed_is graphs bytes records trimmed c.requires.0 c.requires.1 c.in_ok-records.ensures left)
    c.trim_records.ensures
