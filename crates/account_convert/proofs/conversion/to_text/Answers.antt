use Rattle.std.proofs.Common.{refl}
use Rattle.account_convert.proofs.ConvertLemmas.{to_text_is}
use Rattle.account_convert.proofs.conversion.to_text.Goals as goal

pub returns-clause-converted : goal.returns-clause-converted
returns-clause-converted c =
    to_text_is c.args.account.now (record { bytes = c.new.result }) c.read_all.new.taker _ c.in_ok-records.records c.requires c.new.ensures.items c.in_ok-records.ensures.led refl refl refl c.from_vec.ensures
