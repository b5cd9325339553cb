use Rattle.account_convert.proofs.ConvertLemmas.{dues_are}
use Rattle.account_convert.proofs.conversion.dues_of.Goals as goal

pub returns-clause-dues : goal.returns-clause-dues
returns-clause-dues c = dues_are c.args.account.now c.in_ok-mentions.mentions c.in_ok-dues_by.field-0 c.in_ok-mentions.ensures.mentions c.in_ok-dues_by.ensures.facts c.in_ok-dues_by.ensures.bans
