use Rattle.std.proofs.lemmas.Result.{on_ok_weaker}
use Rattle.account_convert.proofs.MentionLemmas.{mentions_more}
use Rattle.account_convert.proofs.mentions.MentionsTakeRecords.take.Goals as goal

pub returns : goal.returns
returns c first before led number_is =
    on_ok_weaker c.mention_in_bans.result (λ bans. mentions_more first c.args.self.now (record { facts = c.mention_in_facts.new.table; bans = c.mention_in_bans.new.table }) before c.args.entry.now c.args.record_number led number_is c.in_ok-mention_in_facts.ensures bans) c.mention_in_bans.ensures
