use Rattle.account_core.specs.Assigned.{IsEntryOf}
use Rattle.ban_book.proofs.OrderLemmas.{assigned_more}
use Rattle.match_search.proofs.matching.put_partners.Goals as goal

pub loop-pair-preserved : goal.loop-pair-preserved
loop-pair-preserved c =
    assigned_more c.args.assigned.now c.loop-pair.pair-index _ (IsEntryOf c.args.kind c.loop-pair.partners) (IsEntryOf c.args.kind c.put_partner.new.partners) c.loop-pair-test.true c.requires.apart c.put_partner.ensures.others c.loop-pair.invariant c.put_partner.ensures.put
