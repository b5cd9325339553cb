use Rattle.pair_search.proofs.ConflictLemmas.{ban_lent, covers_lent}
use Rattle.pair_search.proofs.conflict_set.conflict_set_of_ban.Goals as goal

pub add_all-requires-clause-among : goal.add_all-requires-clause-among
add_all-requires-clause-among c =
    ban_lent c.args.bans.now c.args.assigned.now c.deref.result.now c.args.number c.index-bans-number.result c.requires.covers c.deref.ensures

pub returns : goal.returns
returns c = record {
  part = c.in_ok-add_all.ensures.part;
  covers = covers_lent c.args.bans.now c.add_all.new.needed.items c.deref.result.now c.args.number c.index-bans-number.result c.requires.covers.kept c.deref.ensures c.in_ok-add_all.ensures.among;
}
