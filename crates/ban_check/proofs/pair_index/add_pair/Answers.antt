use Rattle.std.proofs.lemmas.List.{get_or_default}
use Rattle.ban_check.proofs.PairIndexLemmas.{index_put}
use Rattle.ban_check.proofs.pair_index.add_pair.Goals as goal

pub returns : goal.returns
returns c =
    index_put c.args.pairs.now c.args.place _ c.args.by_port.now.entries c.put.new.by_port.entries c.put-2.new.by_port.entries c.port_of.result c.port_of-2.result c.in_ok-put.ensures c.in_ok-put-2.ensures c.port_of.ensures c.port_of-2.ensures c.requires.there (λ d. get_or_default c.args.pairs.now c.args.place d _ c.requires.there) c.requires.ordered c.requires.index
