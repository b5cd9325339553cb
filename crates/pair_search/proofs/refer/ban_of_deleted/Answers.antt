use Rattle.std.proofs.Common.{subst}
use Rattle.pair_search.specs.Deletions.{IsExcluded}
use Rattle.pair_search.proofs.NamedLemmas.{one_reason}
use Rattle.pair_search.proofs.ReferLemmas.{impossible_by}
use Rattle.pair_search.proofs.refer.ban_of_deleted.Goals as goal

pub returns-clause-covers : goal.returns-clause-covers
returns-clause-covers c =
    let pairs = c.args.conflict.now in
    let named = one_reason c.args.book.now c.args.view.now.domains.now.entries pairs c.args.way c.in-Some.reason c.entries-lawful.ensures.lawful.distinct c.in-Some.ensures.found c.requires.named in
    subst (IsExcluded c.deletion_by.new.book pairs c.args.way) c.in-Ban.is (c.in_ok-number.ensures.excluded pairs named)

pub unreachable-requires-in-Clash : goal.unreachable-requires-in-Clash
unreachable-requires-in-Clash c =
    let pairs = c.args.conflict.now in
    let named = one_reason c.args.book.now c.args.view.now.domains.now.entries pairs c.args.way c.in-Some.reason c.entries-lawful.ensures.lawful.distinct c.in-Some.ensures.found c.requires.named in
    c.requires.possible (impossible_by pairs c.args.way c.in-Clash.field-0 (subst (IsExcluded c.deletion_by.new.book pairs c.args.way) c.in-Clash.is (c.in_ok-number.ensures.excluded pairs named)))
