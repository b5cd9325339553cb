use Rattle.std.proofs.Common.{sym, ◌∙◌}
use Rattle.std.proofs.lemmas.Bool.{false≢true}
use Rattle.pair_search.specs.Named.{IsGathered}
use Rattle.pair_search.specs.Resolutions.{left_out}
use Rattle.ban_book.proofs.ClosedLemmas.{closed_by_clash}
use Rattle.pair_search.proofs.ConflictLemmas.{not_left_out, not_resolved}
use Rattle.pair_search.proofs.GroundedLemmas.{learns_none}
use Rattle.pair_search.proofs.ReferLemmas.{closed_by_covers, closed_by_noted, named_of_gathered}
use Rattle.pair_search.proofs.refer.reference.Goals as goal

pub returns-then-is_impossible-clause-more : goal.returns-then-is_impossible-clause-more
returns-then-is_impossible-clause-more c = learns_none c.args.view.now.graphs.now c.args.view.now.domains.now.entries c.args.book.now

pub returns-then-is_impossible-clause-closed : goal.returns-then-is_impossible-clause-closed
returns-then-is_impossible-clause-closed c = closed_by_clash c.args.book.now c.args.conflict.now c.args.noted.way (c.is_impossible.ensures.0 c.if-is_impossible.true)

pub returns-in-Some-clause-more : goal.returns-in-Some-clause-more
returns-in-Some-clause-more c = learns_none c.args.view.now.graphs.now c.args.view.now.domains.now.entries c.args.book.now

pub returns-in-Some-clause-closed : goal.returns-in-Some-clause-closed
returns-in-Some-clause-closed c =
    closed_by_covers c.args.book.now c.args.conflict.now c.args.noted.way c.in-Some.ban (λ imp. false≢true (sym c.if-is_impossible.false ∙ c.is_impossible.ensures.1 imp)) (rw c.in-Some.ensures.found at c.requires.resolved)

pub returns-in-Some-ban-clause-closed : goal.returns-in-Some-ban-clause-closed
returns-in-Some-ban-clause-closed c =
    let es = c.args.view.now.domains.now.entries in
    closed_by_noted c.args.book.now es c.args.conflict.now c.args.noted.way c.args.noted.ban c.in-Some-ban.number c.in-Some-ban.is (λ imp. false≢true (sym c.if-is_impossible.false ∙ c.is_impossible.ensures.1 imp)) (not_left_out (left_out c.args.resolved) c.args.noted.way (IsGathered c.args.book.now es c.args.conflict.now c.args.noted.way c.args.noted.ban) (not_resolved c.args.resolved c.args.noted.way c.in_default.ensures.none) c.requires.gathered)

pub ban_of_deleted-requires-clause-possible : goal.ban_of_deleted-requires-clause-possible
ban_of_deleted-requires-clause-possible c = λ imp. false≢true (sym c.if-is_impossible.false ∙ c.is_impossible.ensures.1 imp)

pub ban_of_deleted-requires-clause-named : goal.ban_of_deleted-requires-clause-named
ban_of_deleted-requires-clause-named c =
    let es = c.args.view.now.domains.now.entries in
    named_of_gathered c.args.book.now es c.args.conflict.now c.args.noted.way c.args.noted.ban c.in_default-ban.is (λ imp. false≢true (sym c.if-is_impossible.false ∙ c.is_impossible.ensures.1 imp)) (not_left_out (left_out c.args.resolved) c.args.noted.way (IsGathered c.args.book.now es c.args.conflict.now c.args.noted.way c.args.noted.ban) (not_resolved c.args.resolved c.args.noted.way c.in_default.ensures.none) c.requires.gathered)

pub returns-clause-closed : goal.returns-clause-closed
returns-clause-closed c =
    closed_by_covers c.ban_of_deleted.new.book c.args.conflict.now c.args.noted.way c.in_ok-ban.ban (λ imp. false≢true (sym c.if-is_impossible.false ∙ c.is_impossible.ensures.1 imp)) c.in_ok-ban.ensures.covers
