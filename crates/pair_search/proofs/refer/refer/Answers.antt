-- What stands for the first ways, and for one more.
use Rattle.std.proofs.Common.{◌+◌, [], sym, subst, take, arith}
use Rattle.std.proofs.lemmas.List.{take_all}
use Rattle.std.proofs.lemmas.Slice.Zip.{AllZip-long}
use Rattle.ban_book.proofs.ListLemmas.{zip_taken}
use Rattle.ban_book.specs.Ways.{AreClosed, IsClosed}
use Rattle.pair_search.specs.Resolutions.{left_out}
use Rattle.pair_search.proofs.GroundedLemmas.{zip_at, closed_later, gathered_later, learns_none, learns_twice, resolved_later}
use Rattle.pair_search.proofs.refer.refer.Goals as goal

pub loop-place-init : goal.loop-place-init
loop-place-init c = (
  subst (AreClosed c.args.book.now c.args.conflict.now []) (sym c.new-refs.ensures) tt,
  learns_none c.args.view.now.graphs.now c.args.view.now.domains.now.entries c.args.book.now,
)

pub bounds-noted-place : goal.bounds-noted-place
bounds-noted-place c =
    let long = AllZip-long _ c.args.noted.now.ways.now c.args.noted.now.bans.now c.requires.gathered in
    omega (arith, long, c.loop-place-test.true)

pub reference-requires-clause-known : goal.reference-requires-clause-known
reference-requires-clause-known c = c.requires.known c.loop-place.place _ c.loop-place-test.true

pub reference-requires-clause-resolved : goal.reference-requires-clause-resolved
reference-requires-clause-resolved c =
    let more = c.loop-place.invariant.1 in
    resolved_later c.args.book.now more.added c.loop-place.book c.args.conflict.now c.args.resolved more.more c.requires.resolved

pub reference-requires-clause-gathered : goal.reference-requires-clause-gathered
reference-requires-clause-gathered c =
    let more = c.loop-place.invariant.1 in
    gathered_later c.args.book.now more.added c.loop-place.book c.args.view.now.domains.now.entries c.args.conflict.now (left_out c.args.resolved) _ _ more.more (zip_at _ c.args.noted.now.ways.now c.args.noted.now.bans.now c.loop-place.place _ _ c.requires.gathered c.loop-place-test.true)

pub returns-in_err-reference-clause-more : goal.returns-in_err-reference-clause-more
returns-in_err-reference-clause-more c =
    learns_twice c.args.view.now.graphs.now c.args.view.now.domains.now.entries c.args.book.now c.loop-place.book c.reference.new.book c.loop-place.invariant.1 c.in_err-reference.ensures.more

pub returns-in_err-push-clause-more : goal.returns-in_err-push-clause-more
returns-in_err-push-clause-more c =
    learns_twice c.args.view.now.graphs.now c.args.view.now.domains.now.entries c.args.book.now c.loop-place.book c.reference.new.book c.loop-place.invariant.1 c.in_ok-reference.ensures.more

pub loop-place-preserved : goal.loop-place-preserved
loop-place-preserved c =
    let after = c.reference.new.book in
    let conflict = c.args.conflict.now in
    let ways = c.args.noted.now.ways.now in
    let more = c.in_ok-reference.ensures.more in (
      subst (AreClosed after conflict (take (c.loop-place.place + 1) ways)) (sym c.in_ok-push.ensures.ok) (zip_taken (IsClosed after conflict) ways c.loop-place.place _ c.loop-place.refs c.in_ok-reference.reference c.loop-place-test.true (closed_later c.loop-place.book more.added after conflict (take c.loop-place.place ways) c.loop-place.refs more.more c.loop-place.invariant.0) c.in_ok-reference.ensures.closed),
      learns_twice c.args.view.now.graphs.now c.args.view.now.domains.now.entries c.args.book.now c.loop-place.book after c.loop-place.invariant.1 c.in_ok-reference.ensures.more,
    )

pub returns-clause-closed : goal.returns-clause-closed
returns-clause-closed c =
    subst (λ l. AreClosed c.loop-place.book c.args.conflict.now l c.loop-place.refs) (take_all c.loop-place.place c.args.noted.now.ways.now c.loop-place-test.false) c.loop-place.invariant.0
