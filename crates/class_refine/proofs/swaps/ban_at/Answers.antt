use Rattle.std.proofs.Common.{[], ◌∷◌, ap, subst, sym, ◌∙◌}
use Rattle.claim_core.specs.declared.claims.Claim.{Claim}
use Rattle.ban_book.proofs.VectorLemmas.{facts_decided}
use Rattle.ban_book.specs.declared.mismatched.Unlike.{Unlike}
use Rattle.ban_book.specs.Mismatched.{mismatch_of}
use Rattle.ban_book.specs.Shown.{IsShownBan}
use Rattle.ban_book.specs.DecidedClaims.{IsDecidedAs}
use Rattle.class_refine.specs.Rows.{decided}
use Rattle.class_refine.proofs.SwapLemmas.{exchange_shown}
use Rattle.class_refine.proofs.swaps.ban_at.Goals as goal

pub returns-clause-shown : goal.returns-clause-shown
returns-clause-shown c =
    let graphs = c.args.grounds.now.graphs.now in
    let facts = decided c.args.grounds.now in
    let e = c.in-Some.exchange in
    let fact = c.decided_at-fact.result in
    let image = c.in-Some-otherwise.image in
    let here = subst (λ (claim : Claim). IsDecidedAs facts claim fact.holds fact.number) (sym c.claim_at.ensures) c.decided_at-fact.ensures.decided in
    let there = subst (λ (claim : Claim). IsDecidedAs facts claim image.holds image.number) c.carry.ensures c.in-Some-otherwise.ensures.found in
    subst (IsShownBan graphs facts c.args.pairs.now) (sym (c.in_ok-ban.ensures ∙ ap (λ (u : Unlike). mismatch_of (e.one ∷ e.other ∷ e.output ∷ []) u) c.unlike_of.ensures)) (exchange_shown graphs facts c.args.pairs.now c.claim_at.result e fact.holds image.holds fact.number image.number (facts_decided graphs c.args.grounds.now.facts.now c.requires.grounds.lawful) c.requires.known c.in-Some.ensures.found here there c.in-Some-otherwise.ensures.differ)

pub otherwise-requires-clause-distinct : goal.otherwise-requires-clause-distinct
otherwise-requires-clause-distinct c = (facts_decided c.args.grounds.now.graphs.now c.args.grounds.now.facts.now c.requires.grounds.lawful).distinct
