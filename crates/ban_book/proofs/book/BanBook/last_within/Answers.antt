use Rattle.std.proofs.Common.{rules, ◌≡◌, ◌<◌, ℕ, suc, List, Option, None, get_or, sym, subst, ◌∙◌, arith}
use Rattle.std.proofs.lemmas.Bool.{false≢true}
use Rattle.std.proofs.lemmas.List.{get_or_default}
use Rattle.account_core.specs.declared.step.Ban.{Ban}
use Rattle.ban_book.specs.Chains.{HasNoneWithin, IsOfChain, last_of}
use Rattle.ban_book.specs.Covering.{Covers, IsWithin}
use Rattle.ban_book.proofs.ChainLemmas.{chain_there, fewer_left, left, walked_all, walked_covers, walked_more, walked_none}
use Rattle.ban_book.proofs.book.BanBook.last_within.Goals as goal

pub loop-next-init : goal.loop-next-init
loop-next-init c =
    let old = c.self.inside in
    walked_none old.bans.items (last_of old.heads.entries) old.before.items c.self.invariant c.args.first c.args.pairs.now c.copied-next.result (search rules)

pub index-requires : goal.index-requires
index-requires c =
    let is = chain_there c.self.inside.bans.items c.args.first c.args.pairs.now c.loop-next.next c.in-Some.number c.in-Some.is c.loop-next.invariant in
    omega (arith, is.there, c.self.inside.bans.ok.0)

pub returns-then-is_within-clause-found : goal.returns-then-is_within-clause-found
returns-then-is_within-clause-found c =
    let pairs = c.args.pairs.now in
    let number = c.in-Some.number in
    subst (λ (l : List Ban). Covers l pairs number) c.self.view_is (walked_covers c.self.inside.bans.items c.args.first pairs c.loop-next.next number c.in-Some.is c.loop-next.invariant c.index.result.now (subst (IsWithin pairs) c.index.ensures (c.is_within.ensures.0 c.if-is_within.true)))

pub index-next-requires : goal.index-next-requires
index-next-requires c =
    let is = chain_there c.self.inside.bans.items c.args.first c.args.pairs.now c.loop-next.next c.in-Some.number c.in-Some.is c.loop-next.invariant in
    omega (arith, is.there, c.self.invariant.size, c.self.inside.before.ok.0)

pub loop-next-smaller : goal.loop-next-smaller
loop-next-smaller c =
    let old = c.self.inside in
    let number = c.in-Some.number in
    let is = chain_there old.bans.items c.args.first c.args.pairs.now c.loop-next.next number c.in-Some.is c.loop-next.invariant in
    let next : c.index-next.result.now ≡ get_or old.before.items number None = c.index-next.ensures ∙ get_or_default old.before.items number c.index-next.result.now None (omega (arith, is.there, c.self.invariant.size)) in
    let less = fewer_left (get_or old.before.items number None) number (IsOfChain old.bans.items c.args.first) (c.self.invariant.befores c.args.first number is).found in
    subst (λ (l : Option ℕ). left c.index-next.result.now < left l) (sym c.in-Some.is) (subst (λ (l : Option ℕ). left l < suc number) (sym next) less)

pub loop-next-preserved : goal.loop-next-preserved
loop-next-preserved c =
    let old = c.self.inside in
    let pairs = c.args.pairs.now in
    let number = c.in-Some.number in
    let is = chain_there old.bans.items c.args.first pairs c.loop-next.next number c.in-Some.is c.loop-next.invariant in
    let next : c.index-next.result.now ≡ get_or old.before.items number None = c.index-next.ensures ∙ get_or_default old.before.items number c.index-next.result.now None (omega (arith, is.there, c.self.invariant.size)) in
    walked_more old.bans.items (last_of old.heads.entries) old.before.items c.self.invariant c.args.first pairs number c.index.result.now c.loop-next.next c.index-next.result.now c.in-Some.is (λ within. false≢true (sym c.if-is_within.false ∙ c.is_within.ensures.1 (subst (IsWithin pairs) (sym c.index.ensures) within))) next c.loop-next.invariant

pub returns-clause-none : goal.returns-clause-none
returns-clause-none c =
    let old = c.self.inside in
    let end : c.loop-next.next ≡ None = search (rules, c.in_default.is) in
    subst (λ (l : List Ban). HasNoneWithin l c.args.first c.args.pairs.now) c.self.view_is (walked_all old.bans.items (last_of old.heads.entries) old.before.items c.self.invariant c.args.first c.args.pairs.now c.loop-next.next end c.loop-next.invariant)
