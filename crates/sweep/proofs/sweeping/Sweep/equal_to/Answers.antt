-- The signal was compared with one more of its class, or with all.
use Rattle.std.proofs.Common.{◌≡◌, ◌∙◌, ◌<◌, false, length, refl, sym, ap, subst, arith}
use Rattle.std.proofs.lemmas.List.{get_or_default}
use Rattle.sweep.specs.declared.classes.Member.{Member}
use Rattle.sweep.specs.declared.comparing.SignalPair.{SignalPair}
use Rattle.sweep.specs.Classes.{member_at}
use Rattle.sweep.specs.Comparing.{HasCompared}
use Rattle.sweep.specs.Leaders.{IsLast, LeadsIn, some_at}
use Rattle.sweep.specs.Signals.{AreUnlike}
use Rattle.sweep.specs.Sweeping.{IsBetween, IsVerdict, Tells}
use Rattle.sweep.proofs.SweepingLemmas.{between_end, between_first, between_next, compared_on}
use Rattle.sweep.proofs.sweeping.Sweep.equal_to.Goals as goal

pub loop-next-init : goal.loop-next-init
loop-next-init c =
    let net = c.args.exposed.now in
    let sweep = c.args.self.now in
    let s = c.args.signal in
    let members = sweep.members.items in
    let here : s < length members = omega (arith, c.requires.there, c.requires.sweeping.classes.count) in
    let at : c.index.result.now ≡ member_at members s = c.index.ensures ∙ get_or_default members s c.index.result.now (record { flip = false; class = 0 }) here in
    let last : IsLast (LeadsIn members sweep.replacements.items (member_at members s).class) s c.last_of-next.result =
    subst (IsLast (LeadsIn members sweep.replacements.items (member_at members s).class) s) (sym (c.last_of-next.ensures ∙ ap (λ (m : Member). some_at sweep.leaders.last.items m.class) at))
    (c.requires.sweeping.chained.last_of (member_at members s).class (omega (arith, c.requires.sweeping.classes.few s c.requires.there, c.requires.sweeping.classes.count))) in
    (between_first net sweep s c.args.ledger.now c.last_of-next.result c.requires.compared last, refl)

pub literal_of-requires : goal.literal_of-requires
literal_of-requires c =
    let between = subst (IsBetween c.args.exposed.now c.args.self.now c.args.signal c.loop-next.ledger) c.in-Some.is c.loop-next.invariant.0 in
    omega (arith, ap (λ (p : SignalPair). p.one) c.pair_of-pair.ensures, between.0, c.requires.there, c.signals-signals.ensures.graph.signals)

pub loop-next-preserved : goal.loop-next-preserved
loop-next-preserved c =
    let net = c.args.exposed.now in
    let sweep = c.args.self.now in
    let s = c.args.signal in
    let one = c.in-Some.one in
    let members = sweep.members.items in
    let replacements = sweep.replacements.items in
    let pair = c.pair_of-pair.result in
    let after = c.is_same.new.ledger in
    let between = subst (IsBetween net sweep s c.loop-next.ledger) c.in-Some.is c.loop-next.invariant.0 in
    let tells = subst (Tells net pair c.loop-next.ledger after) c.in_ok-is_same.was c.is_same.ensures in
    let first : pair.one ≡ one = ap (λ (p : SignalPair). p.one) c.pair_of-pair.ensures in
    let second : pair.other ≡ s = ap (λ (p : SignalPair). p.other) c.pair_of-pair.ensures in
    let apart : AreUnlike net pair.other pair.one = subst (IsVerdict net pair) c.if-branch.false tells.answer in
    let unlike : AreUnlike net s one = subst (AreUnlike net s) first (subst (λ t. AreUnlike net t pair.one) second apart) in
    let compared : HasCompared net s one after =
    subst (λ t. HasCompared net s t after) first (subst (λ t. HasCompared net t pair.one after) second tells.compared) in
    let last : IsLast (LeadsIn members replacements (member_at members s).class) one c.before-next.result =
    subst (IsLast (LeadsIn members replacements (member_at members s).class) one) (sym c.before-next.ensures)
    (subst (λ k. IsLast (LeadsIn members replacements k) one (some_at sweep.leaders.before.items one)) between.1.0
    (c.requires.sweeping.chained.before_of one between.0 between.1.1)) in
    (between_next net sweep s one c.loop-next.ledger after c.before-next.result between unlike compared last, tells.budget ∙ c.loop-next.invariant.1)

pub returns : goal.returns
returns c =
    let net = c.args.exposed.now in
    let sweep = c.args.self.now in
    let s = c.args.signal in
    let ledger = c.loop-next.ledger in
    let between = subst (IsBetween net sweep s ledger) c.in_default.is c.loop-next.invariant.0 in
    record {
      answer = between_end net sweep s ledger c.requires.there c.requires.sweeping.classes between;
      compared = compared_on net s 0 ledger between.0;
      budget = c.loop-next.invariant.1;
      stopped = tt;
    }
