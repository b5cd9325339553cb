-- The signal is replaced, or it leads.
use Rattle.std.proofs.Common.{◌≡◌, ◌∙◌, ◌<◌, false, Some, length, slice_set, refl, ap, subst, arith}
use Rattle.std.proofs.lemmas.List.{get_or_default}
use Rattle.sweep.specs.declared.classes.Member.{Member}
use Rattle.sweep.specs.Classes.{member_at}
use Rattle.sweep.specs.Leaders.{some_at}
use Rattle.sweep.specs.Sweeping.{IsEqualTo}
use Rattle.sweep.proofs.SweepingLemmas.{sweeping_leading, sweeping_merged}
use Rattle.sweep.proofs.sweeping.Sweep.settle.Goals as goal

pub returns-in-Some : goal.returns-in-Some
returns-in-Some c =
    let net = c.args.exposed.now in
    let old = c.args.self.now in
    let equal = subst (IsEqualTo net old.replacements.items c.args.signal) c.in-Some.is c.requires.equal in
    sweeping_merged net old _ c.args.signal c.in-Some.literal c.requires.there equal refl refl refl c.requires.sweeping

pub returns-in-None : goal.returns-in-None
returns-in-None c =
    let net = c.args.exposed.now in
    let old = c.args.self.now in
    let n = c.args.signal in
    let equal = subst (IsEqualTo net old.replacements.items n) c.in-None.is c.requires.equal in
    let here : n < length old.members.items = omega (arith, c.requires.there, c.requires.sweeping.classes.count) in
    let at : c.index.result.now ≡ member_at old.members.items n = c.index.ensures ∙ get_or_default old.members.items n c.index.result.now (record { flip = false; class = 0 }) here in
    sweeping_leading net old _ n c.requires.there equal refl refl
    (c.add.ensures.before ∙ ap (λ (m : Member). slice_set old.leaders.before.items n (some_at old.leaders.last.items m.class)) at)
    (c.add.ensures.last ∙ ap (λ (m : Member). slice_set old.leaders.last.items m.class (Some n)) at)
    c.requires.sweeping
