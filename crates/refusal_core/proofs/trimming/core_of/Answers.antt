-- The bans that are kept name what there is, as all do.
use Rattle.std.proofs.Common.{◌≡◌, ◌<◌, ◌∙◌, All, length, ap, subst, sym}
use Rattle.account_core.specs.declared.step.Ban.{Ban}
use Rattle.refusal_core.specs.Names.{bans_named, facts_named}
use Rattle.refusal_core.specs.Trims.{kept}
use Rattle.refusal_core.proofs.KeptLemmas.{All-kept}
use Rattle.refusal_core.proofs.trimming.core_of.Goals as goal

pub renumber_all-requires-clause-facts : goal.renumber_all-requires-clause-facts
renumber_all-requires-clause-facts c =
    let marks = c.args.marks.now.bans.items in
    let P = λ (ban : Ban). All (λ k. k < length c.args.numbers.now.facts) (facts_named ban.step) in
    let are : c.keep_marked-2.new.list.items ≡ kept marks c.args.bans = c.keep_marked-2.ensures ∙ (ap (λ m. kept m c.into_vec-bans.result.items) c.deref-2.ensures.value ∙ ap (kept marks) c.into_vec-bans.ensures) in
    subst (All P) (sym are) (All-kept P marks c.args.bans c.requires.marks.1 c.requires.facts)

pub renumber_all-requires-clause-bans : goal.renumber_all-requires-clause-bans
renumber_all-requires-clause-bans c =
    let marks = c.args.marks.now.bans.items in
    let P = λ (ban : Ban). All (λ k. k < length c.args.numbers.now.bans) (bans_named ban.step) in
    let are : c.keep_marked-2.new.list.items ≡ kept marks c.args.bans = c.keep_marked-2.ensures ∙ (ap (λ m. kept m c.into_vec-bans.result.items) c.deref-2.ensures.value ∙ ap (kept marks) c.into_vec-bans.ensures) in
    subst (All P) (sym are) (All-kept P marks c.args.bans c.requires.marks.1 c.requires.bans)
