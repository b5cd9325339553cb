-- The entries before the first choice follow, and are shown, as they were.
use Rattle.std.proofs.Common.{◌∙◌, length, sym, ap, arith}
use Rattle.pair_domains.specs.Trails.{Domained}
use Rattle.pair_search.proofs.StepLemmas.{stays_front, stays_none, zero_before, zero_whole}
use Rattle.pair_search.proofs.back.start_over.Goals as goal

pub returns-in-Some-clause-entries : goal.returns-in-Some-clause-entries
returns-in-Some-clause-entries c =
    ap (λ (d : Domained). d.entries) c.back_to.ensures ∙ sym (zero_before c.args.domains.now.entries c.entries-entries.result.now c.in-Some.place c.entries-entries.ensures.value c.in-Some.ensures.choice c.in-Some.ensures.first)

pub returns-in-Some-clause-stays : goal.returns-in-Some-clause-stays
returns-in-Some-clause-stays c = λ bans justified.
    stays_front bans c.args.domains.now c.back_to.new.self c.in-Some.place c.back_to.ensures (omega (arith, c.in-Some.ensures.to, ap length c.entries-entries.ensures.value)) justified

pub returns-in_default-clause-entries : goal.returns-in_default-clause-entries
returns-in_default-clause-entries c =
    sym (zero_whole c.args.domains.now.entries c.entries-entries.result.now c.entries-entries.ensures.value c.in_default.ensures.none)

pub returns-in_default-clause-stays : goal.returns-in_default-clause-stays
returns-in_default-clause-stays c = λ bans justified. stays_none bans c.args.domains.now justified
