-- A tally names two lists of facts.
use Rattle.std.proofs.Common.{sym, ap, ◌∙◌}
use Rattle.std.proofs.lemmas.List.Sums.{fold-append}
use Rattle.refusal_core.specs.Names.{facts_named}
use Rattle.account_convert.specs.Tables.{all_mentioned, mentioned}
use Rattle.account_convert.proofs.mentions.mention_facts.Goals as goal

pub returns-in-Tally : goal.returns-in-Tally
returns-in-Tally c =
    let record_number = c.args.record_number in
    let old = c.args.table.now in
    let have = c.in-Tally.have in
    let lack = c.in-Tally.lack in
    c.mention_all-in-Tally-2.ensures
    ∙ (ap (λ ns. all_mentioned record_number c.mention_all-in-Tally.new.table ns) c.deref-in-Tally.ensures.value
    ∙ (ap (λ t. all_mentioned record_number t lack) (c.mention_all-in-Tally.ensures ∙ ap (λ ns. all_mentioned record_number old ns) c.deref.ensures.value)
    ∙ (sym (fold-append (mentioned record_number) old have lack)
    ∙ ap (λ s. all_mentioned record_number old (facts_named s)) (sym c.in-Tally.is))))
