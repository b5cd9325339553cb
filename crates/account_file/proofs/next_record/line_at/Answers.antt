use Rattle.std.proofs.Common.{sym, ap, subst, ◌∙◌}
use Rattle.account_file.specs.Forms.{record_in}
use Rattle.account_file.specs.NextRecords.{in_place}
use Rattle.account_file.specs.Texts.{Answers}
use Rattle.account_file.specs.Words.{words_of}
use Rattle.account_file.proofs.NextLemmas.{later_line}
use Rattle.account_file.proofs.next_record.line_at.Goals as goal

pub returns : goal.returns
returns c =
    let read = subst (λ r. Answers (λ entry. entry) r (record_in (words_of c.args.line.now))) c.in_ok-entry.was c.read_line.ensures in
    later_line c.args.place c.args.line.now c.in_default.not-Start ∙ ap (λ r. in_place c.args.place r) read ∙ sym c.in_place.ensures ∙ c.in_ok-in_place.was
