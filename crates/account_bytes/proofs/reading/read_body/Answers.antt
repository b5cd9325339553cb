-- A body is an entry's where its fields end with it.
use Rattle.std.proofs.Common.{List, ℕ, sym, subst, ◌∙◌}
use Rattle.byte_form.specs.Codes.{BeginsWith}
use Rattle.account_bytes.specs.Entries.{BodyFits, entry_body, entry_tag}
use Rattle.account_bytes.specs.Reading.{OfTag, Reads}
use Rattle.account_bytes.proofs.EntryLemmas.{body_goes_on, body_read, body_stopped, no_length, some_length}
use Rattle.account_bytes.proofs.reading.read_body.Goals as goal

pub returns-in_err-entry : goal.returns-in_err-entry
returns-in_err-entry c =
    let left = c.read_fields.new.text in
    let reads = subst (λ (b : List ℕ). Reads entry_body (OfTag entry_tag BodyFits c.args.tag) b c.read_fields.result left) c.new-text.ensures c.read_fields.ensures in
    body_stopped c.args.tag c.args.body.now left c.read_fields.result c.from_residual.result _ c.in_err-entry.was c.from_residual.ensures.1 reads

pub returns-then-done : goal.returns-then-done
returns-then-done c =
    let left = c.read_fields.new.text in
    let begins = subst (λ (b : List ℕ). BeginsWith entry_body (OfTag entry_tag BodyFits c.args.tag) b c.in_ok-entry.entry left) c.new-text.ensures c.in_ok-entry.ensures in
    body_read c.args.tag c.args.body.now left c.in_ok-entry.entry begins (no_length left (sym c.is_done-done.ensures ∙ c.if-done.true))

pub returns-else-done : goal.returns-else-done
returns-else-done c =
    let left = c.read_fields.new.text in
    let begins = subst (λ (b : List ℕ). BeginsWith entry_body (OfTag entry_tag BodyFits c.args.tag) b c.in_ok-entry.entry left) c.new-text.ensures c.in_ok-entry.ensures in
    body_goes_on c.args.tag c.args.body.now left c.in_ok-entry.entry begins.text_is begins.fits.0 begins.fits.1 (some_length left (sym c.is_done-done.ensures ∙ c.if-done.false))
