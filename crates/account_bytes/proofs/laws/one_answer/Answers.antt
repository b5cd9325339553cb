use Rattle.account_bytes.specs.Entries.{entry_body, entry_tag}
use Rattle.account_bytes.proofs.laws.one_answer.Goals as goal

pub returns-clause-entry_is_whole : goal.returns-clause-entry_is_whole
returns-clause-entry_is_whole c = λ text left entry begins h.
    h.none (entry_tag entry, entry_body entry) left (record { fits = begins.fits.length_fits; text_is = begins.text_is })

pub returns-clause-entry_has_form : goal.returns-clause-entry_has_form
returns-clause-entry_has_form c = λ text left entry begins h. h.none.none entry left begins

pub returns-clause-malformed_is_whole : goal.returns-clause-malformed_is_whole
returns-clause-malformed_is_whole c = λ text malformed h. h.none malformed.frame malformed.left malformed.whole
