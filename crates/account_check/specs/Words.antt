-- The words for what is wrong with a line (this project's reports).
use Rattle.std.specs.Prelude.{ℕ, List, codes}
use Rattle.account_file.specs.declared.fault.RecordFault.{RecordFault}
use Rattle.account_file.specs.declared.fault.RecordFault.TheVariants as fault
use Rattle.account_check.specs.declared.reject.Reject.{Reject}
use Rattle.account_check.specs.declared.reject.Reject.TheVariants as reject
use Rattle.account_check.specs.declared.verdict.Why.{Why}
use Rattle.account_check.specs.declared.verdict.Why.TheVariants.{Form, Record}

-- the word for a line that is wrong by itself: what it says, or where it stands
abbrev pub form_word : RecordFault → List ℕ
form_word fault.Header = codes "header"
form_word fault.Word = codes "word"
form_word fault.Number = codes "number"
form_word fault.Order = codes "order"
form_word fault.Truncated = codes "truncated"
form_word fault.Trailing = codes "trailing"

-- the word for a record that is wrong of these two circuits
abbrev pub reject_word : Reject → List ℕ
reject_word reject.UnknownId = codes "id"
reject_word reject.VectorFails = codes "vector"
reject_word (reject.Refutation fault) = codes "refutation"
reject_word reject.Rule = codes "rule"
reject_word reject.Conclusion = codes "conclusion"

-- the word by which a report says what is wrong with an account
abbrev pub word_of : Why → List ℕ
word_of (Form fault) = form_word fault
word_of (Record reject) = reject_word reject
