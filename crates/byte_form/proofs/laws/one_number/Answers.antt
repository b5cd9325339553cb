use Rattle.byte_form.proofs.CodeLemmas.{number_code}
use Rattle.byte_form.proofs.laws.one_number.Goals as goal

pub returns : goal.returns
returns c = number_code
