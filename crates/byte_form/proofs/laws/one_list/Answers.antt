use Rattle.std.proofs.Common.{◌<◌, ◌^◌}
use Rattle.byte_form.specs.Codes.{number_bytes}
use Rattle.byte_form.proofs.CodeLemmas.{list_code, number_code}
use Rattle.byte_form.proofs.laws.one_list.Goals as goal

pub returns : goal.returns
returns c = λ n. list_code (number_bytes n) (λ x. x < 256 ^ n) (number_code n)
