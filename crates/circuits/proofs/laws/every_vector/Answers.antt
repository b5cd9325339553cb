-- The code is the vector read as digits in base two.
use Rattle.circuits.proofs.Codes.{code_of, code_of-below, vector_of-code_of}
use Rattle.circuits.proofs.laws.every_vector.Goals as goal

pub returns : goal.returns
returns c = λ x. (code_of x, code_of-below x, vector_of-code_of x)
