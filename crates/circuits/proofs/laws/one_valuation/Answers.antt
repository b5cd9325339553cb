-- The valuation computed gate by gate fits, and no other.
use Rattle.circuits.proofs.Valuations.{valuation_of-fits, valuation_of-only}
use Rattle.circuits.proofs.laws.one_valuation.Goals as goal

pub returns : goal.returns
returns c = record { fits = valuation_of-fits; only = valuation_of-only }
