-- The definitions' bits, computed level by level, fit, and no others.
use Rattle.circuits.proofs.CircuitValuations.{some_valuation, one_valuation}
use Rattle.circuits.proofs.laws.one_valuation_of_circuit.Goals as goal

pub returns : goal.returns
returns c = record { some = some_valuation; only = one_valuation }
